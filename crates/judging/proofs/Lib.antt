mod Deciding
mod Ordering
mod Reading

-- The numbers of the refusals that a call in service can meet.
use Rattle.std.specs.Prelude.{ℕ}
use Rattle.controller.specs.declared.call.CallRefusal.{CallRefusal}
use Rattle.controller.specs.declared.call.CallRefusal.TheVariants.{ShortMemory, NotAttached, UnfitReading}

abbrev pub number : CallRefusal → ℕ
number ShortMemory = 0x52
number NotAttached = 0x53
number UnfitReading = 0x54

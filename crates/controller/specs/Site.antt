-- What commissioning leaves.
use Rattle.std.specs.Prelude.{ℕ, Bool, cond, List, [], ◌∷◌, ◌++◌, Ok, Err, Result}
use Rattle.octets.specs.Held.{held, stretch}
use Rattle.rack.specs.declared.refusal.Refusal.{Refusal}
use Rattle.rack.specs.declared.refusal.Refusal.TheVariants.{Unfit}
use Rattle.rack.specs.Face.{has}
use Rattle.session.specs.declared.Offsets.{Offsets}
use Rattle.controller.specs.declared.site.Site.{Site}

-- the group of each attached sign
abbrev pub groups_of : Site → List ℕ
groups_of s = held s.sign_groups

abbrev pub offsets : ℕ → ℕ → Offsets
offsets seed password = record { seed = seed; password = password }

-- Before anything is set.
abbrev pub fresh : Site
fresh = record { address = 1; offsets = offsets 0 0; silence_limit = 180; sign_groups = stretch 12 [] }

abbrev pub with_address : ℕ → Site → Site
with_address a s = record { address = a; offsets = s.offsets; silence_limit = s.silence_limit; sign_groups = s.sign_groups }

abbrev pub with_offsets : Offsets → Site → Site
with_offsets o s = record { address = s.address; offsets = o; silence_limit = s.silence_limit; sign_groups = s.sign_groups }

abbrev pub with_seed_offset : ℕ → Site → Site
with_seed_offset o s = with_offsets (offsets o s.offsets.password) s

abbrev pub with_password_offset : ℕ → Site → Site
with_password_offset o s = with_offsets (offsets s.offsets.seed o) s

abbrev pub with_silence_limit : ℕ → Site → Site
with_silence_limit l s = record { address = s.address; offsets = s.offsets; silence_limit = l; sign_groups = s.sign_groups }

-- The next sign is attached to a group.
abbrev pub with_sign : ℕ → Site → Site
with_sign g s = record { address = s.address; offsets = s.offsets; silence_limit = s.silence_limit; sign_groups = stretch 12 (groups_of s ++ g ∷ []) }

-- Groups are numbered 1 to 12.
abbrev pub is_group : ℕ → Bool
is_group g = has 12 g

-- The answer to a number that is set: nothing, or that it is unfit.
abbrev pub setting : Bool → Result (Unit {0}) Refusal
setting fit = cond fit (Ok tt) (Err Unfit)

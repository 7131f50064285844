-- Which readings a slot takes, and what the slots hold. Assumes nothing.
use Rattle.std.specs.Prelude.{ℕ, Bool, true, false, cond, List, [], ◌∷◌, ◌++◌, Some, None, Ok, Err, Option, Result, ◌==◌}
use Rattle.analog.specs.Codes.{code_of}
use Rattle.analog.specs.declared.reading.Reading.{Reading}
use Rattle.analog.specs.declared.reading.Reading.TheVariants.{Volts, Celsius, Absent}
use Rattle.analog.specs.declared.slots.Slot.{Slot}
use Rattle.analog.specs.declared.slots.Slot.TheVariants.{Mains, Battery, Temperature}
use Rattle.analog.specs.declared.slots.State.{State}
use Rattle.analog.specs.declared.slots.State.TheVariants.{Normal, Warning, Alarm}
use Rattle.analog.specs.declared.slots.Refusal.{Refusal}
use Rattle.analog.specs.declared.slots.Refusal.TheVariants.{NoSlot, OtherKind, NoState}
use Rattle.analog.specs.declared.slots.Entry.{Entry}
use Rattle.analog.specs.declared.slots.Readings.{Readings}

abbrev pub slot_of : ℕ → Option Slot
slot_of n = cond (n == 1) (Some Mains) (cond (n == 2) (Some Battery) (cond (n == 3) (Some Temperature) None))

abbrev pub slot_takes : Slot → Reading → Bool
slot_takes Mains (Volts v) = true
slot_takes Mains (Celsius c) = false
slot_takes Mains Absent = true
slot_takes Battery (Volts v) = true
slot_takes Battery (Celsius c) = false
slot_takes Battery Absent = true
slot_takes Temperature (Volts v) = false
slot_takes Temperature (Celsius c) = true
slot_takes Temperature Absent = true

abbrev pub state_of : ℕ → Option State
state_of b = cond (b == 0) (Some Normal) (cond (b == 0x40) (Some Warning) (cond (b == 0x80) (Some Alarm) None))

abbrev pub state_byte : State → ℕ
state_byte Normal = 0
state_byte Warning = 0x40
state_byte Alarm = 0x80

-- the number of the rejection of a reading
abbrev pub refusal_number : Refusal → ℕ
refusal_number NoSlot = 0x54
refusal_number OtherKind = 0x54
refusal_number NoState = 0x54

abbrev pub nothing : Entry
nothing = record { reading = Absent; state = Normal }

-- what the slots hold before any reading
abbrev pub at_first : Readings
at_first = record { mains = nothing; battery = nothing; temperature = nothing }

abbrev pub held : Slot → Readings → Entry
held Mains was = was.mains
held Battery was = was.battery
held Temperature was = was.temperature

abbrev pub placed : Slot → Entry → Readings → Readings
placed Mains e was = record { mains = e; battery = was.battery; temperature = was.temperature }
placed Battery e was = record { mains = was.mains; battery = e; temperature = was.temperature }
placed Temperature e was = record { mains = was.mains; battery = was.battery; temperature = e }

-- the answer to a reading for a slot with a state, where the numbers of both are of one
abbrev pub setting : Option Slot → Reading → Option State → Result (Unit {0}) Refusal
setting None reading state = Err NoSlot
setting (Some slot) reading None = cond (slot_takes slot reading) (Err NoState) (Err OtherKind)
setting (Some slot) reading (Some state) = cond (slot_takes slot reading) (Ok tt) (Err OtherKind)

-- what the slots hold after it
abbrev pub set_to : Option Slot → Reading → Option State → Readings → Readings
set_to None reading state was = was
set_to (Some slot) reading None was = was
set_to (Some slot) reading (Some state) was = cond (slot_takes slot reading) (placed slot (record { reading = reading; state = state }) was) was

abbrev pub entry_bytes : Entry → List ℕ
entry_bytes e = state_byte e.state ∷ code_of e.reading ∷ []

abbrev pub report_bytes : Readings → List ℕ
report_bytes was = entry_bytes was.mains ++ (entry_bytes was.battery ++ entry_bytes was.temperature)

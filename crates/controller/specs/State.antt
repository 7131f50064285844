-- The state as service opens.
use Rattle.std.specs.Prelude.{true, replicate, None}
use Rattle.analog.specs.Slots.{at_first}
use Rattle.calendar.specs.Clocks.{started}
use Rattle.records.specs.Stores.{empty_store}
use Rattle.session.specs.declared.Session.TheVariants.{Closed}
use Rattle.controller.specs.declared.common.Common.{Common}
use Rattle.controller.specs.declared.group.GroupRecord.{GroupRecord}
use Rattle.controller.specs.Faults.{no_faults}

-- Service opens with an empty store, a closed session, no errors, no readings and no faults.
abbrev pub opening_common : Common
opening_common = record {
  store = empty_store;
  session = Closed;
  clock = started;
  tick_byte = 0;
  error_codes = replicate 12 0;
  readings = at_first;
  faults = no_faults;
}

-- Every group has power and is enabled, and nothing is ordered.
abbrev pub opening_group : GroupRecord
opening_group = record { direct = None; powered = true; enabled = true }

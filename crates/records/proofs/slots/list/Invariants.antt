use Rattle.records.proofs.Listing.{Listed}
use Rattle.records.proofs.slots.list.Given as goal

abbrev pub invariant-loop-slot : goal.invariant-loop-slot
invariant-loop-slot g l = Listed g.R.Record.header l.slots l.initial.out l.out l.count l.slot-index

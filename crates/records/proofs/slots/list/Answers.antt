use Rattle.std.proofs.Common.{arith, take, length-take-le}
use Rattle.std.proofs.lemmas.List.{length-take}
use Rattle.records.proofs.Listing.{few, listed_more, listed_on, all_listed}
use Rattle.records.proofs.Rising.{rising}
use Rattle.records.proofs.slots.list.Goals.{in-Some, in_default}
use Rattle.records.proofs.slots.list.Goals as goal

pub returns-then-out-slots-clause-rising : goal.returns-then-out-slots-clause-rising
returns-then-out-slots-clause-rising g c = rising g.R.Record.header c.args.slots.now

pub write_entry-requires : goal.write_entry-requires
write_entry-requires g c =
    let i = c.loop-slot.slot-index in
    let n = length-take-le i c.args.slots.now (omega (arith, c.loop-slot-test.true)) in
    omega (arith, few (take i c.args.slots.now), n, c.loop-slot.invariant.0, c.loop-slot-test.true)

pub loop-slot-preserved : goal.loop-slot-preserved
loop-slot-preserved g c =
    elim c.match-slot.branch [
      | in-Some w ↦
          let h = w.header.ensures in let f = w.write_entry.ensures.front in
          rw w.out-is (listed_more g.R.Record.header c.args.slots.now c.args.out.now c.loop-slot.out w.write_entry.new.out c.loop-slot.count c.match-slot.count c.loop-slot.slot-index _ w.in-Some.kept
          c.loop-slot-test.true c.slot-item.is w.in-Some.is w.count-is (cc) w.write_entry.ensures.rest c.loop-slot.invariant)
      | in_default w ↦ listed_on g.R.Record.header c.args.slots.now c.args.out.now c.loop-slot.out c.match-slot.out c.loop-slot.count c.match-slot.count c.loop-slot.slot-index _
          c.loop-slot-test.true c.slot-item.is w.in_default.is w.out-is w.count-is c.loop-slot.invariant
    ]

pub overflow_mul-result : goal.overflow_mul-result
overflow_mul-result g c =
    let i = c.loop-slot.slot-index in
    omega (arith, few (take i c.args.slots.now), length-take i c.args.slots.now, c.loop-slot.invariant.0)

pub returns : goal.returns
returns g c =
    let p = all_listed g.R.Record.header c.args.slots.now c.args.out.now c.loop-slot.out c.loop-slot.count c.loop-slot.slot-index c.loop-slot-test.false (omega arith) c.loop-slot.invariant in
    record { count = p.0; bytes = p.1; rising = rising g.R.Record.header c.args.slots.now }

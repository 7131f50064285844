use Rattle.std.proofs.Common.{◌≡◌, ◌-◌, ◌++◌, length, take, drop, arith}
use Rattle.records.proofs.Laying.{laid_behind}
use Rattle.records.proofs.Listing.{listed_behind}
use Rattle.records.specs.Slots.{listing}
use Rattle.records.proofs.slots.list_behind.Goals as goal

pub returns-clause-most : goal.returns-clause-most
returns-clause-most g c =
    let w = listed_behind g.R.Record.header c.args.slots.now c.args.from c.args.out.now c.type_inv.slots c.requires in
    let same : c.unwrap_or.result ≡ length (listing g.R.Record.header c.args.slots.now) =
    (let u = c.unwrap_or.ensures in let r = c.list.ensures.count in let a = w.0 in cc) in
    omega (arith, same, w.1)

pub returns-clause-front : goal.returns-clause-front
returns-clause-front g c =
    let w = listed_behind g.R.Record.header c.args.slots.now c.args.from c.args.out.now c.type_inv.slots c.requires in
    let same : c.unwrap_or.result ≡ length (listing g.R.Record.header c.args.slots.now) =
    (let u = c.unwrap_or.ensures in let r = c.list.ensures.count in let a = w.0 in cc) in
    let laid : c.list.new.out ≡ listing g.R.Record.header c.args.slots.now
    ++ drop (length (listing g.R.Record.header c.args.slots.now)) (take (length c.args.out.now - c.args.from) (drop c.args.from c.args.out.now)) =
    (let b = c.list.ensures.bytes in let d = w.2 in cc) in
    laid_behind c.args.from (length c.args.out.now - c.args.from) c.unwrap_or.result c.args.out.now c.list.new.out
    (listing g.R.Record.header c.args.slots.now) _ (omega (arith, c.requires)) laid same

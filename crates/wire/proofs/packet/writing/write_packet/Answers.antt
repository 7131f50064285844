use Rattle.std.proofs.Common.{◌≡◌, ◌<◌, ◌≤◌, length, take, ap, ◌∙◌, arith, rules}
use Rattle.std.proofs.ByRecursion.{All-from_get_or}
use Rattle.std.proofs.lemmas.List.{take_at, drop_at}
use Rattle.wire.specs.Packet.{encode, decode}
use Rattle.wire.proofs.Writing.{length-encode}
use Rattle.wire.proofs.Reading.{reads-back}
use Rattle.wire.proofs.packet.writing.write_packet.Goals as goal

pub returns-clause-bytes : goal.returns-clause-bytes
returns-clause-bytes c =
    let l : length (encode c.args.number c.args.address c.args.message.now) ≡ c.fill.result = length-encode _ _ _ ∙ omega arith in
    let t : take c.fill.result c.fill.new.out ≡ encode c.args.number c.args.address c.args.message.now = ap (take c.fill.result) c.fill.ensures.bytes ∙ take_at _ _ _ l in
    let some : 1 ≤ length c.args.message.now = search rules in
    let fits = All-from_get_or (λ b. b < 256) c.args.message.now 0 (λ i h. omega (arith, c.type_inv.message i)) in
    (t, rw c.fill.ensures.bytes (drop_at _ _ _ l), ap decode t ∙ reads-back c.args.number c.args.address c.args.message.now (omega arith, omega arith, some, omega arith, fits))

use Rattle.std.proofs.Common.{◌≡◌, Some, arith}
use Rattle.std.proofs.lemmas.Bool.Decides.{nat_tests}
use Rattle.octets.specs.Held.{held}
use Rattle.wire.specs.Packet.{content, decode}
use Rattle.wire.proofs.Reading.{only-packets}
use Rattle.wire.proofs.packet.Packet.read.Goals as goal

pub returns-clause-whole : goal.returns-clause-whole
unfolding decode
returns-clause-whole c =
    let e : decode c.args.bytes.now ≡ Some (content c.in_ok-byte_of.field-0 c.in_ok-byte_of-2.field-0 (held c.in_ok-from_digits.field-0)) = grind (arith, nat_tests) in
    only-packets _ _ e

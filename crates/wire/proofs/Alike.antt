-- Packets that say the same are equal all through.
use Rattle.std.proofs.Common.{◌≤◌, length, ap}
use Rattle.std.specs.Coded.{le_prop}
use mathlib.Core.HLevel.{is_prop→PathP}
use Rattle.octets.specs.Held.{held}
use Rattle.octets.proofs.Alike as octets
use Rattle.wire.specs.Packet.{Alike}

pub alike : Alike
alike a b e =
    let m = octets.alike a.message b.message (ap (λ c. c.message) e) in
    λ i. record {
      number = (e i).number;
      address = (e i).address;
      message = m i;
      some = is_prop→PathP (λ j. 1 ≤ length (held (m j))) (λ j. le_prop) a.some b.some i;
    }

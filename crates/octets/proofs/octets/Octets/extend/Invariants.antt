use Rattle.std.proofs.Common.{◌≡◌, ◌++◌, take}
use Rattle.octets.specs.Held.{held}
use Rattle.octets.specs.Room.{room}
use Rattle.octets.proofs.octets.Octets.extend.Given as goal

abbrev pub invariant-loop-byte : goal.invariant-loop-byte
invariant-loop-byte g l = held l.self ≡ take (room g.row.MOST) (held l.fn.self ++ take l.byte-index l.bytes)

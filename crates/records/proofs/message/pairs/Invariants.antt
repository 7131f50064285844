use Rattle.std.proofs.Common.{◌≡◌, take}
use Rattle.std.specs.List.{flat_map}
use Rattle.octets.specs.Held.{held}
use Rattle.records.specs.Messages.{pair_of}
use Rattle.records.proofs.message.pairs.Given as goal

abbrev pub invariant-loop-span : goal.invariant-loop-span
invariant-loop-span l = held l.pairs ≡ flat_map pair_of (take l.span-index l.spans)

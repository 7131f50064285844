use Rattle.std.proofs.Common.{◌≡◌, ◌≤◌, length, take}
use Rattle.wire.specs.Reader.{rest, run, takes}
use Rattle.linebench.proofs.packets_taken.Given as goal

abbrev pub invariant-loop-byte : goal.invariant-loop-byte
invariant-loop-byte l =
    (l.count ≤ l.byte-index) × (l.reader ≡ run rest (take l.byte-index l.line)) × (l.count ≡ length (takes rest (take l.byte-index l.line)))

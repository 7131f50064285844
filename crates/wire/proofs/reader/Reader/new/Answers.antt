use Rattle.std.proofs.Common.{refl}
use Rattle.wire.proofs.Line.{line-is-clean}
use Rattle.wire.proofs.Noise.{soh-starts-afresh, soh-ends-noise, packet-survives-noise, taken-has-come, noise-leaves-no-trace}
use Rattle.wire.proofs.reader.Reader.new.Goals as goal

pub returns : goal.returns
returns c =
    record { state = refl; afresh = soh-starts-afresh; noise = soh-ends-noise; packet = packet-survives-noise; come = taken-has-come; trace = noise-leaves-no-trace; clean = line-is-clean }

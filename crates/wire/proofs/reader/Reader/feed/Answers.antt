use Rattle.std.proofs.Common.{◌≡◌, [], ◌∷◌, take, set, arith}
use Rattle.std.proofs.lemmas.Bool.Decides.{nat_tests}
use Rattle.std.proofs.lemmas.List.{take_more_set}
use Rattle.wire.specs.Reader.{next}
use Rattle.wire.proofs.reader.Reader.feed.Goals as goal

pub returns-in_default-eq1-clause-state : goal.returns-in_default-eq1-clause-state
unfolding next
returns-in_default-eq1-clause-state c =
    let t : take 1 (set c.self.inside.gathered 0 1) ≡ 1 ∷ [] = take_more_set c.self.inside.gathered 0 1 (omega arith) in
    grind (arith, nat_tests)

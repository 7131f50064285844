-- Empty slots have no record out of its place.
use Rattle.std.proofs.Common.{ℕ, replicate, None, Option, ⊎_elim}
use Rattle.std.proofs.lemmas.List.{get_or-replicate, get_or_past, length-replicate}
use Rattle.std.proofs.lemmas.Bool.{cases_lt}
use Rattle.commands.specs.declared.command.Header.{Header}
use Rattle.records.specs.Slots.{Numbered}

pub none_numbered : {R : Type 0} (header : R → Header) (n : ℕ) → Numbered header (replicate n None)
none_numbered {R = R} header n k r e = ⊎_elim
    (λ l. let g = get_or-replicate {A = Option R} n k None None l in cc)
    (λ l. let g = get_or_past {X = Option R} (replicate n None) k None (rw length-replicate l) in cc)
    (cases_lt k n)

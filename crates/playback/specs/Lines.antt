-- The line that tells what a sign shows.
use Rattle.std.specs.Prelude.{ℕ, List, ◌++◌, Some, None, codes, decimal, Option}
use Rattle.records.specs.declared.frame.Frame.{Frame}

abbrev pub shown_text : Option Frame → List ℕ
shown_text None = codes " dark"
shown_text (Some f) = codes " frame " ++ (decimal f.header.number ++ (codes " revision " ++ decimal f.header.revision))

abbrev pub line_of : ℕ → ℕ → Option Frame → List ℕ
line_of sign group shown = codes "sign " ++ (decimal sign ++ (codes " group " ++ (decimal group ++ shown_text shown)))

-- The replies that tell what is stored. Assumes nothing.
use Rattle.std.specs.Prelude.{ℕ, List, ◌∷◌}
use Rattle.commands.specs.Kinds.{listing_number}
use Rattle.commands.specs.declared.kind.RecordKind.{RecordKind}
use Rattle.replies.specs.List.{list_bytes}
use Rattle.replies.specs.Reply.{word}
use Rattle.replies.specs.declared.stored.Listed.{Listed}

-- number and check word
abbrev pub listed_bytes : Listed → List ℕ
listed_bytes l = l.number ∷ word l.check

unfoldable pub stored_list_reply : RecordKind → List Listed → List ℕ
stored_list_reply kind listed = 0xFE ∷ listing_number kind ∷ list_bytes listed_bytes listed

-- kind 0: a bit for each number, in 32 bytes for frames, then for messages, then for plans
unfoldable pub stored_summary_reply : List ℕ → List ℕ
stored_summary_reply bits = 0xFE ∷ 0 ∷ bits

use Rattle.std.proofs.Common.{◌≡◌, ◌≤◌, [], ◌∷◌, ◌++◌, Some, None, Option, length, refl, lit≤, append_assoc}
use Rattle.std.proofs.lemmas.List.{length-append}
use Rattle.std.specs.Int.{from_bool}
use Rattle.replies.specs.Dates.{date_time_bytes}
use Rattle.replies.specs.Reply.{word}
use Rattle.replies.specs.Status.{named_bytes, row_bytes, status_reply}
use Rattle.replies.specs.declared.status.Named.{Named}
use Rattle.replies.specs.declared.status.Row.{Row}
use Rattle.replies.proofs.Listing.{whole_list}
use Rattle.replies.proofs.reply.Reply.status.Goals as goal

length-named : (n : Option Named) → length (named_bytes n) ≡ 2
length-named None = refl
length-named (Some n) = refl

short_row : (row : Row) → length (row_bytes row) ≤ 9
short_row row = simp (length-append, length-named) (lit≤ tt)

pub returns : goal.returns
unfolding status_reply
returns c =
    let s = c.args.status in
    let head = 0x06 ∷ from_bool s.online ∷ s.application_error ∷ (date_time_bytes s.at ++ (word s.checksum ++ (0 ∷ []))) in
    simp (
      c.push_list.ensures,
      c.push.ensures,
      c.push_word.ensures,
      c.push_date_time.ensures,
      c.cut-reply.ensures,
      c.from.ensures,
      append_assoc,
    ) (whole_list row_bytes 768 9 12 head c.args.rows.now short_row (lit≤ tt))

use Rattle.std.proofs.Common.{[], ◌∷◌, lit≤}
use Rattle.commands.specs.Kinds.{listing_number}
use Rattle.replies.specs.Stored.{listed_bytes, stored_list_reply}
use Rattle.replies.proofs.Listing.{whole_list}
use Rattle.replies.proofs.reply.Reply.stored_list.Goals as goal

pub returns : goal.returns
unfolding stored_list_reply
returns c =
    simp (c.listing.ensures, c.listing_number.ensures)
    (whole_list listed_bytes 768 3 255 (0xFE ∷ listing_number c.args.kind ∷ []) c.args.listed.now (λ _. lit≤ tt) (lit≤ tt))

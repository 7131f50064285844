use Rattle.std.proofs.Common.{append_assoc}
use Rattle.replies.proofs.Filling.{cut_early}
use Rattle.replies.proofs.status.RowEntry.lay.Goals as goal

pub returns : goal.returns
returns c =
    simp (
      c.extend-4.ensures,
      c.extend-3.ensures,
      c.extend-2.ensures,
      c.extend.ensures,
      c.from.ensures,
      c.named_bytes.ensures,
      c.named_bytes-2.ensures,
      c.named_bytes-3.ensures,
      cut_early,
      append_assoc,
    )

use Rattle.std.proofs.Common.{append_assoc}
use Rattle.replies.proofs.Filling.{cut_early}
use Rattle.replies.proofs.stored.ListedEntry.lay.Goals as goal

pub returns : goal.returns
returns c = simp (c.push_word.ensures, c.push.ensures, cut_early, append_assoc)

use Rattle.std.proofs.Common.{append_assoc}
use Rattle.replies.proofs.Filling.{cut_early}
use Rattle.replies.proofs.logs.FaultEntryEntry.lay.Goals as goal

pub returns : goal.returns
returns c = simp (c.extend-2.ensures, c.push_date_time.ensures, c.extend.ensures, c.from.ensures, cut_early, append_assoc)

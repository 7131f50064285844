use Rattle.std.proofs.Common.{◌≡◌, [], ◌∷◌, ◌++◌, length, take}
use Rattle.std.specs.List.{flat_map}
use Rattle.replies.specs.Reply.{contents}
use Rattle.replies.proofs.reply.Reply.push_list.Given as goal

abbrev pub invariant-loop-each : goal.invariant-loop-each
invariant-loop-each g l =
    contents l.self ≡ take 768 ((contents l.fn.self ++ length l.listed ∷ []) ++ flat_map g.T.Entry.laid (take l.each-index l.listed))

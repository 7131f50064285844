use Rattle.std.proofs.Common.{◌≡◌, ℕ, ◌+◌, ◌-◌, ◌<◌, cond, ltb, List, length, get_or, drop, Some, arith}
use Rattle.std.proofs.lemmas.List.{at_drop_more, at_drop_all}
use Rattle.std.proofs.lemmas.Bool.Decides.{nat_tests}
use Rattle.commands.specs.declared.lists.Span.{Span}
use Rattle.records.specs.Messages.{held_at, span}
use Rattle.records.proofs.message.held_at.Goals as goal

-- one span more is looked at
more : (spans : List Span) (i left : ℕ) → i < length spans → held_at (drop i spans) left
    ≡ cond (ltb left (get_or spans i (span 0 0)).seconds) (Some (get_or spans i (span 0 0)).frame) (held_at (drop (i + 1) spans) (left - (get_or spans i (span 0 0)).seconds))
more spans i left h = at_drop_more (λ (ss : List Span). held_at ss left) spans i (span 0 0) h

pub returns-then-left-seconds : goal.returns-then-left-seconds
returns-then-left-seconds c = let e = more c.args.spans.now c.loop-span.span-index c.loop-span.left (omega arith) in grind (arith, nat_tests)

pub loop-span-preserved : goal.loop-span-preserved
loop-span-preserved c = let e = more c.args.spans.now c.loop-span.span-index c.loop-span.left (omega arith) in grind (arith, nat_tests)

pub returns : goal.returns
returns c = let e = at_drop_all (λ (ss : List Span). held_at ss c.loop-span.left) c.args.spans.now c.loop-span.span-index (omega arith) in cc

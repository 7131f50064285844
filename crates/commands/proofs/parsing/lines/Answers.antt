use Rattle.std.proofs.Common.{ℕ, ◌+◌, ◌*◌, rules}
use Rattle.std.proofs.lemmas.List.FromFn.{fill_by_all}
use Rattle.commands.specs.Sent.{line_at}
use Rattle.commands.proofs.parsing.lines.Goals as goal

pub returns : goal.returns
returns c =
    let first = line_at c.args.sent.now 4 in
    fill_by_all (λ (k : ℕ). line_at c.args.sent.now (4 + 6 * k)) c.from_fn.result 6 first c.from_fn.ensures.items.long
    (λ k h. let e = c.from_fn.ensures.items.at k first h in search rules)

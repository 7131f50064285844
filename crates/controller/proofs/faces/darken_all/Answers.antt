use Rattle.std.proofs.Common.{◌≡◌, ℕ, ◌+◌, ◌<◌, ◌≤◌, false, refl, ◌∙◌, ⊎_elim, arith, below_more}
use Rattle.std.proofs.lemmas.Bool.{cases_Bool}
use Rattle.rack.specs.Face.{Face, dark, has, Elsewhere}
use Rattle.rack.proofs.Tables.{has_within}
use Rattle.controller.proofs.Shown.{same-signs}
use Rattle.controller.proofs.faces.darken_all.Goals as goal

-- a rack whose signs are dark is dark, for what it lacks is dark
all-dark : (face : ℕ → Face) (n : ℕ) → ((s : ℕ) → 1 ≤ s → s ≤ n → face s ≡ dark) → ((s : ℕ) → has n s ≡ false → face s ≡ dark) → (s : ℕ) → face s ≡ dark
all-dark face n unlit lacking s = ⊎_elim
    (λ in-rack. let w = has_within n s in-rack in unlit s (omega (arith, w)) (omega (arith, w)))
    (lacking s)
    (cases_Bool (has n s))

-- one sign more is dark
one-more : (face after : ℕ → Face) (n : ℕ) → ((s : ℕ) → 1 ≤ s → s < n → face s ≡ dark) → after n ≡ dark → Elsewhere face after n
    → (s : ℕ) → 1 ≤ s → s < n + 1 → after s ≡ dark
one-more face after n unlit last others s low high =
    below_more (λ k. 1 ≤ k → after k ≡ dark) n (λ k below l. others k (λ e. omega arith) ∙ unlit k l below) (λ l. last) s high low

pub loop-sign-init : goal.loop-sign-init
loop-sign-init g c = record { unlit = λ s low high. absurd (omega (arith, low, high)); same = record { count = refl; taking = λ s h. refl } }

pub loop-sign-preserved : goal.loop-sign-preserved
loop-sign-preserved g c = record {
  unlit = one-more _ _ _ c.loop-sign.invariant.unlit c.darken.ensures.face c.darken.ensures.others;
  same = same-signs c.loop-sign.invariant.same (record { count = c.darken.ensures.count; taking = c.darken.ensures.taking });
}

pub returns-clause-dark : goal.returns-clause-dark
returns-clause-dark g c = all-dark _ _ (λ s low high. c.loop-sign.invariant.unlit s low (omega (arith, c.loop-sign.invariant.same.count, c.sign_count-sign-end.ensures, c.loop-sign-test.false))) (g.met.R.Rack.lacking_is_dark c.loop-sign.rack)

pub returns-clause-same : goal.returns-clause-same
returns-clause-same g c = c.loop-sign.invariant.same

pub returns-2-clause-dark : goal.returns-2-clause-dark
returns-2-clause-dark g c = all-dark _ _ (λ s low high. one-more _ _ _ c.loop-sign.invariant.unlit c.darken.ensures.face c.darken.ensures.others s low (omega (arith, c.darken.ensures.count, c.loop-sign.invariant.same.count, c.sign_count-sign-end.ensures, high))) (g.met.R.Rack.lacking_is_dark c.darken.new.self)

pub returns-2-clause-same : goal.returns-2-clause-same
returns-2-clause-same g c = same-signs c.loop-sign.invariant.same (record { count = c.darken.ensures.count; taking = c.darken.ensures.taking })

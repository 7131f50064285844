-- What a sign shows depends on what it takes, shape by shape.
use Rattle.std.proofs.Common.{◌≡◌, ℕ, Bool, cond, Some, None, Option, refl, ap, ◌∙◌}
use Rattle.rack.specs.declared.look.Shape.{Shape}
use Rattle.records.specs.declared.frame.Frame.{Frame}
use Rattle.records.specs.Frames.{shape_shown}
use Rattle.controller.specs.Due.{shown_by}
use Rattle.controller.specs.Faces.{SameSigns}

pub shown-same : (t u : Shape → Bool) → ((h : Shape) → t h ≡ u h) → (o : Option Frame) → shown_by t o ≡ shown_by u o
shown-same t u e None = refl
shown-same t u e (Some f) = ap (λ b. cond b (Some f) None) (e (shape_shown f))

-- what stays in two steps stays in both
pub same-signs : {m n o : ℕ} {t u v : ℕ → Shape → Bool} → SameSigns m n t u → SameSigns n o u v → SameSigns m o t v
same-signs first then = record { count = then.count ∙ first.count; taking = λ s h. then.taking s h ∙ first.taking s h }

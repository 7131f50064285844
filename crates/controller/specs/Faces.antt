-- What a call may alter of a rack, and what its signs then show.
use Rattle.std.specs.Prelude.{◌≡◌, ℕ, ◌+◌, ◌<◌, ◌≤◌, Bool, length}
use Rattle.rack.specs.declared.look.Shape.{Shape}
use Rattle.rack.specs.Face.{Face, SameTaking}
use Rattle.controller.specs.declared.service.Controller.{Controller}
use Rattle.controller.specs.Due.{view, face_due, sign_group}
use Rattle.controller.specs.Site.{groups_of}

-- The signs are as many as they were, and each takes what it took.
pub record SameSigns (before after : ℕ) (took takes : ℕ → Shape → Bool) : Type 0 where
  pub count : after ≡ before
  pub taking : SameTaking took takes

-- Each attached sign shows what is due to its group, and every other sign what it showed.
pub record Settled (c : Controller) (takes : ℕ → Shape → Bool) (showed shows : ℕ → Face) : Type 0 where
  pub attached : (k : ℕ) → k < length (groups_of c.site) → shows (k + 1) ≡ face_due (view (sign_group c k) c) (takes (k + 1))
  pub others : (k : ℕ) → length (groups_of c.site) ≤ k → shows (k + 1) ≡ showed (k + 1)

-- The first ground that stands decides.
use Rattle.std.proofs.Common.{◌≡◌, Bool, true, false, cond, List, [], ◌∷◌, sym, refl, ap, subst}
use Rattle.commands.specs.Sent.{Sent}
use Rattle.judging.specs.declared.rejection.Rejection.{Rejection}
use Rattle.judging.specs.declared.rejection.Rejection.TheVariants.{UnknownCode, WrongLength, NotOpen, BadPassword, WrongCheckWord, Unfit, NotStored, Overlap}
use Rattle.judging.specs.Judgements.{Judgement, accepted, rejected, decided, NoneOf, Grounded}
use Rattle.judging.specs.Rejections.{in_order}

module _ (stands : Rejection → Bool) (said : Sent) where
  -- a ground that does not stand may be put in front
  in-front : (q : Rejection) (order : List Rejection) (j : Judgement) → stands q ≡ false
      → Grounded stands said order j → Grounded stands said (q ∷ order) j
  unfolding Grounded
  in-front q order (accepted v) e g = (g.0, (e, g.1))
  in-front q order (rejected r) e g = (q ∷ g.0, g.1, ap (λ (rs : List Rejection). q ∷ rs) g.2, (e, g.3), g.4)

  step : (q : Rejection) (order : List Rejection) (j : Judgement) (b : Bool) → stands q ≡ b
      → Grounded stands said order j → Grounded stands said (q ∷ order) (cond b (rejected q) j)
  unfolding Grounded
  step q order j true e g = ([], order, refl, tt, e)
  step q order j false e g = in-front q order j e g

  pub grounded : (order : List Rejection) → Grounded stands said order (decided stands said order)
  unfolding Grounded
  grounded [] = (refl, tt)
  grounded (q ∷ order) = step q order (decided stands said order) (stands q) refl (grounded order)

  pub grounded-at : (order : List Rejection) (j : Judgement) → j ≡ decided stands said order → Grounded stands said order j
  grounded-at order j e = subst (λ (i : Judgement). Grounded stands said order i) (sym e) (grounded order)

-- no ground stands against an accepted message
pub accepted-clear : (stands : Rejection → Bool) (said v : Sent) → Grounded stands said in_order (accepted v) → (r : Rejection) → stands r ≡ false
unfolding Grounded
accepted-clear stands said v g r = clear g.1 r
  where
    clear : NoneOf stands in_order → (r : Rejection) → stands r ≡ false
    clear n UnknownCode = n.0
    clear n WrongLength = n.1.0
    clear n NotOpen = n.1.1.0
    clear n BadPassword = n.1.1.1.0
    clear n WrongCheckWord = n.1.1.1.1.0
    clear n Unfit = n.1.1.1.1.1.0
    clear n NotStored = n.1.1.1.1.1.1.0
    clear n Overlap = n.1.1.1.1.1.1.1.0

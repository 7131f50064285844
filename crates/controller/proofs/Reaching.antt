-- A history leads on: where it led to a controller and its faces, the history and one more call leads to what the call leaves.
use Rattle.std.proofs.Common.{◌≡◌, ℕ, zero, suc, ◌+◌, ◌-◌, ◌<◌, ◌≤◌, Bool, true, false, cond, leb, List, [], ◌∷◌, ◌++◌, length, get_or, take, replicate, None, sym, refl, ap, ◌∙◌, subst, append-nil}
use Rattle.std.proofs.lemmas.List.Sums.{fold_push}
use Rattle.rack.specs.declared.look.Shape.{Shape}
use Rattle.std.proofs.lemmas.List.{take_all, take_more}
use Rattle.rack.specs.Face.{Face, dark, has, SameTaking}
use Rattle.records.specs.Stores.{empty_store}
use Rattle.controller.specs.State.{opening_group}
use Rattle.controller.specs.declared.call.Call.{Call}
use Rattle.controller.specs.declared.call.Call.TheVariants.{Line, Tick, Report, Reading}
use Rattle.controller.specs.declared.service.Controller.{Controller}
use Rattle.controller.specs.declared.site.Site.{Site}
use Rattle.controller.specs.Due.{View, view, absent, due_number, stored_under, shown_by, face_of, face_due, frame_due, sign_group}
use Rattle.controller.specs.Site.{groups_of}
use Rattle.controller.specs.Run.{step, opening, view_after, moves, is_made, made, with_report, Acted, Reached}
use Rattle.controller.proofs.Shown.{shown-same}

-- the face due is the same under what is taken pointwise the same
pub due-same : (v : View) (t u : Shape → Bool) → ((h : Shape) → u h ≡ t h) → face_due v t ≡ face_due v u
due-same v t u e = ap face_of (shown-same t u (λ h. sym (e h)) (frame_due v))

-- what a call that is made or not leaves of a view
abbrev on : Site → ℕ → View → Call → View
on s lent v call = cond (is_made lent call) (step s v call) v

-- the face due goes by the store and the group's record, which sign reports leave
report-steady : (s : Site) (v : View) (sign code : ℕ) (t : Shape → Bool) (made heard : Bool)
    → face_due v t ≡ face_due (cond made (record { common = cond heard (with_report sign code v.common) v.common; group = v.group }) v) t
report-steady s v sign code t false heard = refl
report-steady s v sign code t true false = refl
report-steady s v sign code t true true = refl

-- where a call does not move faces, what is due stays
steady : (s : Site) (lent : ℕ) (v : View) (t : Shape → Bool) (call : Call) (face : Face) → face ≡ face_due v t
    → cond (moves call) (face_due (on s lent v call) t) face ≡ face_due (on s lent v call) t
steady s lent v t (Line b) face e = e
steady s lent v t (Tick b) face e = refl
steady s lent v t (Report sign code) face e = e ∙ report-steady s v sign code t (leb 20 lent) (has (length (groups_of s)) sign)
steady s lent v t (Reading slot reading state) face e = e

-- one call more of a history
history-more : (s : Site) (lent g : ℕ) (h : List Call) (call : Call) → on s lent (view_after s g h) call ≡ view_after s g (h ++ made lent (call ∷ []))
history-more s lent g h call = by-made (is_made lent call)
  where
    by-made : (b : Bool) → cond b (step s (view_after s g h) call) (view_after s g h) ≡ view_after s g (h ++ cond b (call ∷ []) [])
    by-made true = sym (fold_push (step s) (view g (opening s)) h call)
    by-made false = ap (view_after s g) (sym (append-nil h))

same-site : (lent : ℕ) (c d : Controller) (takes after : ℕ → Shape → Bool) (face shown : ℕ → Face) (call : Call)
    → Acted lent call c d takes face shown → SameTaking takes after
    → (h : List Call) → Reached c.site takes h c face → Reached c.site after (h ++ made lent (call ∷ [])) d shown
same-site lent c d takes after face shown call acted same h r =
    let onward : (g : ℕ) → on c.site lent (view g c) call ≡ view_after c.site g (h ++ made lent (call ∷ []))
    = λ g. ap (λ v. on c.site lent v call) (r.state g) ∙ history-more c.site lent g h call in
    record {
      site = acted.site;
      state = λ g. acted.state g ∙ onward g;
      faces = λ k lt.
          let g = sign_group c k in
          let before : face (k + 1) ≡ face_due (view g c) (takes (k + 1))
          = r.faces k lt ∙ sym (ap (λ v. face_due v (takes (k + 1))) (r.state g)) in
          acted.attached k lt
          ∙ (ap (λ v. cond (moves call) (face_due v (takes (k + 1))) (face (k + 1))) (acted.state g)
          ∙ (steady c.site lent (view g c) (takes (k + 1)) call (face (k + 1)) before
          ∙ (ap (λ v. face_due v (takes (k + 1))) (onward g)
          ∙ due-same (view_after c.site g (h ++ made lent (call ∷ []))) (takes (k + 1)) (after (k + 1)) (same (k + 1)))));
    }

pub reached-more : (lent : ℕ) (c d : Controller) (takes after : ℕ → Shape → Bool) (face shown : ℕ → Face) (call : Call)
    → Acted lent call c d takes face shown → SameTaking takes after
    → (s : Site) (h : List Call) → Reached s takes h c face → Reached s after (h ++ made lent (call ∷ [])) d shown
reached-more lent c d takes after face shown call acted same s h r =
    subst (λ x. Reached x after (h ++ made lent (call ∷ [])) d shown) r.site
    (same-site lent c d takes after face shown call acted same h (subst (λ x. Reached x takes h c face) (sym r.site) r))

-- nothing is due to any group as service opens
opening-due : (n i : ℕ) → due_number (get_or (replicate n opening_group) i absent) ≡ None
opening-due zero i = refl
opening-due (suc n) zero = refl
opening-due (suc n) (suc i) = opening-due n i

none-due : (s : Site) (g : ℕ) → due_number (view g (opening s)).group ≡ None
none-due s g = by_number (has 12 g)
  where
    by_number : (b : Bool) → due_number (cond b (get_or (replicate 12 opening_group) (g - 1) absent) absent) ≡ None
    by_number true = opening-due 12 (g - 1)
    by_number false = refl

-- The opening of service is reached by the empty history.
pub reached-none : (s : Site) (takes : ℕ → Shape → Bool) (c : Controller) (face : ℕ → Face) → c ≡ opening s → ((k : ℕ) → face k ≡ dark) → Reached s takes [] c face
reached-none s takes c face opened unlit = record {
  site = ap (λ x. x.site) opened;
  state = λ g. ap (view g) opened;
  faces = λ k lt. unlit (k + 1) ∙ sym (ap (λ o. face_of (shown_by (takes (k + 1)) (stored_under empty_store o))) (none-due s (get_or (groups_of s) k 0)));
}

-- A list that is run to its end is a history.
pub reached-all : (lent : ℕ) (s : Site) (takes : ℕ → Shape → Bool) (calls : List Call) (n : ℕ) (c : Controller) (face : ℕ → Face) → length calls ≤ n → Reached s takes (made lent (take n calls)) c face → Reached s takes (made lent calls) c face
reached-all lent s takes calls n c face h r = subst (λ xs. Reached s takes (made lent xs) c face) (take_all n calls h) r

-- the calls made of two lists
made-append : (lent : ℕ) (xs ys : List Call) → made lent (xs ++ ys) ≡ made lent xs ++ made lent ys
made-append lent [] ys = refl
made-append lent (x ∷ xs) ys = by-made (is_made lent x) (made-append lent xs ys)
  where
    by-made : (b : Bool) → made lent (xs ++ ys) ≡ made lent xs ++ made lent ys
        → cond b (x ∷ made lent (xs ++ ys)) (made lent (xs ++ ys)) ≡ cond b (x ∷ made lent xs) (made lent xs) ++ made lent ys
    by-made true e = ap (λ zs. x ∷ zs) e
    by-made false e = e

-- One call more of a list that is run.
pub reached-next : (lent : ℕ) (s : Site) (takes : ℕ → Shape → Bool) (calls : List Call) (n : ℕ) (c : Controller) (face : ℕ → Face) (d : Call) → n < length calls
    → Reached s takes (made lent (take n calls) ++ made lent (get_or calls n d ∷ [])) c face → Reached s takes (made lent (take (n + 1) calls)) c face
reached-next lent s takes calls n c face d h r =
    subst (λ xs. Reached s takes xs c face) (sym (made-append lent (take n calls) (get_or calls n d ∷ [])) ∙ ap (made lent) (sym (take_more calls n d h))) r

-- The laws of the reader: SOH starts afresh, noise leaves no trace, a packet is taken whole and has just come.
use Rattle.std.proofs.Common.{◌≡◌, ℕ, ◌+◌, ◌/◌, ◌%◌, ◌<◌, ◌≤◌, ◌==◌, nat_lt, Bool, true, false, cond, List, [], ◌∷◌, ◌++◌, length, get_or, take, is_some, Some, None, Option, sym, refl, ap, ◌∙◌, subst, arith}
use Rattle.std.specs.Option.{option_to_list}
use Rattle.std.specs.List.{AllByRecursion}
use Rattle.std.proofs.ByRecursion.{All-append}
use Rattle.std.proofs.lemmas.Bool.Decides.{nat_tests}
use Rattle.std.proofs.lemmas.Bool.{eqb-true}
use Rattle.std.proofs.lemmas.List.Sums.{fold-append}
use Rattle.std.proofs.lemmas.List.{append_assoc, append-nil, length-append, length_push, take_more}
use Rattle.wire.specs.Digits.{in_digits, digit_of, bytes_of}
use Rattle.wire.specs.CheckWord.{check_word}
use Rattle.wire.specs.Packet.{Content, body, encode, decode, Fitting, content}
use Rattle.wire.specs.Reader.{State, rest, gathering, further, next, taken, run, takes}
use Rattle.wire.specs.Noise.{Begins, Soh-starts-afresh, Soh-ends-noise, Packet-survives-noise, Taken-has-come, Noise-leaves-no-trace}
use Rattle.wire.proofs.Writing.{length-encode}
use Rattle.wire.proofs.Reading.{reads-back, only-packets}

module _ (g : List ℕ) (b : ℕ) (no-soh : b ≡ 1 → ⊥) where
  pub next_more : length g < 1547 → (b ≡ 3 → ⊥) → next (gathering g) b ≡ gathering (g ++ b ∷ [])
  unfolding next
  next_more h e = grind (arith, nat_tests)

  pub taken_more : length g < 1547 → (b ≡ 3 → ⊥) → taken (gathering g) b ≡ None
  unfolding taken
  taken_more h e = grind (arith, nat_tests)

  pub next-etx : length g < 1547 → b ≡ 3 → next (gathering g) b ≡ rest
  unfolding next
  next-etx h e = grind (arith, nat_tests)

  pub taken-etx : length g < 1547 → b ≡ 3 → taken (gathering g) b ≡ decode (g ++ b ∷ [])
  unfolding taken
  taken-etx h e = grind (arith, nat_tests)

-- a line in two stretches
pub takes-append : (s : State) (xs ys : List ℕ) → takes s (xs ++ ys) ≡ takes s xs ++ takes (run s xs) ys
takes-append s [] ys = refl
takes-append s (x ∷ xs) ys = ap (λ (t : List Content). option_to_list (taken s x) ++ t) (takes-append (next s x) xs ys) ∙ sym (append_assoc (option_to_list (taken s x)) (takes (next s x) xs) (takes (run (next s x) xs) ys))

-- one byte more of a line
pub takes-more : (s : State) (bs : List ℕ) (i : ℕ) → i < length bs → takes s (take (i + 1) bs) ≡ takes s (take i bs) ++ option_to_list (taken (run s (take i bs)) (get_or bs i 0))
takes-more s bs i h =
    ap (takes s) (take_more bs i 0 h) ∙ takes-append s (take i bs) (get_or bs i 0 ∷ [])
    ∙ ap (λ (t : List Content). takes s (take i bs) ++ t) (append-nil (option_to_list (taken (run s (take i bs)) (get_or bs i 0))))

length-one : (o : Option Content) → length (option_to_list o) ≡ cond (is_some o) 1 0
length-one None = refl
length-one (Some p) = refl

pub count_more : (s : State) (bs : List ℕ) (i : ℕ) → i < length bs
    → length (takes s (take (i + 1) bs)) ≡ length (takes s (take i bs)) + cond (is_some (taken (run s (take i bs)) (get_or bs i 0))) 1 0
count_more s bs i h = rw (takes-more s bs i h, length-append, length-one) refl

pub soh-starts-afresh : Soh-starts-afresh
unfolding Soh-starts-afresh next taken
soh-starts-afresh s = (refl, refl)

pub soh-ends-noise : Soh-ends-noise
unfolding Soh-ends-noise next taken
soh-ends-noise bs e = (fold-append next rest bs (1 ∷ []), takes-append rest bs (1 ∷ []) ∙ ap (λ t. t ++ []) e)

-- where the line ends or SOH comes next, the packets taken do not depend on where the reader was
pub takes-afresh : (after : List ℕ) (s t : State) → Begins after → takes s after ≡ takes t after
unfolding next taken
takes-afresh [] s t h = refl
takes-afresh (b ∷ bs) s t h = rw h refl

pub noise-leaves-no-trace : Noise-leaves-no-trace
unfolding Noise-leaves-no-trace
noise-leaves-no-trace s before noise after n g =
    rw (takes-append s before (noise ++ after), takes-append s before after, takes-append (run s before) noise after, g.0, n)
    (ap (λ t. takes s before ++ t) (takes-afresh after _ _ g.1))

-- bytes that neither start nor end a packet
abbrev pub Plain : ℕ → Type 0
Plain b = (b ≡ 1 → ⊥) × (b ≡ 3 → ⊥)

pub record Gathers (g xs : List ℕ) : Type 0 where
  pub state : run (gathering g) xs ≡ gathering (g ++ xs)
  pub none : takes (gathering g) xs ≡ []

gathers : (g xs : List ℕ) → AllByRecursion Plain xs → length g + length xs ≤ 1547 → Gathers g xs
gathers g [] a h = record { state = ap gathering (sym (append-nil g)); none = refl }
gathers g (x ∷ xs) a h =
    let l : length g < 1547 = omega arith in
    let n = next_more g x a.0.0 l a.0.1 in
    let t = taken_more g x a.0.0 l a.0.1 in
    let i = gathers (g ++ x ∷ []) xs a.1 (omega (arith, length_push g x)) in
    record { state = rw n (i.state ∙ ap gathering (append_assoc g (x ∷ []) xs)); none = rw (t, n) i.none }

plain-digit : (v : ℕ) → Plain (digit_of v)
unfolding digit_of
plain-digit v = (λ e. grind (arith, nat_tests), λ e. grind (arith, nat_tests))

plain-in_digits : (m : List ℕ) → AllByRecursion Plain (in_digits m)
plain-in_digits [] = tt
plain-in_digits (b ∷ m) = (plain-digit (b / 16), (plain-digit (b % 16), plain-in_digits m))

inner : ℕ → ℕ → List ℕ → List ℕ
inner n a m = (in_digits (n ∷ a ∷ []) ++ (2 ∷ in_digits m)) ++ in_digits (bytes_of (check_word (body n a m)))

inner-is : (n a : ℕ) (m : List ℕ) → encode n a m ≡ 1 ∷ (inner n a m ++ 3 ∷ [])
unfolding encode body inner
inner-is n a m = sym (append_assoc (1 ∷ (in_digits (n ∷ a ∷ []) ++ (2 ∷ in_digits m))) (in_digits (bytes_of (check_word (body n a m)))) (3 ∷ []))

plain-inner : (n a : ℕ) (m : List ℕ) → AllByRecursion Plain (inner n a m)
unfolding inner
plain-inner n a m =
    let behind : List ℕ = in_digits (bytes_of (check_word (body n a m))) in
    let d = plain-digit in
    (d _, (d _, (d _, (d _, ((λ e. omega arith, λ e. omega arith), All-append Plain (in_digits m) behind (plain-in_digits m) (plain-in_digits (bytes_of (check_word (body n a m)))))))))

pub packet-taken : (s : State) (n a : ℕ) (m : List ℕ) → Fitting (content n a m)
    → (run s (encode n a m) ≡ rest) × (takes s (encode n a m) ≡ content n a m ∷ [])
unfolding next taken
packet-taken s n a m f =
    let e = inner-is n a m in
    let l : length (inner n a m) + 2 ≤ 1547 = omega (arith, ap length e, length-append (inner n a m) (3 ∷ []), length-encode n a m, f.3) in
    let g = gathers (1 ∷ []) (inner n a m) (plain-inner n a m) (omega arith) in
    let no : ◌≡◌ {A = ℕ} 3 1 → ⊥ = λ z. omega arith in
    let x = next-etx (1 ∷ inner n a m) 3 no (omega arith) refl in
    let d : taken (gathering (1 ∷ inner n a m)) 3 ≡ Some (content n a m) = taken-etx (1 ∷ inner n a m) 3 no (omega arith) refl ∙ ap decode (sym e) ∙ reads-back n a m f in (
      rw (e, fold-append next (gathering (1 ∷ [])) (inner n a m) (3 ∷ []), g.state) x,
      rw (e, takes-append (gathering (1 ∷ [])) (inner n a m) (3 ∷ []), g.none, g.state, d) refl,
    )

pub packet-survives-noise : Packet-survives-noise
unfolding Packet-survives-noise
packet-survives-noise bs n a m e f =
    let p = packet-taken (run rest bs) n a m f in (
      fold-append next rest bs (encode n a m) ∙ p.0,
      takes-append rest bs (encode n a m) ∙ ap (λ (t : List Content). t ++ takes (run rest bs) (encode n a m)) e ∙ p.1,
    )

-- what a state holds came last
abbrev Came : State → List ℕ → Type 0
Came rest xs = Unit {0}
Came (gathering g) xs = (ys : List ℕ) × (xs ≡ ys ++ g)

came-cond : (t : Bool) (s u : State) (xs : List ℕ) → (t ≡ true → Came s xs) → Came u xs → Came (cond t s u) xs
came-cond true s u xs h k = h refl
came-cond false s u xs h k = k

came-further : (s : State) (xs : List ℕ) (b : ℕ) → Came s xs → Came (further s b) (xs ++ b ∷ [])
came-further rest xs b h = tt
came-further (gathering g) xs b h =
    let more : Came (gathering (g ++ b ∷ [])) (xs ++ b ∷ []) = (h.0, ap (λ t. t ++ b ∷ []) h.1 ∙ append_assoc h.0 g (b ∷ [])) in
    came-cond (nat_lt (length g) 1547) (cond (b == 3) rest (gathering (g ++ b ∷ []))) rest _ (λ _. came-cond (b == 3) rest (gathering (g ++ b ∷ [])) _ (λ _. tt) more) tt

came-next : (s : State) (xs : List ℕ) (b : ℕ) → Came s xs → Came (next s b) (xs ++ b ∷ [])
unfolding next
came-next s xs b h = came-cond (b == 1) (gathering (1 ∷ [])) (further s b) _ (λ e. (xs, ap (λ c. xs ++ c ∷ []) (eqb-true b 1 e))) (came-further s xs b h)

came-run : (s : State) (xs ys : List ℕ) → Came s xs → Came (run s ys) (xs ++ ys)
came-run s xs [] h = subst (λ (z : List ℕ). Came s z) (sym (append-nil xs)) h
came-run s xs (y ∷ ys) h = subst (λ (z : List ℕ). Came (run (next s y) ys) z) (append_assoc xs (y ∷ []) ys) (came-run (next s y) (xs ++ y ∷ []) ys (came-next s xs y h))

pub taken-rest : (b : ℕ) → taken rest b ≡ None
unfolding taken
taken-rest b = grind (arith, nat_tests)

taken-decoded : (g : List ℕ) (b : ℕ) (p : Content) → taken (gathering g) b ≡ Some p → decode (g ++ b ∷ []) ≡ Some p
unfolding taken
taken-decoded g b p e = grind (arith, nat_tests)

came-taken : (s : State) (xs : List ℕ) (b : ℕ) (p : Content) → Came s xs → taken s b ≡ Some p → (ys : List ℕ) × (xs ++ b ∷ [] ≡ ys ++ encode p.number p.address p.message)
came-taken rest xs b p h e = absurd (cc (taken-rest b))
came-taken (gathering g) xs b p h e =
    let k = (only-packets (g ++ b ∷ []) p (taken-decoded g b p e)).0 in
    (h.0, ap (λ t. t ++ b ∷ []) h.1 ∙ append_assoc h.0 g (b ∷ []) ∙ ap (λ t. h.0 ++ t) k)

pub taken-has-come : Taken-has-come
unfolding Taken-has-come
taken-has-come xs b p e = came-taken (run rest xs) xs b p (came-run rest [] xs tt) e

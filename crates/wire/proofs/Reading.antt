-- What decode says of a packet that encode makes, and the other way round.
use Rattle.std.proofs.Common.{◌≡◌, ℕ, ◌+◌, ◌-◌, ◌*◌, ◌≤◌, Bool, true, false, cond, List, [], ◌∷◌, ◌++◌, length, get_or, take, drop, Some, None, sym, refl, ap, ◌∙◌, subst, arith}
use Rattle.std.specs.List.{between}
use Rattle.std.specs.Str.{bytes_eq}
use Rattle.std.proofs.lemmas.Bool.Decides.{nat_tests}
use Rattle.std.proofs.lemmas.Slice.Eq.{bytes_eq-Decides}
use Rattle.std.proofs.lemmas.List.{length-append, length-drop, drop_more, drop_at, take_at}
use Rattle.std.proofs.lemmas.List.Edits.{split_between}
use Rattle.std.proofs.lemmas.Option.{option_and_then_some, same_Some}
use Rattle.wire.specs.Digits.{in_digits, byte_value, from_digits, bytes_of}
use Rattle.wire.specs.CheckWord.{check_word}
use Rattle.wire.specs.Packet.{body, encode, closed, framed, decode, content_of, Content, content, Fitting}
use Rattle.wire.proofs.Spelling.{value-pair, pair_value, in_digits-from_digits, from_digits-in_digits}
use Rattle.wire.proofs.Writing.{length-in_digits, length-body, length-encode}

-- the parts that decode reads
pub record Parts (bs : List ℕ) (p : Content) : Type 0 where
  pub long : 13 ≤ length bs
  pub short : length bs ≤ 1547
  pub soh : get_or bs 0 0 ≡ 1
  pub number : byte_value (get_or bs 1 0) (get_or bs 2 0) ≡ Some p.number
  pub address : byte_value (get_or bs 3 0) (get_or bs 4 0) ≡ Some p.address
  pub stx : get_or bs 5 0 ≡ 2
  pub message : from_digits (between 6 (length bs - 5) bs) ≡ Some p.message
  pub end : drop (length bs - 5) bs ≡ in_digits (bytes_of (check_word (take (length bs - 5) bs))) ++ 3 ∷ []

parts-by : (bs : List ℕ) (p : Content) (t : Bool) → framed bs ≡ t → cond t (content_of bs) None ≡ Some p → Parts bs p
unfolding framed closed
parts-by bs p false e d = absurd cc
parts-by bs p true e d =
    option_and_then_some _ (byte_value (get_or bs 1 0) (get_or bs 2 0)) p d (λ n f d'.
    option_and_then_some _ (byte_value (get_or bs 3 0) (get_or bs 4 0)) p d' (λ a g d''.
    option_and_then_some _ (from_digits (between 6 (length bs - 5) bs)) p d'' (λ m h k.
    let c : bytes_eq (drop (length bs - 5) bs) (in_digits (bytes_of (check_word (take (length bs - 5) bs))) ++ 3 ∷ []) ≡ true = grind (arith, nat_tests) in
    subst (Parts bs) (same_Some _ _ k) (record {
      long = grind (arith, nat_tests);
      short = grind (arith, nat_tests);
      soh = grind (arith, nat_tests);
      number = f;
      address = g;
      stx = grind (arith, nat_tests);
      message = h;
      end = (bytes_eq-Decides _ _).0 c;
    }))))

pub parts : (bs : List ℕ) (p : Content) → decode bs ≡ Some p → Parts bs p
unfolding decode
parts bs p d = parts-by bs p (framed bs) refl d

pub from_parts : (bs : List ℕ) (p : Content) → Parts bs p → decode bs ≡ Some p
unfolding decode framed closed
from_parts bs p q =
    let c = (bytes_eq-Decides _ _).1 q.end in
    grind (arith, nat_tests)

-- the first six bytes
front : (bs : List ℕ) → 6 ≤ length bs → take 6 bs ≡ get_or bs 0 0 ∷ get_or bs 1 0 ∷ get_or bs 2 0 ∷ get_or bs 3 0 ∷ get_or bs 4 0 ∷ get_or bs 5 0 ∷ []
front bs h =
    let e : bs ≡ get_or bs 0 0 ∷ get_or bs 1 0 ∷ get_or bs 2 0 ∷ get_or bs 3 0 ∷ get_or bs 4 0 ∷ get_or bs 5 0 ∷ drop 6 bs = cc (
      drop_more bs 0 0 (omega arith),
      drop_more bs 1 0 (omega arith),
      drop_more bs 2 0 (omega arith),
      drop_more bs 3 0 (omega arith),
      drop_more bs 4 0 (omega arith),
      drop_more bs 5 0 (omega arith),
    ) in
    ap (take 6) e

-- a packet's bytes, up to the check word
opens : (bs : List ℕ) (p : Content) → Parts bs p → bs ≡ body p.number p.address p.message ++ drop (length bs - 5) bs
unfolding body
opens bs p q =
    let n = value-pair (get_or bs 1 0) (get_or bs 2 0) p.number q.number in
    let a = value-pair (get_or bs 3 0) (get_or bs 4 0) p.address q.address in
    let m = in_digits-from_digits (between 6 (length bs - 5) bs) p.message q.message in
    let s = split_between bs 6 (length bs - 5) (omega (arith, q.long)) in
    let f = front bs (omega (arith, q.long)) in
    cc

is-packet : (bs : List ℕ) (p : Content) → Parts bs p → bs ≡ encode p.number p.address p.message
unfolding encode
is-packet bs p q =
    let b = opens bs p q in
    let t : take (length bs - 5) bs ≡ body p.number p.address p.message =
    ap (take (length bs - 5)) b ∙ take_at _ _ _ (omega (arith, q.long, ap length b, length-append (body p.number p.address p.message) (drop (length bs - 5) bs), length-drop (length bs - 5) bs)) in
    b ∙ ap (λ v. body p.number p.address p.message ++ v) (q.end ∙ ap (λ v. in_digits (bytes_of (check_word v)) ++ 3 ∷ []) t)

pub only-packets : (bs : List ℕ) (p : Content) → decode bs ≡ Some p → (bs ≡ encode p.number p.address p.message) × Fitting p
only-packets bs p d =
    let q = parts bs p d in
    let e = is-packet bs p q in
    let l : length bs ≡ 6 + 2 * length p.message + 5 = ap length e ∙ length-encode p.number p.address p.message in (
      e,
      (
        (value-pair (get_or bs 1 0) (get_or bs 2 0) p.number q.number).small,
        (value-pair (get_or bs 3 0) (get_or bs 4 0) p.address q.address).small,
        omega (arith, l, q.long),
        omega (arith, l, q.short),
        (in_digits-from_digits (between 6 (length bs - 5) bs) p.message q.message).small,
      ),
    )

module _ (n a : ℕ) (m : List ℕ) (f : Fitting (content n a m)) where
  -- what stands behind the message
  behind : List ℕ
  behind = in_digits (bytes_of (check_word (body n a m))) ++ 3 ∷ []

  pub reads-back : decode (encode n a m) ≡ Some (content n a m)
  unfolding encode body behind
  reads-back =
      let l = length-encode n a m in
      let k : length (body n a m) ≡ length (encode n a m) - 5 = omega (arith, l, length-body n a m) in
      let t : take (length (encode n a m) - 5) (encode n a m) ≡ body n a m = take_at (body n a m) behind _ k in
      from_parts (encode n a m) (content n a m) (record {
        long = omega (arith, l, f.2);
        short = omega (arith, l, f.3);
        soh = refl;
        number = pair_value n f.0;
        address = pair_value a f.1;
        stx = refl;
        message = ap from_digits (take_at (in_digits m) behind _ (omega (arith, l, length-in_digits m))) ∙ from_digits-in_digits m f.4;
        end = drop_at (body n a m) behind _ k ∙ ap (λ v. in_digits (bytes_of (check_word v)) ++ 3 ∷ []) (sym t);
      })

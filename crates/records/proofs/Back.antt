-- The command of a record is the very message that set it.
use Rattle.std.proofs.Common.{◌≡◌, ℕ, zero, suc, ◌+◌, ◌-◌, ◌*◌, ◌/◌, ◌%◌, ◌≤◌, true, ◌&&◌, eqb, leb, List, [], ◌∷◌, ◌++◌, map, length, get_or, take, drop, refl, ap, ◌∙◌, mul-le-mul, append-nil, arith}
use Rattle.std.proofs.lemmas.List.{take-append-drop, drop_more, drop_all, drop-drop, length-take-le, length-drop, take_all, take_at}
use Rattle.std.proofs.Math.Nat.{mod-eq_of_lt}
use Rattle.std.proofs.lemmas.Bool.{cond_both, eqb-true, and_parts}
use Rattle.std.proofs.lemmas.Bool.Decides.{nat_tests}
use Rattle.std.specs.List.{flat_map, list_all}
use Rattle.std.specs.Prelude.{replicate}
use Rattle.commands.specs.declared.command.Order.{Order}
use Rattle.commands.specs.declared.command.Order.TheVariants.{Reset, Frame, Message, EnablePlan, DisablePlan, Power, Enable}
use Rattle.commands.specs.declared.lists.Line.{Line}
use Rattle.commands.specs.declared.rejection.Rejection.TheVariants.{WrongLength}
use Rattle.commands.specs.Orders.{code_of}
use Rattle.commands.specs.Sent.{Sent, start_session, password, heartbeat, end_session, set_time, group_order, enabled_plans, stored_record, fault_log, empty_fault_log, order_log, readings, list_stored, refused, exactly, coded, word_at, stride, line_at, lines_at, order_form, text_form, graphic_form, message_form, plan_form, parsed}
use Rattle.fitness.specs.Fitness.{fit, text_fits, graphic_fits, filled_line, blank_line, listed, listed_from}
use Rattle.records.specs.AnyRecords.{record_of, Bytes, GivesBack}
use Rattle.records.specs.Frames.{pictured, counted, text_frame, graphic_frame, frame_bytes}
use Rattle.records.specs.Messages.{message_bytes}
use Rattle.records.specs.Plans.{entry_of, line_of, plan_of, plan_bytes}
use Rattle.records.specs.Writing.{word_bytes, command_of}

abbrev BackAt : List ℕ → Sent → Type 0
BackAt m s = fit s ≡ true → GivesBack m (record_of s)

-- the two bytes of a word
word_back : (m : List ℕ) (i : ℕ) → Bytes m → word_bytes (word_at m i) ≡ get_or m i 0 ∷ get_or m (i + 1) 0 ∷ []
word_back m i b =
    let l = b (i + 1) in
    let p : word_at m i / 256 ≡ get_or m i 0 = omega (arith, l) in
    let q : word_at m i % 256 ≡ get_or m (i + 1) 0 = omega (arith, l) in cc

-- a body and a check word are all that stands after the first bytes
body_back : (m : List ℕ) (from size : ℕ) → Bytes m → length m ≡ from + size + 2
    → take size (drop from m) ++ word_bytes (word_at m (from + size)) ≡ drop from m
body_back m from size b n =
    let w = word_back m (from + size) b in
    let p = take-append-drop size (drop from m) in
    let q = drop-drop size from m in
    let r = drop_more m (from + size) 0 (omega arith) in
    let s = drop_more m (from + size + 1) 0 (omega arith) in
    let z = drop_all (from + size + 1 + 1) m (omega arith) in cc

-- what is kept of up to 128 bytes
kept_back : (bs : List ℕ) → length bs ≤ 128 → (take (counted bs) (pictured bs) ≡ bs) × (counted bs ≡ length bs)
kept_back bs h =
    let e = take_all 128 bs h in
    let n : counted bs ≡ length bs = ap length e in (
      ap (λ (k : ℕ). take k (pictured bs)) n ∙ ap (λ (xs : List ℕ). take (length bs) (xs ++ replicate (128 - length xs) 0)) e
          ∙ take_at bs (replicate (128 - length bs) 0) (length bs) refl,
      n,
    )

-- the places of a list from the i-th on
abbrev places : ℕ → ℕ → List ℕ → List ℕ
places zero i m = []
places (suc k) i m = get_or m i 0 ∷ places k (suc i) m

front : (k i : ℕ) (m : List ℕ) → i + k ≤ length m → drop i m ≡ places k i m ++ drop (i + k) m
front zero i m h = let e : i + zero ≡ i = omega arith in cc
front (suc k) i m h =
    let p = drop_more m i 0 (omega arith) in
    let q = front k (suc i) m (omega arith) in
    let e : i + 1 ≡ suc i = omega arith in
    let f : suc i + k ≡ i + suc k = omega arith in cc

all : (k : ℕ) (m : List ℕ) → length m ≡ k → m ≡ places k 0 m
all k m n = let z = drop_all (0 + k) m (omega arith) in let a = append-nil (places k 0 m) in front k 0 m (omega arith) ∙ (cc)

text-count : (n b : ℕ) (t : List ℕ) → text_fits n b t ≡ true → length t ≤ 128
text-count n b t f = grind (arith, nat_tests)

text-back : (m : List ℕ) → Bytes m → get_or m 0 0 ≡ 0x0A → BackAt m (text_form m)
unfolding text_form text_frame frame_bytes
text-back m b z =
    cond_both (eqb (length m) (9 + get_or m 6 0)) _ (refused WrongLength) (BackAt m)
    (λ e f.
    let n : length m ≡ 9 + get_or m 6 0 = eqb-true _ _ e in
    let d : length (drop 7 m) ≡ length m - 7 = length-drop 7 m in
    let l : length (take (get_or m 6 0) (drop 7 m)) ≡ get_or m 6 0 = length-take-le (get_or m 6 0) (drop 7 m) (omega arith) in
    let k = kept_back (take (get_or m 6 0) (drop 7 m)) (text-count (get_or m 1 0) (get_or m 5 0) (take (get_or m 6 0) (drop 7 m)) f) in
    let k₀ = k.0 in let k₁ = k.1 in
    let r = body_back m 7 (get_or m 6 0) b (omega arith) in
    let q = front 7 0 m (omega arith) in cc)
    (λ _ _. tt)

sides-few : (n rows columns b : ℕ) (p : List ℕ) → graphic_fits n rows columns b p ≡ true → (rows ≤ 32) × (columns ≤ 32)
sides-few n rows columns b p f = (grind (arith, nat_tests), grind (arith, nat_tests))

graphic-back : (m : List ℕ) → Bytes m → get_or m 0 0 ≡ 0x0B → BackAt m (graphic_form m)
unfolding graphic_form graphic_frame frame_bytes
graphic-back m b z =
    cond_both (eqb (length m) (8 + get_or m 3 0 * stride (get_or m 4 0))) _ (refused WrongLength) (BackAt m)
    (λ e f.
    let n : length m ≡ 8 + get_or m 3 0 * stride (get_or m 4 0) = eqb-true _ _ e in
    let s = sides-few (get_or m 1 0) (get_or m 3 0) (get_or m 4 0) (get_or m 5 0) (take (get_or m 3 0 * stride (get_or m 4 0)) (drop 6 m)) f in
    let c : (get_or m 4 0 + 7) / 8 ≤ 4 = omega (arith, s.1) in
    let few : get_or m 3 0 * stride (get_or m 4 0) ≤ 128 = mul-le-mul s.0 c in
    let d : length (drop 6 m) ≡ length m - 6 = length-drop 6 m in
    let l : length (take (get_or m 3 0 * stride (get_or m 4 0)) (drop 6 m)) ≡ get_or m 3 0 * stride (get_or m 4 0) =
    length-take-le (get_or m 3 0 * stride (get_or m 4 0)) (drop 6 m) (omega arith) in
    let k = kept_back (take (get_or m 3 0 * stride (get_or m 4 0)) (drop 6 m)) (omega arith) in
    let k₀ = k.0 in let k₁ = k.1 in
    let r = body_back m 6 (get_or m 3 0 * stride (get_or m 4 0)) b (omega arith) in
    let q = front 6 0 m (omega arith) in cc)
    (λ _ _. tt)

message-back : (m : List ℕ) → Bytes m → get_or m 0 0 ≡ 0x0C → BackAt m (message_form m)
unfolding message_form message_bytes
message-back m b z =
    cond_both (eqb (length m) 17) _ (refused WrongLength) (BackAt m)
    (λ e f.
    let n = eqb-true (length m) 17 e in
    let p = all 17 m n in
    let w = word_back m 15 b in
    let s1 = mod-eq_of_lt (b 4) in
    let s2 = mod-eq_of_lt (b 6) in
    let s3 = mod-eq_of_lt (b 8) in
    let s4 = mod-eq_of_lt (b 10) in
    let s5 = mod-eq_of_lt (b 12) in
    let s6 = mod-eq_of_lt (b 14) in cc)
    (λ _ _. tt)

-- the six bytes of a line as sent
abbrev six_of : Line → List ℕ
six_of l = l.kind ∷ l.number ∷ l.start.hour ∷ l.start.minute ∷ l.stop.hour ∷ l.stop.minute ∷ []

filled-back : (l : Line) → filled_line l ≡ true → line_of (entry_of l) ≡ six_of l
filled-back l f = grind (arith, nat_tests)

blank-back : (l : Line) → blank_line l ≡ true → line_of (entry_of l) ≡ six_of l
blank-back l f = grind (arith, nat_tests)

blanks-back : (ls : List Line) → list_all blank_line ls ≡ true → flat_map line_of (map entry_of ls) ≡ flat_map six_of ls
blanks-back [] f = refl
blanks-back (l ∷ ls) f = let a = blank-back l in let b = blanks-back ls in grind (arith, nat_tests)

lines-back : (ls : List Line) → listed_from filled_line blank_line ls ≡ true → flat_map line_of (map entry_of ls) ≡ flat_map six_of ls
lines-back [] f = refl
lines-back (l ∷ ls) f = let a = filled-back l in let b = lines-back ls in let d = blanks-back (l ∷ ls) in grind (arith, nat_tests)

plan-lines : (n days : ℕ) (l : Line) (ls : List Line) → ((leb 1 n && (leb 1 days && leb days 127)) && listed filled_line blank_line (l ∷ ls)) ≡ true
    → listed_from filled_line blank_line (l ∷ ls) ≡ true
plan-lines n days l ls f =
    let p = and_parts (leb 1 n && (leb 1 days && leb days 127)) _ f in
    (and_parts (filled_line l) (listed_from filled_line blank_line (l ∷ ls)) p.1).1

plan-back : (m : List ℕ) → Bytes m → get_or m 0 0 ≡ 0x0D → BackAt m (plan_form m)
unfolding plan_form plan_of plan_bytes
plan-back m b z =
    cond_both (eqb (length m) 42) _ (refused WrongLength) (BackAt m)
    (λ e f.
    let n = eqb-true (length m) 42 e in
    let p = all 42 m n in
    let w = word_back m 40 b in
    let l = lines-back (lines_at m 4) (plan-lines (get_or m 1 0) (get_or m 3 0) (line_at m 4) (line_at m 10 ∷ line_at m 16 ∷ line_at m 22 ∷ line_at m 28 ∷ line_at m 34 ∷ []) f) in
    ap (λ (bs : List ℕ). command_of (0x0D ∷ get_or m 1 0 ∷ get_or m 2 0 ∷ get_or m 3 0 ∷ []) bs (word_at m 40)) l ∙ (cc))
    (λ _ _. tt)

-- one row of the table of codes
row : (m : List ℕ) (code : ℕ) (v others : Sent) → (get_or m 0 0 ≡ code → BackAt m v) → BackAt m others → BackAt m (coded (get_or m 0 0) code v others)
row m code v others here rest =
    cond_both (eqb (get_or m 0 0) code) v others (BackAt m) (λ e. here (eqb-true (get_or m 0 0) code e)) (λ _. rest)

-- a command that sets no record
bare : (m : List ℕ) (n : ℕ) (v : Sent) → BackAt m v → BackAt m (exactly m n v)
bare m n v x = cond_both (eqb (length m) n) v (refused WrongLength) (BackAt m) (λ _. x) (λ _ _. tt)

-- an order sets no record
order : (m : List ℕ) (o : Order) → BackAt m (order_form o m)
order m o = bare m 3 (group_order o _ _) (λ _. tt)

pub gives_back : (m : List ℕ) → Bytes m → BackAt m (parsed m)
unfolding parsed
gives_back m b =
    row m 0x02 _ _ (λ _. bare m 1 start_session (λ _. tt)) (
    row m 0x04 _ _ (λ _. bare m 3 (password _) (λ _. tt)) (
    row m 0x05 _ _ (λ _. bare m 1 heartbeat (λ _. tt)) (
    row m 0x07 _ _ (λ _. bare m 1 end_session (λ _. tt)) (
    row m 0x09 _ _ (λ _. bare m 8 (set_time _) (λ _. tt)) (
    row m 0x0A _ _ (text-back m b) (
    row m 0x0B _ _ (graphic-back m b) (
    row m 0x0C _ _ (message-back m b) (
    row m 0x0D _ _ (plan-back m b) (
    row m 0x12 _ _ (λ _. bare m 1 enabled_plans (λ _. tt)) (
    row m 0x17 _ _ (λ _. bare m 3 (stored_record _ _) (λ _. tt)) (
    row m 0x18 _ _ (λ _. bare m 1 fault_log (λ _. tt)) (
    row m 0x1A _ _ (λ _. bare m 1 empty_fault_log (λ _. tt)) (
    row m 0xF4 _ _ (λ _. bare m 1 order_log (λ _. tt)) (
    row m 0xFB _ _ (λ _. bare m 1 readings (λ _. tt)) (
    row m 0xFF _ _ (λ _. bare m 2 (list_stored _) (λ _. tt)) (
    row m (code_of Reset) _ _ (λ _. order m Reset) (
    row m (code_of Frame) _ _ (λ _. order m Frame) (
    row m (code_of Message) _ _ (λ _. order m Message) (
    row m (code_of EnablePlan) _ _ (λ _. order m EnablePlan) (
    row m (code_of DisablePlan) _ _ (λ _. order m DisablePlan) (
    row m (code_of Power) _ _ (λ _. order m Power) (
    row m (code_of Enable) _ _ (λ _. order m Enable) (λ _. tt)))))))))))))))))))))))

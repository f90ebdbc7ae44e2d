-- A head that is written one slot after the other.
use Rattle.std.proofs.Common.{◌≡◌, inl, inr, ⊎_elim, ℕ, ◌+◌, ◌-◌, ◌<◌, ◌≤◌, List, ◌++◌, length, take, drop, get_or, ap, sym, ◌∙◌, arith}
use Rattle.std.proofs.lemmas.Bool.{cases_lt}
use Rattle.std.proofs.Math.Seq.{take-add}
use Rattle.std.proofs.lemmas.List.{drop-drop, get_or-drop, get_or-take, length-append, length-drop, length-take-le, take_all}
use Rattle.log_file.specs.LogFile.{written}
use Rattle.log_file.proofs.Pieces.{behind-written, piece-written}
use Rattle.log_store.specs.Disk.{Torn}
use Rattle.log_store.specs.Store.{TornInTurn}
use Rattle.log_store.proofs.Points.{byte, cut-behind, cut-before, cut-long, torn-mixed, torn-points}

-- the two parts
pub first-long : (head : List ℕ) → length head ≡ 96 → length (take 64 head) ≡ 64
first-long head long = length-take-le 64 head (omega (arith, long))

pub second-long : (head : List ℕ) → length head ≡ 96 → length (take 32 (drop 64 head)) ≡ 32
second-long head long = length-take-le 32 (drop 64 head) (omega (arith, long, length-drop 64 head))

parts : (head : List ℕ) → length head ≡ 96 → take 64 head ++ take 32 (drop 64 head) ≡ head
parts head long = sym (take-add 64 32 head) ∙ take_all 96 head (omega (arith, long))

-- Once both are written, the head is.
pub both-halves : (head file : List ℕ) → length head ≡ 96
    → written (written file 0 (take 64 head)) 64 (take 32 (drop 64 head)) ≡ written file 0 head
both-halves head file long =
    let a = take 64 head in
    let b = take 32 (drop 64 head) in
    let f = written file 0 a in
    let behind : drop 64 f ≡ drop 64 file = behind-written file a 0 64 (omega (arith, first-long head long))
    (omega arith)
    in
    let end : 96 ≡ 0 + length head = omega (arith, long) in
    ap (λ l. l ++ b ++ drop (64 + length b) f) (piece-written file a 0 64 (first-long head long) (omega arith))
    ∙ ap (λ n. a ++ b ++ drop (64 + n) f) (second-long head long)
    ∙ ap (λ l. a ++ b ++ l) (sym (drop-drop 32 64 f) ∙ ap (drop 32) behind ∙ drop-drop 32 64 file)
    ∙ ap (λ l. l ++ drop 96 file) (parts head long)
    ∙ ap (λ n. head ++ drop n file) end

-- What is written at the start is there.
pub front-written : (part file : List ℕ) → length part ≤ length (written file 0 part)
front-written part file = omega (arith, length-append part (drop (0 + length part) file))

-- the bytes of the parts
first-byte : (head : List ℕ) (i : ℕ) → i < 64 → get_or (take 64 head) i 0 ≡ get_or head i 0
first-byte head i low = get_or-take 64 head i 0 low

second-byte : (head : List ℕ) (i : ℕ) → i < 32 → get_or (take 32 (drop 64 head)) i 0 ≡ get_or head (64 + i) 0
second-byte head i low = get_or-take 32 (drop 64 head) i 0 low ∙ get_or-drop 64 head i 0

-- The first part was cut short.
pub first-torn : (head old left : List ℕ) → length head ≡ 96 → Torn 0 (take 64 head) old left → Torn 0 head old left
first-torn head old left long torn =
    let count = first-long head long in
    torn-points 0 head old left (λ i low. absurd (omega arith))
    (λ i high. cut-behind torn.cut i (omega (arith, count, long, high)))
    (λ i low. elim (cases_lt i 64) [
      | inl less ↦ ⊎_elim (λ is. inl is) (λ is. inr (is ∙ first-byte head i (omega arith)))
          (torn-mixed torn i (omega (arith, count)))
      | inr ge ↦ inl (cut-behind torn.cut (0 + i) (omega (arith, count)))
    ])
    torn.cut.no_shorter
    (⊎_elim (λ is. inl is) (λ le. inr (omega (arith, le, count, long))) (cut-long torn.cut))
    (inr (omega arith))

-- Behind the first part the second one was cut short.
pub second-torn : (head old left : List ℕ) → length head ≡ 96
    → Torn 64 (take 32 (drop 64 head)) (written old 0 (take 64 head)) left → Torn 0 head old left
second-torn head old left long torn =
    let a = take 64 head in
    let f = written old 0 a in
    let count = first-long head long in
    let more = second-long head long in
    let behind : drop 64 f ≡ drop 64 old = behind-written old a 0 64 (omega (arith, count)) (omega arith) in
    let front : take 64 f ≡ a = piece-written old a 0 64 count (omega arith) in
    let all : length f ≡ 64 + (length old - 64) =
    omega (arith, length-append a (drop (0 + length a) old), length-drop (0 + length a) old, count) in
    let there : (i : ℕ) → 64 ≤ i → get_or f i 0 ≡ get_or old i 0 = λ i high.
    let k = i - 64 in
    let is : 64 + k ≡ i = omega (arith, high) in
    byte f (sym is) ∙ sym (get_or-drop 64 f k 0) ∙ ap (λ l. get_or l k 0) behind
    ∙ get_or-drop 64 old k 0 ∙ byte old is
    in
    torn-points 0 head old left (λ i low. absurd (omega arith))
    (λ i high. cut-behind torn.cut i (omega (arith, more, long, high)) ∙ there i (omega (arith, long, high)))
    (λ i low. elim (cases_lt i 64) [
      | inl less ↦ inr (byte left (omega arith) ∙ cut-before torn.cut i (omega arith) ∙ sym
          (get_or-take 64 f i 0 (omega arith))
          ∙ ap (λ l. get_or l i 0) front ∙ first-byte head i (omega arith))
      | inr ge ↦
          let k = i - 64 in
          let is : 64 + k ≡ i = omega arith in
          let some : k < 32 = omega (arith, long, low) in
          ⊎_elim (λ old_is. inl (byte left (omega (arith, is)) ∙ old_is ∙ there (64 + k) (omega arith)
          ∙ byte old (omega (arith, is))))
          (λ new_is. inr (byte left (omega (arith, is)) ∙ new_is ∙ second-byte head k some
          ∙ byte head is))
          (torn-mixed torn k (omega (arith, more, some)))
    ])
    (omega (arith, torn.cut.no_shorter, all))
    (⊎_elim (λ is. elim (cases_lt (length old) 64) [
      | inl short ↦ inr (omega (arith, is, all, long))
      | inr ge ↦ inl (omega (arith, is, all))
    ]) (λ le. inr (omega (arith, le, more, long))) (cut-long torn.cut))
    (inr (omega arith))

-- Either way no more than the head was cut short.
pub turn-torn : (head old left : List ℕ) → length head ≡ 96 → TornInTurn head old left → Torn 0 head old left
turn-torn head old left long (inl torn) = first-torn head old left long torn
turn-torn head old left long (inr torn) = second-torn head old left long torn

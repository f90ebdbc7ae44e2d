-- Writes that were cut short, byte by byte.
use Rattle.std.proofs.Common.{◌≡◌, ◌⊎◌, inl, inr, ⊎_elim, ℕ, ◌+◌, ◌-◌, ◌<◌, ◌≤◌, max, List, length, take, drop, get_or, ap, sym, ◌∙◌, arith}
use Rattle.std.proofs.lemmas.Bool.{cases_lt}
use Rattle.std.proofs.lemmas.List.{ext_get_or, get_or-drop, get_or-take, length-drop, length-take-le, take_all}
use Rattle.std.proofs.Math.Nat.{max-eq_left, max-eq_right}
use Rattle.log_store.specs.Disk.{Cut, Torn}

-- a byte by another name of its place
pub byte : (file : List ℕ) {i j : ℕ} → i ≡ j → get_or file i 0 ≡ get_or file j 0
byte file is = ap (λ k. get_or file k 0) is

-- Lists of which each byte is the same begin alike.
pub take-points : (n : ℕ) (a b : List ℕ) → (length a ≡ length b) ⊎ ((n ≤ length a) × (n ≤ length b))
    → ((i : ℕ) → i < n → get_or a i 0 ≡ get_or b i 0) → take n a ≡ take n b
take-points n a b long same = elim (cases_lt (length a) n) [
  | inl short ↦ ⊎_elim (λ is. take_all n a (omega arith) ∙ ext_get_or 0 a b is (λ i less. same i (omega arith))
      ∙ sym (take_all n b (omega arith)))
      (λ both. absurd (omega (arith, both.0))) long
  | inr ge ↦
      let ge_b : n ≤ length b = ⊎_elim (λ is. omega (arith, is)) (λ both. both.1) long in
      ext_get_or 0 (take n a) (take n b) (length-take-le n a (omega arith) ∙ sym (length-take-le n b ge_b))
      (λ i less. let low : i < n = omega (arith, length-take-le n a (omega arith)) in
      get_or-take n a i 0 low ∙ same i low ∙ sym (get_or-take n b i 0 low))
]

pub drop-points : (n : ℕ) (a b : List ℕ) → length (drop n a) ≡ length (drop n b)
    → ((i : ℕ) → n ≤ i → get_or a i 0 ≡ get_or b i 0) → drop n a ≡ drop n b
drop-points n a b long same = ext_get_or 0 (drop n a) (drop n b) long (λ i less.
    get_or-drop n a i 0 ∙ same (n + i) (omega arith) ∙ sym (get_or-drop n b i 0))

-- What a cut says of each byte.
pub cut-before : {at n : ℕ} {old new : List ℕ} → Cut at n old new → (i : ℕ) → i < at → get_or new i 0 ≡ get_or old i 0
cut-before {at} {n} {old} {new} cut i low =
    sym (get_or-take at new i 0 low) ∙ ap (λ l. get_or l i 0) cut.before ∙ get_or-take at old i 0 low

pub cut-behind : {at n : ℕ} {old new : List ℕ} → Cut at n old new → (i : ℕ) → at + n ≤ i
    → get_or new i 0 ≡ get_or old i 0
cut-behind {at} {n} {old} {new} cut i high =
    let k = i - (at + n) in
    let is : at + n + k ≡ i = omega (arith, high) in
    ap (λ j. get_or new j 0) (sym is) ∙ sym (get_or-drop (at + n) new k 0) ∙ ap (λ l. get_or l k 0) cut.after
    ∙ get_or-drop (at + n) old k 0 ∙ ap (λ j. get_or old j 0) is

pub torn-mixed : {at : ℕ} {bytes old new : List ℕ} → Torn at bytes old new → (i : ℕ) → i < length bytes
    → (get_or new (at + i) 0 ≡ get_or old (at + i) 0) ⊎ (get_or new (at + i) 0 ≡ get_or bytes i 0)
torn-mixed {at} {bytes} {old} {new} torn i low = ⊎_elim
    (λ is. inl (sym (get_or-drop at new i 0) ∙ is ∙ get_or-drop at old i 0))
    (λ is. inr (sym (get_or-drop at new i 0) ∙ is)) (torn.mixed i low)

-- Where a file ends before the place of a write, it stays as long as it was.
pub cut-short : {at n : ℕ} {old new : List ℕ} → Cut at n old new → (length new ≡ length old) ⊎ (at ≤ length old)
cut-short {at} {n} {old} {new} cut = elim (cases_lt (length old) at) [
  | inl short ↦ elim (cases_lt (length new) at) [
    | inl less ↦ inl (ap length (sym (take_all at new (omega arith)) ∙ cut.before ∙ take_all at old (omega arith)))
    | inr more ↦ absurd (omega (
      arith,
      ap length cut.before,
      length-take-le at new (omega arith),
      ap length (take_all at old (omega arith)),
    ))
  ]
  | inr ge ↦ inr (omega arith)
]

-- how long a file is behind a cut
pub cut-long : {at n : ℕ} {old new : List ℕ} → Cut at n old new → (length new ≡ length old) ⊎ (length new ≤ at + n)
cut-long {at} {n} {old} {new} cut = elim (cases_lt (length old) (at + n)) [
  | inl short ↦ inr (omega (arith, cut.no_longer, max-eq_right {n = length old} {m = at + n} (omega arith)))
  | inr ge ↦ inl (omega (arith, cut.no_longer, cut.no_shorter, max-eq_left {n = length old} {m = at + n} (omega arith)))
]

max-le : (a b c : ℕ) → (c ≤ a) ⊎ (c ≤ b) → c ≤ max a b
max-le a b c either = elim (cases_lt a b) [
  | inl less ↦ ⊎_elim (λ le. omega (arith, max-eq_right {n = a} {m = b} (omega arith)))
      (λ le. omega (arith, max-eq_right {n = a} {m = b} (omega arith))) either
  | inr ge ↦ ⊎_elim (λ le. omega (arith, max-eq_left {n = a} {m = b} (omega arith)))
      (λ le. omega (arith, max-eq_left {n = a} {m = b} (omega arith))) either
]

-- A write was cut short of which each byte says so.
pub torn-points : (at : ℕ) (bytes old new : List ℕ)
    → ((i : ℕ) → i < at → get_or new i 0 ≡ get_or old i 0)
    → ((i : ℕ) → at + length bytes ≤ i → get_or new i 0 ≡ get_or old i 0)
    → ((i : ℕ) → i < length bytes
    → (get_or new (at + i) 0 ≡ get_or old (at + i) 0) ⊎ (get_or new (at + i) 0 ≡ get_or bytes i 0))
    → length old ≤ length new
    → (length new ≡ length old) ⊎ (length new ≤ at + length bytes)
    → (length new ≡ length old) ⊎ (at ≤ length old)
    → Torn at bytes old new
torn-points at bytes old new before behind mixed no_shorter long short = record {
  cut = record {
    before = take-points at new old (⊎_elim (λ is. inl is) (λ ge. inr (omega (arith, no_shorter), ge)) short) before;
    after = drop-points (at + length bytes) new old (⊎_elim (λ is. omega (
      arith,
      length-drop (at + length bytes) new,
      length-drop (at + length bytes) old,
    ))
        (λ le. omega (
          arith,
          no_shorter,
          length-drop (at + length bytes) new,
          length-drop
              (at + length bytes) old,
        )) long)
        behind;
    no_shorter = no_shorter;
    no_longer = max-le (length old) (at + length bytes) (length new)
        (⊎_elim (λ is. inl (omega (arith, is))) (λ le. inr le) long);
  };
  mixed = λ i low. ⊎_elim (λ is. inl (get_or-drop at new i 0 ∙ is ∙ sym (get_or-drop at old i 0)))
      (λ is. inr (get_or-drop at new i 0 ∙ is)) (mixed i low);
}

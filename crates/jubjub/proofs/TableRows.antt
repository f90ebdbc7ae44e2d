-- Rows of an element's multiples, and sums of them by signed digits.
use Rattle.std.proofs.Common.{◌≡◌, ℕ, zero, suc, ◌+◌, ◌-◌, ◌*◌, ◌^◌, ◌<◌, ◌≤◌, List, ◌++◌, length, get_or, refl, sym, ap, ap₂, ◌∙◌, arith}
use Rattle.std.proofs.Common.{inl, inr, subst, pow-suc, append_assoc, append-nil, length-append}
use Rattle.std.proofs.Math.Nat.{mul_assoc, mul-le-mul_right}
use Rattle.std.proofs.lemmas.Bool.{cases_lt}
use Rattle.std.proofs.lemmas.List.{get_or_append_left, get_or-append-add}
use Rattle.std.proofs.lemmas.List.FromFn.{get_or-map-range_with_len, length-map-range_with_len}
use Rattle.ark_groups.specs.Group.{times}
use Rattle.ark_groups.proofs.Multiples.{right_identity, times-add, times-mul, times_at}
use Rattle.edwards.specs.Digits.{added, taken}
use Rattle.edwards.proofs.Balance.{swap_inner, cancelled}
use Rattle.edwards.proofs.SignedDigits.{added-low, added-high, taken-low, taken-high}
use Rattle.jubjub.specs.declared.element.Jubjub.{Jubjub}
use Rattle.jubjub.specs.Elements.{jubjub}
use Rattle.jubjub.specs.Laws.Group.{jubjub_laws}
use Rattle.jubjub.specs.Tables.{entry_at, row_of_multiples, rows_of, signed_at}
use Rattle.jubjub.proofs.TableDigits.{signed_low, signed_high}

length-row : (x : Jubjub) → length (row_of_multiples x) ≡ 16
length-row x = length-map-range_with_len (λ k. times jubjub k x) 1 16

pub length-rows : (n : ℕ) (x : Jubjub) → length (rows_of n x) ≡ 16 * n
unfolding rows_of
length-rows zero x = omega arith
length-rows (suc n) x =
    let others = length-rows n (times jubjub 32 x) in
    omega (arith, length-append (row_of_multiples x) (rows_of n (times jubjub 32 x)), length-row x, others)

-- the entry at a place of the rows is a multiple
rows_at : (n i j : ℕ) (x e : Jubjub) → i < n → j < 16
    → get_or (rows_of n x) (16 * i + j) e ≡ times jubjub ((1 + j) * 32 ^ i) x
unfolding rows_of
rows_at zero i j x e none within = absurd (omega (arith, none))
rows_at (suc n) zero j x e below within =
    let others = rows_of n (times jubjub 32 x) in
    let here : j < length (row_of_multiples x) = omega (arith, within, length-row x) in
    ap (λ k. get_or (row_of_multiples x ++ others) k e) (first j)
    ∙ get_or_append_left (row_of_multiples x) others e j here
    ∙ get_or-map-range_with_len (λ k. times jubjub k x) 1 16 j (1 + j) e within refl
    ∙ times_at jubjub_laws x (once j)
  where
    first : (j : ℕ) → 16 * 0 + j ≡ j
    first j = omega arith

    once : (j : ℕ) → 1 + j ≡ (1 + j) * 32 ^ 0
    once j = omega arith
rows_at (suc n) (suc i) j x e below within =
    let others = rows_of n (times jubjub 32 x) in
    ap (λ k. get_or (row_of_multiples x ++ others) k e) (next i j (length (row_of_multiples x)) (length-row x))
    ∙ get_or-append-add (row_of_multiples x) others (16 * i + j) e
    ∙ rows_at n i j (times jubjub 32 x) e (omega (arith, below)) within
    ∙ sym (times-mul jubjub_laws ((1 + j) * 32 ^ i) 32 x)
    ∙ times_at jubjub_laws x (mul_assoc (1 + j) (32 ^ i) 32 ∙ ap (λ k. (1 + j) * k) (sym (pow-suc 32 i)))
  where
    next : (i j n : ℕ) → n ≡ 16 → 16 * suc i + j ≡ n + (16 * i + j)
    next i j n is = omega (arith, is)

-- the first of the rows' entries is the element
pub first_is : (x : Jubjub) → get_or (rows_of 51 x) 0 jubjub.identity ≡ x
first_is x = rows_at 51 0 0 x jubjub.identity (omega arith) (omega arith) ∙ jubjub_laws.left_identity x

entry_is : (x : Jubjub) (i size : ℕ) → i < 51 → size ≤ 16
    → entry_at (rows_of 51 x) (16 * i) size ≡ times jubjub (size * 32 ^ i) x
entry_is x i zero below small = times_at jubjub_laws x (none (32 ^ i))
  where
    none : (q : ℕ) → 0 ≡ 0 * q
    none q = omega arith
entry_is x i (suc j) below small =
    rows_at 51 i j x jubjub.identity below (omega (arith, small)) ∙ times_at jubjub_laws x (same j (32 ^ i))
  where
    same : (j q : ℕ) → (1 + j) * q ≡ suc j * q
    same j q = ap (λ k. k * q) (omega arith)

-- one row more was put
pub row_put : (done next : List Jubjub) (x y : Jubjub) (k : ℕ) (whole : List Jubjub) → k < 51
    → next ≡ done ++ row_of_multiples x → y ≡ times jubjub 32 x → done ++ rows_of (51 - k) x ≡ whole
    → next ++ rows_of (51 - (k + 1)) y ≡ whole
unfolding rows_of
row_put done next x y k whole below put is_y so_far =
    let one : 51 - k ≡ suc (51 - (k + 1)) = omega (arith, below) in
    ap (λ t. t ++ rows_of (51 - (k + 1)) y) put
    ∙ ap (λ z. (done ++ row_of_multiples x) ++ rows_of (51 - (k + 1)) z) is_y
    ∙ append_assoc done (row_of_multiples x) (rows_of (51 - (k + 1)) (times jubjub 32 x))
    ∙ ap (λ n. done ++ rows_of n x) (sym one)
    ∙ so_far

pub rows_put : (done : List Jubjub) (x : Jubjub) (k : ℕ) (whole : List Jubjub) → 51 ≤ k
    → done ++ rows_of (51 - k) x ≡ whole → done ≡ whole
unfolding rows_of
rows_put done x k whole all so_far =
    let none : 51 - k ≡ 0 = omega (arith, all) in
    sym (ap (λ n. done ++ rows_of n x) none ∙ append-nil done) ∙ so_far

-- ---- sums by signed digits

-- the multiple by a digit and by what it takes away are the multiple by what it adds
digit_is : (x : Jubjub) (i c : ℕ) → i < 51 → c < 32
    → jubjub.plus (signed_at (rows_of 51 x) (16 * i) c) (times jubjub (taken c * 32 ^ i) x)
    ≡ times jubjub (added c * 32 ^ i) x
digit_is x i c below small =
    elim (cases_lt c 16) [
      | inl l ↦
          ap₂ jubjub.plus
          (sym (signed_low xs (16 * i) c l)
          ∙ entry_is x i c below (omega (arith, l)))
          (times_at jubjub_laws x (ap (λ k. k * q) (taken-low c l) ∙ none q))
          ∙ right_identity jubjub_laws (times jubjub (c * q) x)
          ∙ times_at jubjub_laws x (ap (λ k. k * q) (sym (added-low c l)))
      | inr l ↦
          ap₂ jubjub.plus
          (sym (signed_high xs (16 * i) c l)
          ∙ ap jubjub.opposite (entry_is x i (32 - c) below (omega (arith, l))))
          (times_at jubjub_laws x (ap (λ k. k * q) (taken-high c l)))
          ∙ jubjub_laws.left_opposite (times jubjub ((32 - c) * q) x)
          ∙ times_at jubjub_laws x (sym (ap (λ k. k * q) (added-high c l) ∙ none q))
    ]
  where
    q : ℕ
    q = 32 ^ i

    xs : List Jubjub
    xs = rows_of 51 x

    none : (q : ℕ) → 0 * q ≡ 0
    none q = omega arith

-- m less t is what the digits below a place count, of a number of which a rest is left
pub record Counted (i rest n m t : ℕ) : Type 0 where
  pub whole : m + 32 ^ i * rest ≡ n + t
  pub small : 31 * t ≤ 16 * 32 ^ i

pub none_counted : (n : ℕ) → Counted 0 n n 0 0
none_counted n = record { whole = omega arith; small = omega arith }

pub next_counted : (i rest next n m t c : ℕ) → c < 32 → 32 * next + added c ≡ rest + taken c → Counted i rest n m t
    → Counted (i + 1) next n (m + added c * 32 ^ i) (t + taken c * 32 ^ i)
next_counted i rest next n m t c small parts before = record {
  whole = ap (λ q. m + added c * 32 ^ i + q * next) power
      ∙ gathered m (32 ^ i) (added c) (taken c) rest next n t before.whole parts;
  small = bounded (32 ^ i) (32 ^ (i + 1)) (taken c) t power (taken_small c) before.small;
}
  where
    power : 32 ^ (i + 1) ≡ 32 * 32 ^ i
    power = ap (λ k. 32 ^ k) (one_more i) ∙ pow-suc 32 i ∙ turn (32 ^ i)
      where
        one_more : (i : ℕ) → i + 1 ≡ suc i
        one_more i = omega arith

        turn : (q : ℕ) → q * 32 ≡ 32 * q
        turn q = omega arith

    gathered : (m q a k b e n t : ℕ) → m + q * b ≡ n + t → 32 * e + a ≡ b + k → m + a * q + 32 * q * e ≡ n + (t + k * q)
    gathered m q a k b e n t so_far parts =
        let both : q * (32 * e + a) ≡ q * (b + k) = ap (λ n. q * n) parts in
        omega (arith, so_far, both)

    taken_small : (c : ℕ) → taken c ≤ 16
    taken_small c =
        elim (cases_lt c 16) [
          | inl l ↦ let is = taken-low c l in omega (arith, is)
          | inr l ↦ let is = taken-high c l in omega (arith, is, l)
        ]

    bounded : (q r k t : ℕ) → r ≡ 32 * q → k ≤ 16 → 31 * t ≤ 16 * q → 31 * (t + k * q) ≤ 16 * r
    bounded q r k t is few so_far =
        let most : k * q ≤ 16 * q = mul-le-mul_right q few in
        omega (arith, is, most, so_far)

-- nothing is left behind the last place
pub all_counted : (i rest n m t : ℕ) → i ≡ 51 → n < 2 ^ 252 → Counted i rest n m t → m ≡ n + t
all_counted i rest n m t last fits counted =
    let whole = ap (λ k. m + 32 ^ k * rest) (sym last) ∙ counted.whole in
    let small : 31 * t ≤ 16 * 32 ^ 51 = subst (λ k. 31 * t ≤ 16 * 32 ^ k) last counted.small in
    omega (arith, whole, small, fits)

-- one digit more was added
pub sum_more : (x sum new : Jubjub) (m t i c : ℕ) → i < 51 → c < 32
    → new ≡ jubjub.plus sum (signed_at (rows_of 51 x) (16 * i) c)
    → jubjub.plus sum (times jubjub t x) ≡ times jubjub m x
    → jubjub.plus new (times jubjub (t + taken c * 32 ^ i) x) ≡ times jubjub (m + added c * 32 ^ i) x
sum_more x sum new m t i c below small is_new so_far =
    ap₂ jubjub.plus is_new (times-add jubjub_laws t (taken c * 32 ^ i) x)
    ∙ swap_inner jubjub jubjub_laws x x sum (signed_at (rows_of 51 x) (16 * i) c) (times jubjub t x)
    (times jubjub (taken c * 32 ^ i) x)
    ∙ ap₂ jubjub.plus so_far (digit_is x i c below small)
    ∙ sym (times-add jubjub_laws m (added c * 32 ^ i) x)

-- all digits were added
pub sum_whole : (x sum : Jubjub) (n m t : ℕ) → m ≡ n + t → jubjub.plus sum (times jubjub t x) ≡ times jubjub m x
    → sum ≡ times jubjub n x
sum_whole x sum n m t is so_far =
    cancelled jubjub jubjub_laws x x sum (times jubjub n x) (times jubjub t x)
    (so_far ∙ times_at jubjub_laws x is ∙ times-add jubjub_laws n t x)

-- How many leaves the incomplete subtree beside a way has, and how many pairs are hashed for the digests beside it.
use Rattle.std.proofs.Common.{zero, suc, ◌≡◌, ℕ, ◌+◌, ◌-◌, ◌/◌, ◌%◌, ◌<◌, ◌≤◌, ◌^◌, arith, refl, ap, sym, ◌∙◌, inl, inr}
use Rattle.std.proofs.lemmas.Bool.{cases_lt, lt-ltb, le-ltb}
use Rattle.std.proofs.lemmas.Nat.{ones_le_self}
use Rattle.std.specs.Prelude.{Option, Some, None}
use Rattle.merkle_log.specs.Edge.{back_leaves, beside_left, beside_pairs, pairs_left, root_pairs, Tallies}
use Rattle.merkle_log.proofs.Positions.{half_ones}
use Rattle.merkle_log.proofs.Tests.{twice, half_above, half_below, half_behind, fewer}
use Rattle.merkle_log.proofs.Tallied.{left-end}
use Rattle.merkle_log.proofs.Verdicts.{pow_above}

-- A row's number of values beside a way, and that of the row above.
pub record IsHalved (here above n : ℕ) : Type 0 where
  pub some : 0 < here
  pub parity : here % 2 ≡ n % 2
  pub half : above ≡ (here + 1) / 2

-- One row up there are half as many, as long as the way is not beside the last value.
pub back-up : (k i n : ℕ) → i / 2 < (n - 1) / 2 → n ≤ 2 ^ suc k
    → IsHalved (back_leaves (suc k) i n) (back_leaves k (i / 2) ((n + 1) / 2)) n
back-up zero i n under high = absurd (omega arith)
back-up (suc j) i n under high =
    let two = twice j in
    let four = twice (suc j) in
    rw (half_above j n, half_below j i) (elim (cases_lt (2 ^ suc j) n) [
      | inl lt ↦ rw (lt-ltb (2 ^ suc j) n lt) (elim (cases_lt i (2 ^ suc j)) [
        | inl left ↦
            rw (lt-ltb i (2 ^ suc j) left) (record { some = omega arith; parity = omega arith; half = omega arith })
        | inr right ↦
            let half_n : (n + 1) / 2 - 2 ^ j ≡ (n - 2 ^ suc j + 1) / 2 = omega arith in
            let next = back-up j (i - 2 ^ suc j) (n - 2 ^ suc j) (omega arith) (omega arith) in
            rw (le-ltb i (2 ^ suc j) right, ← half_behind j i, half_n)
            (record { some = next.some; parity = omega (arith, next.parity); half = next.half })
      ])
      | inr ge ↦ rw (le-ltb (2 ^ suc j) n ge) (back-up j i n under ge)
    ])

-- Beside the last value, or at it, there is at most one.
pub back-near : (k i n : ℕ) → i < n → (n - 1) / 2 ≤ i / 2 → back_leaves k i n ≤ 1
back-near zero i n inside near = omega arith
back-near (suc zero) i n inside near = elim (cases_lt 1 n) [
  | inl lt ↦ rw (lt-ltb 1 n lt) (elim (cases_lt i 1) [
    | inl left ↦ rw (lt-ltb i 1 left) (omega arith)
    | inr right ↦ rw (le-ltb i 1 right) (omega arith)
  ])
  | inr ge ↦ rw (le-ltb 1 n ge) (omega arith)
]
back-near (suc (suc j)) i n inside near =
    let two = twice j in
    elim (cases_lt (2 ^ suc j) n) [
      | inl lt ↦ rw (lt-ltb (2 ^ suc j) n lt) (elim (cases_lt i (2 ^ suc j)) [
        | inl left ↦ rw (lt-ltb i (2 ^ suc j) left) (omega arith)
        | inr right ↦ rw (le-ltb i (2 ^ suc j) right)
            (back-near (suc j) (i - 2 ^ suc j) (n - 2 ^ suc j) (omega arith) (omega arith))
      ])
      | inr ge ↦ rw (le-ltb (2 ^ suc j) n ge) (back-near (suc j) i n inside near)
    ]

-- From an index of a row on, with so many pairs hashed, all in all it is so many.
pub record Tallying {A : Type 0} (count i s : ℕ) (last : Option A) (total : ℕ) : Type 0 where
  pub levels : ℕ
  pub high : s < 2 ^ levels
  pub inside : i ≤ s
  pub is : count + beside_left levels i s last ≡ total

-- all of them, from the leaves on
pub beside-first : (c i size : ℕ) → c ≡ 0 → 0 < size
    → c + root_pairs (back_leaves size i (size - 1 + 1) - 1 + 1) ≡ beside_pairs i size
beside-first c i size none some =
    let all : size - 1 + 1 ≡ size = omega arith in
    let same = ap (λ n. root_pairs (back_leaves size i n - 1 + 1)) all ∙ whole (back_leaves size i size) in
    behind (root_pairs (back_leaves size i (size - 1 + 1) - 1 + 1)) (beside_pairs i size) same
  where
    behind : (left all : ℕ) → left ≡ all → c + left ≡ all
    behind left all same = omega arith

    whole : (b : ℕ) → root_pairs (b - 1 + 1) ≡ root_pairs b
    whole zero = omega (arith, half_ones 1, ones_le_self 0)
    whole (suc b) = let e : suc b - 1 + 1 ≡ suc b = omega arith in ap root_pairs e

pub tallying-first : {A : Type 0} {c : ℕ} (old_size size : ℕ) → c ≡ 0 → 0 < old_size → old_size < size
    → Tallying {A = A} c (old_size - 1) (size - 1) None (beside_pairs (old_size - 1) size)
tallying-first {A} {c} old_size size none some more =
    let high = pow_above size in
    record {
      levels = size;
      high = omega arith;
      inside = omega arith;
      is = beside-first c (old_size - 1) size none (omega arith);
    }

pub tallying-next : {A : Type 0} {c i s total : ℕ} {last : Option A} → Tallying c i s last total → 0 < s → (d : ℕ)
    (up : Option A) → (i / 2 < s / 2 → Tallies c d s last up) → (s / 2 ≤ i / 2 → d ≡ c)
    → Tallying d (i / 2) (s / 2) up total
tallying-next {A} {c} {i} {s} {total} {last} at some d up more none =
    let e : (s + 1 + 1) / 2 ≡ s / 2 + 1 = omega arith in
    let level = fewer (λ k. c + beside_left k i s last ≡ total) (λ k. d + beside_left k (i / 2) (s / 2) up ≡ total)
    at.levels some at.high at.is (λ k high is. elim (cases_lt (i / 2) (s / 2)) [
      | inl under ↦
          let halved = back-up k i (s + 1) (omega arith) (omega arith) in
          let here = back_leaves (suc k) i (s + 1) in
          let edge : back_leaves k (i / 2) (s / 2 + 1) - 1 ≡ (here - 1) / 2 =
          omega (arith, halved.some, ap (back_leaves k (i / 2)) e, halved.half) in
          ap (λ n. d + pairs_left n up) edge ∙ more under (here - 1) (omega (arith, halved.some, halved.parity)) ∙ is
      | inr near ↦
          let one = back-near (suc k) i (s + 1) (omega (arith, at.inside)) (omega arith) in
          let one_up = back-near k (i / 2) (s / 2 + 1) (omega (arith, at.inside)) (omega arith) in
          sym (left-end d (d + beside_left k (i / 2) (s / 2) up) (back_leaves k (i / 2) (s / 2 + 1) - 1) up
          (omega arith) refl) ∙ none near
          ∙ left-end c total (back_leaves (suc k) i (s + 1) - 1) last (omega arith) is
    ]) in
    record { levels = level.levels; high = level.high; inside = omega (arith, at.inside); is = level.at }

-- at the root
pub tallying-end : {A : Type 0} {c i s total : ℕ} {last : Option A} → Tallying c i s last total → s ≡ 0 → c ≡ total
tallying-end {A} {c} {i} {s} {total} {last} at end =
    let inside = at.inside in
    let one = back-near at.levels i (s + 1) (omega arith) (omega arith) in
    left-end c total (back_leaves at.levels i (s + 1) - 1) last (omega arith) at.is

-- A level hashes one pair at most.
pub tallies-one : {A : Type 0} (c d s : ℕ) (last up : Option A) → Tallies c d s last up → d ≤ c + 1
tallies-one c d s last up more =
    let here = more (s % 2) (omega arith) in
    let none = left-end d (d + pairs_left (s % 2 / 2) up) (s % 2 / 2) up (omega arith) refl in
    let one = at_most last in
    omega arith
  where
    at_most : {A : Type 0} (last : Option A) → pairs_left (s % 2) last ≤ 1
    at_most None = omega (arith, ones_le_self (s % 2 + 1))
    at_most (Some last) = omega (arith, ones_le_self (s % 2))

-- So the count stays below the level.
pub low-next : {A : Type 0} {c d level : ℕ} (i s : ℕ) (last up : Option A) → c ≤ level
    → (i / 2 < s / 2 → Tallies c d s last up) → (s / 2 ≤ i / 2 → d ≡ c) → d ≤ level + 1
low-next {A} {c} {d} i s last up low more none = elim (cases_lt (i / 2) (s / 2)) [
  | inl under ↦ let one = tallies-one c d s last up (more under) in omega arith
  | inr near ↦ let same = none near in omega arith
]

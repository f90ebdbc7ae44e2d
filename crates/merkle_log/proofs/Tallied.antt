-- How many pairs a root is hashed from.
use Rattle.std.proofs.Common.{◌≡◌, ℕ, ◌+◌, ◌-◌, ◌/◌, ◌%◌, ◌<◌, ◌^◌, ap, arith}
use Rattle.std.proofs.lemmas.Nat.{ones_le_self}
use Rattle.std.proofs.Math.Nat.{min-eq_left}
use Rattle.std.specs.Prelude.{count_ones, min, Option, Some, None}
use Rattle.merkle_log.specs.Edge.{pairs_left, root_pairs}
use Rattle.merkle_log.proofs.Positions.{half_ones}

-- all of them, above the leaves
pub left-first : (c size : ℕ) → c ≡ 0 → 0 < size → c + root_pairs (size - 1 + 1) ≡ root_pairs size
left-first c size none some =
    let all : size - 1 + 1 ≡ size = omega arith in
    let same : count_ones (size - 1 + 1) ≡ count_ones size = ap count_ones all in omega arith

-- a last digest of its own at an odd index: the one above it is complete too
pub left-whole : (c s : ℕ) → s % 2 ≡ 1 → c + root_pairs (s / 2 + 1) ≡ c + root_pairs (s + 1)
left-whole c s odd =
    let up : (s + 1) / 2 ≡ s / 2 + 1 = omega arith in
    let even : (s + 1) % 2 ≡ 0 = omega arith in
    omega (arith, half_ones (s + 1), ap count_ones up)

-- at an even index it is copied
pub left-copied : (c s : ℕ) → s % 2 ≡ 0 → c + count_ones (s / 2) ≡ c + root_pairs (s + 1)
left-copied c s even =
    let up : (s + 1) / 2 ≡ s / 2 = omega arith in
    let odd : (s + 1) % 2 ≡ 1 = omega arith in
    omega (arith, half_ones (s + 1), ap count_ones up)

-- one that was hashed is hashed with the one before it at an odd index
pub left-hashed : (c d s : ℕ) → c + 1 < 2 ^ 64 → d ≡ min (c + 1) 18446744073709551615 → s % 2 ≡ 1
    → d + count_ones (s / 2) ≡ c + count_ones s
left-hashed c d s room one odd =
    let sum : min (c + 1) 18446744073709551615 ≡ c + 1 = min-eq_left (omega arith) in
    omega (arith, half_ones s)

-- and stays at an even one
pub left-kept : (c s : ℕ) → s % 2 ≡ 0 → c + count_ones (s / 2) ≡ c + count_ones s
left-kept c s even = omega (arith, half_ones s)

-- so far it is below the largest count
pub left-room : (c left size : ℕ) → size < 2 ^ 64 → c + left ≡ root_pairs size → c + 1 < 2 ^ 64
left-room c left size fits is = omega (arith, ones_le_self size)

-- at the root none is left
pub left-end : {A : Type 0} (c n s : ℕ) (last : Option A) → s ≡ 0 → c + pairs_left s last ≡ n → c ≡ n
left-end c n s None end is =
    let one : s + 1 ≡ 1 = omega arith in
    let same : count_ones (s + 1) ≡ count_ones 1 = ap count_ones one in
    omega (arith, half_ones 1, ones_le_self 0)
left-end c n s (Some last) end is =
    let same : count_ones s ≡ count_ones 0 = ap count_ones end in omega (arith, ones_le_self 0)

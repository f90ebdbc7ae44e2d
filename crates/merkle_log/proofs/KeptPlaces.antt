-- How many places a level has.
use Rattle.std.proofs.Common.{zero, suc, ℕ, ◌+◌, ◌*◌, ◌/◌, ◌<◌, ◌≤◌, ◌^◌, arith, inl, inr}
use Rattle.std.proofs.lemmas.Bool.{cases_lt}
use Rattle.std.proofs.Math.Nat.{mul-le-mul_right}
use Rattle.merkle_log.specs.Walk.{index_up}
use Rattle.merkle_log.proofs.Positions.{below-up}

-- so many leaves have a place some levels up
pub above-up : (level n : ℕ) → n < (index_up level n + 1) * 2 ^ level
above-up zero n = omega arith
above-up (suc level) n =
    let ih = above-up level (n / 2) in
    omega (arith, below-up level (index_up level (n / 2)))

pub inside-up : (level place n : ℕ) → (place + 1) * 2 ^ level ≤ n → place < index_up level n
inside-up level place n le = elim (cases_lt place (index_up level n)) [
  | inl below ↦ below
  | inr past ↦
      let more = mul-le-mul_right (2 ^ level) (one_more past) in
      absurd (omega (arith, above-up level n))
]
  where
    one_more : index_up level n ≤ place → index_up level n + 1 ≤ place + 1
    one_more past = omega arith

use Rattle.std.proofs.Common.{ℕ, ◌-◌, ◌<◌, ◌≤◌, ◌^◌, List, length, take, drop, arith}
use Rattle.std.proofs.lemmas.List.{length-take}
use Rattle.ark_base.specs.Reading.{IsBytes}
use Rattle.ark_base.specs.Digits.{number_of_bytes}
use Rattle.ark_base.specs.Laws.Steps.{IsBytes-take, IsBytes-drop}
use Rattle.ark_base.proofs.Numerals.{number_of_bytes-lt}
use Rattle.test_support.proofs.groups.+number.Goals as goal

-- all bytes but the first of at most sixteen
others-lt : (bytes : List ℕ) → length bytes ≤ 16 → 1 ≤ length bytes → IsBytes bytes → number_of_bytes
    (take (length bytes - 1) (drop 1 bytes)) < 256 ^ 15
others-lt bytes short some fits =
    number_of_bytes-lt _ 15 (IsBytes-take (length bytes - 1) (drop 1 bytes) (IsBytes-drop 1 bytes fits))
    (omega (arith, length-take (length bytes - 1) (drop 1 bytes)))

pub overflow_mul-result : goal.overflow_mul-result
overflow_mul-result t c =
    let below = others-lt c.args.bytes.now c.requires c.in-len1-up.len_at_least
    (λ i. omega (arith, c.type_inv.bytes i)) in
    omega (arith, c.number.ensures)

pub overflow_add-result : goal.overflow_add-result
overflow_add-result t c =
    let below = others-lt c.args.bytes.now c.requires c.in-len1-up.len_at_least
    (λ i. omega (arith, c.type_inv.bytes i)) in
    omega (arith, c.number.ensures, c.type_inv.bytes 0)

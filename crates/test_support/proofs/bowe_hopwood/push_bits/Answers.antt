use Rattle.std.proofs.Common.{◌≡◌, ℕ, suc, ◌+◌, ◌-◌, ◌<◌, ◌≤◌, ◌/◌, ◌%◌, Bool, List, [], ◌∷◌, ◌++◌, nat_eq, sym, ap, ◌∙◌, append_assoc, arith}
use Rattle.std.proofs.lemmas.List.{append-nil}
use Rattle.ark_groups.specs.Bits.{bits_of_number}
use Rattle.test_support.proofs.bowe_hopwood.push_bits.Goals as goal

step : (front whole : List Bool) (i rest : ℕ) → i < 8 → front ++ bits_of_number (8 - i) rest ≡ whole
    → (front ++ nat_eq (rest % 2) 1 ∷ []) ++ bits_of_number (8 - (i + 1)) (rest / 2) ≡ whole
unfolding bits_of_number
step front whole i rest more so_far =
    let one : 8 - i ≡ suc (8 - (i + 1)) = omega arith in
    append_assoc front _ _ ∙ sym (ap (λ (n : ℕ). front ++ bits_of_number n rest) one) ∙ so_far

all : (front whole : List Bool) (i rest : ℕ) → 8 ≤ i → front ++ bits_of_number (8 - i) rest ≡ whole → front ≡ whole
unfolding bits_of_number
all front whole i rest done so_far =
    let none : 8 - i ≡ 0 = omega arith in
    sym (ap (λ (n : ℕ). front ++ bits_of_number n rest) none ∙ append-nil front) ∙ so_far

pub loop-preserved : goal.loop-preserved
loop-preserved c =
    rw c.in_ok-push.ensures.items (step c.loop.bits.items _ c.loop.counter c.loop.rest (omega (arith, c.loop-test.true))
    c.loop.invariant)

pub returns : goal.returns
returns c = all _ _ c.loop.counter c.loop.rest (omega (arith, c.loop-test.false)) c.loop.invariant

-- What a number of 0 says of an answer.
use Rattle.std.proofs.Common.{◌≡◌, ℤ, pos, w32, to_z, of_z, Bool, true, false, Ok, Err, IfOk, refl}
use Rattle.ark_base.specs.Outcome.{Outcome}
use Rattle.paxidore_page.specs.Code.{answer_number}

-- 0 is the number of `true`, so that what holds of an accepted proof holds
pub zero-shows : {P : Type 0} (outcome : Outcome Bool) (number : ℤ) → number ≡ answer_number outcome
    → IfOk outcome (λ accepted. accepted ≡ true → P) → to_z w32 (of_z w32 number) ≡ pos 0 → P
zero-shows (Ok true) number is shows zero = shows refl
zero-shows (Ok false) number is shows zero = let no = rw is at zero in absurd cc
zero-shows (Err error) number is shows zero = let no = rw is at zero in absurd cc

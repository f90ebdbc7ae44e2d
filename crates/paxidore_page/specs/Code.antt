-- What a check answers: 0 yes, 1 no, 2 where it came to no answer.
use Rattle.std.specs.Prelude.{◌≡◌, ◌⊎◌, ℤ, pos, Bool, true, false, Ok, Err}
use Rattle.ark_base.specs.Outcome.{Outcome}

-- the number of a verdict
abbrev pub verdict_number : Bool → ℤ
verdict_number true = pos 0
verdict_number false = pos 1

-- the number of an answer
abbrev pub answer_number : Outcome Bool → ℤ
answer_number (Ok verdict) = verdict_number verdict
answer_number (Err error) = pos 2

-- The number is that of the verdict, or there is none.
abbrev pub TellsVerdict : Outcome Bool → ℤ → Type 0
TellsVerdict outcome number = ((verdict : Bool) × (outcome ≡ Ok verdict) × (number ≡ verdict_number verdict))
    ⊎ (number ≡ pos 2)

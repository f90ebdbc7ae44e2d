-- What a call gives whose refusals have a type of their own.
use Rattle.std.specs.Prelude.{◌≡◌, ◌⊎◌, Result, Ok, Err, MatchResult}
use Rattle.ark_base.specs.declared.error.Error.{Error}
use Rattle.ark_base.specs.declared.error.Error.TheVariants.{OutOfMemory}
use Rattle.ark_base.specs.Outcome.{Outcome}

-- The call gives the outcome, its value seen by view; or a refusal that stands for the outcome's error or for a lack of
-- memory.
abbrev pub GivesBy : {A B R : Type 0} → (R → Error) → (A → B) → Outcome B → Result A R → Type 0
GivesBy why view outcome result =
    MatchResult result (λ value. outcome ≡ Ok (view value))
    (λ refusal. (why refusal ≡ OutOfMemory) ⊎ (outcome ≡ Err (why refusal)))

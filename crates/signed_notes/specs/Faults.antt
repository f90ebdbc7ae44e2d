-- Why there is no answer.
use Rattle.std.specs.Prelude.{◌≡◌, ◌⊎◌, Bool, if◌then◌else◌, Option, Some, None, Result, Ok, Err, MatchResult}
use Rattle.signed_notes.specs.declared.fault.Fault.{Fault}
use Rattle.signed_notes.specs.declared.fault.Fault.TheVariants.{Memory}

-- The call gives the outcome, its value seen by view, or a request for memory was refused.
abbrev pub NoteGivesBy : {A B : Type 0} → (A → B) → Result B Fault → Result A Fault → Type 0
NoteGivesBy view outcome result =
    MatchResult result (λ value. outcome ≡ Ok (view value)) (λ fault. (fault ≡ Memory) ⊎ (outcome ≡ Err fault))

-- goes on where a condition holds; else the fault
abbrev pub only_where : {A : Type 0} → Bool → Fault → Result A Fault → Result A Fault
only_where holds fault next = if holds then next else Err fault

-- the value, or the fault where there is none
abbrev pub or_fault : {A : Type 0} → Option A → Fault → Result A Fault
or_fault None fault = Err fault
or_fault (Some value) fault = Ok value

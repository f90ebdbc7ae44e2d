-- What follows where a chain of steps gave a value.
use Rattle.std.proofs.Common.{◌≡◌, Bool, true, false, Option, Some, None, Result, Ok, Err, refl}
use Rattle.std.specs.Result.{result_ok}
use Rattle.ark_base.specs.Outcome.{◌>>=◌}
use Rattle.signed_notes.specs.Faults.{only_where, or_fault}
use Rattle.signed_notes.specs.declared.fault.Fault.{Fault}

pub only_if-ok : {A : Type 0} (holds : Bool) (fault : Fault) (next : Result A Fault) (value : A)
    → only_where holds fault next ≡ Ok value → (holds ≡ true) × (next ≡ Ok value)
only_if-ok true fault next value e = (refl, e)
only_if-ok false fault next value e = absurd cc

pub bind-ok : {A B : Type 0} (first : Result A Fault) (then : A → Result B Fault) (value : B)
    → first >>= then ≡ Ok value → (x : A) × (first ≡ Ok x) × (then x ≡ Ok value)
bind-ok (Ok x) then value e = (x, refl, e)
bind-ok (Err fault) then value e = absurd cc

pub or_fault-ok : {A : Type 0} (found : Option A) (fault : Fault) (value : A) → or_fault found fault ≡ Ok value
    → found ≡ Some value
or_fault-ok None fault value e = absurd cc
or_fault-ok (Some x) fault value e = let same : x ≡ value = cc in cc

pub some-ok : {A E : Type 0} (result : Result A E) (value : A) → result_ok result ≡ Some value → result ≡ Ok value
some-ok (Ok x) value e = let same : x ≡ value = cc in cc
some-ok (Err error) value e = absurd cc

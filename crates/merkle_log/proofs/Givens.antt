-- Refusals that a `?` passes on, and what is known of an answer.
use Rattle.std.proofs.Common.{◌≡◌, ◌⊎◌, Ok, Err}
use Rattle.std.specs.Prelude.{Result, IfErr, IfOk, OnOk}
use Rattle.std.proofs.Math.Logic.{⊎_map}
use Rattle.std.proofs.lemmas.Result.{err_from_is_err_and}
use Rattle.std.specs.Result.{IsErrAnd}
use Rattle.ark_base.specs.declared.error.Error.{Error}
use Rattle.ark_base.specs.declared.error.Error.TheVariants.{OutOfMemory}
use Rattle.ark_base.specs.Outcome.{Outcome}
use Rattle.merkle_log.specs.Given.{GivesBy}

-- A refusal is given for the outcome, where the outcome is its error unless it stands for a lack of memory.
pub given_on : {A B P R : Type 0} (why : R → Error) (view : A → B) (outcome : Outcome B) (result : Result A R)
    (refusal : R) → IsErrAnd result (λ d. d ≡ refusal) → (why refusal ≡ OutOfMemory) ⊎ P
    → (P → outcome ≡ Err (why refusal)) → GivesBy why view outcome result
given_on why view outcome result refusal is_err refused known =
    let p = err_from_is_err_and result is_err in
    rw (p.1, p.2) (⊎_map (λ memory. memory) known refused)

-- what holds of a refusal that is passed on
pub refused_on : {A R : Type 0} (P : R → Type 0) (result : Result A R) (refusal : R)
    → IsErrAnd result (λ d. d ≡ refusal) → P refusal → IfErr result P
refused_on P result refusal is_err known = let p = err_from_is_err_and result is_err in rw (p.1, p.2) known

-- what holds of each value that is given
pub given-each : {A B R : Type 0} (why : R → Error) (view : A → B) (outcome : Outcome B) (result : Result A R)
    (P : A → Type 0) → GivesBy why view outcome result → ((value : A) → outcome ≡ Ok (view value) → P value)
    → IfOk result P
given-each why view outcome (Ok value) P given known = known value given
given-each why view outcome (Err refusal) P given known = tt

-- what holds where a call answers
pub known_if_ok : {V P Q R : Type 0} (result : Result V R) → (P → Q) → OnOk result P → OnOk result Q
known_if_ok (Ok v) f p = f p
known_if_ok (Err e) f p = tt

-- what holds whatever a call answers
pub known_anyway : {V P R : Type 0} (result : Result V R) → P → OnOk result P
known_anyway (Ok v) p = p
known_anyway (Err e) p = tt

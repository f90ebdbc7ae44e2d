-- What is read strictly.
use Rattle.std.proofs.Common.{◌≡◌, ℕ, Bool, true, false, List, Ok, Err, inl, inr, refl, ap, sym, ◌∙◌, ◌⊎◌}
use Rattle.ark_base.specs.declared.error.Error.{Error}
use Rattle.std.specs.Result.{IsErrAnd, MatchResult}
use Rattle.std.proofs.lemmas.Bool.{false≢true}
use Rattle.std.proofs.lemmas.Result.{err_from_is_err_and}
use Rattle.ark_base.specs.declared.error.Error.TheVariants.{SerializationError as OfBytes, OutOfMemory}
use Rattle.ark_base.specs.declared.error.SerializationError.{SerializationError}
use Rattle.ark_base.specs.declared.error.SerializationError.TheVariants.{InvalidData}
use Rattle.ark_base.specs.Outcome.{Outcome, AnswersBy}
use Rattle.ark_base.proofs.Refusals.{passed_on}
use Rattle.ark_base.specs.Reading.{Reading, reading_outcome}
use Rattle.ark_paths.specs.MultiPath.{MultiWay}
use Rattle.ark_paths.specs.MultiPathStrict.{is_strict, strict_reading}
use Rattle.ark_paths.specs.Received.{provided}

pub read_of : {A : Type 0} (reading : Reading A) (read : A × List ℕ) → reading_outcome reading ≡ Ok read
    → reading ≡ Ok read
read_of (Ok value) read e = cc
read_of (Err fault) read e = absurd cc

pub fault_of : {A : Type 0} (reading : Reading A) (error : Error) → reading_outcome reading ≡ Err error
    → (fault : SerializationError) × (reading ≡ Err fault) × (error ≡ OfBytes fault)
fault_of (Ok value) error e = absurd cc
fault_of (Err fault) error e = (fault, refl, cc)

module _ (reading : Reading MultiWay) (m : MultiWay) (rest : List ℕ) (read : reading ≡ Ok (m, rest)) where
  pub strict-read : is_strict m ≡ true → reading_outcome (strict_reading reading) ≡ Ok (m, rest)
  strict-read holds = rw (read, holds) refl

  strict-unfit : is_strict m ≡ false → reading_outcome (strict_reading reading) ≡ Err (OfBytes InvalidData)
  strict-unfit fails = rw (read, fails) refl

pub strict-fault : (reading : Reading MultiWay) (fault : SerializationError) → reading ≡ Err fault → reading_outcome
    (strict_reading reading) ≡ Err (OfBytes fault)
strict-fault reading fault e = rw e refl

-- a refusal of the plain reader, as it is passed on
pub refused_alike : {A B : Type 0} (plain : Reading A) (reading : Reading MultiWay) → ((fault : SerializationError)
    → plain ≡ Err fault → reading ≡ Err fault)
    → (view : B → MultiWay × List ℕ) (result : Outcome B) (e : Error) → IsErrAnd result (λ d. d ≡ e) → (e ≡ OutOfMemory)
    ⊎ (reading_outcome plain ≡ Err e) → AnswersBy view (reading_outcome (strict_reading reading)) result
refused_alike plain reading alike view result e is_err refused = passed_on view _ result e is_err refused
    (λ plainly. let f = fault_of plain e plainly in strict-fault reading f.0 (alike f.0 f.1) ∙ ap Err (sym f.2))

-- `OutOfMemory`, as it is passed on
pub memory_passed : {B : Type 0} (P : B → Type 0) (Q : Error → Type 0) (result : Outcome B) (e : Error)
    → IsErrAnd result (λ d. d ≡ e) → Q e → MatchResult result P Q
memory_passed P Q result e is_err memory = let p = err_from_is_err_and result is_err in rw (p.1, p.2) memory

-- ---- what a test for strictness says

loose : (holds : Bool) (refusal e : Error) → provided holds refusal ≡ Err e → (holds ≡ false) × (e ≡ refusal)
loose true refusal e is = absurd cc
loose false refusal e is = (refl, cc)

pub strict-refused : (reading : Reading MultiWay) (m : MultiWay) (rest : List ℕ) → reading ≡ Ok (m, rest) → (e : Error)
    → provided (is_strict m) (OfBytes InvalidData) ≡ Err e → reading_outcome (strict_reading reading) ≡ Err e
strict-refused reading m rest read e is =
    let parts = loose (is_strict m) (OfBytes InvalidData) e is in
    strict-unfit reading m rest read parts.0 ∙ ap Err (sym parts.1)

-- the only refusal of a strict one is that of memory
pub strict-memory : (m : MultiWay) (e : Error) → is_strict m ≡ true → (e ≡ OutOfMemory)
    ⊎ (provided (is_strict m) (OfBytes InvalidData) ≡ Err e) → e ≡ OutOfMemory
strict-memory m e holds (inl memory) = memory
strict-memory m e holds (inr is) = absurd (false≢true (sym (loose (is_strict m) (OfBytes InvalidData) e is).0 ∙ holds))

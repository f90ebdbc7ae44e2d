-- What bytes spell alone, and refusals that a `?` passes on.
use Rattle.std.proofs.Common.{◌≡◌, ◌⊎◌, ℕ, ◌/◌, ◌%◌, ◌<◌, List, [], ◌∷◌, length, Bool, Result, Ok, Err, refl, arith}
use Rattle.std.proofs.Math.Logic.{⊎_map}
use Rattle.std.proofs.lemmas.Result.{err_from_is_err_and}
use Rattle.std.specs.Result.{IsErrAnd}
use Rattle.ark_base.specs.declared.error.Error.{Error}
use Rattle.ark_base.specs.declared.error.Error.TheVariants.{OutOfMemory}
use Rattle.ark_base.specs.Digits.{flag_at}
use Rattle.ark_base.specs.Reading.{Reading, reading_outcome}
use Rattle.ark_base.specs.Spelling.{both_at, items_at, word_at}
use Rattle.paxidore_calls.specs.Answer.{CallGivesBy, refused_of}
use Rattle.paxidore_calls.specs.declared.refused.Refused.{Refused}
use Rattle.paxidore_calls.specs.declared.refused.Refused.TheVariants.{Invalid, Memory}
use Rattle.paxidore_calls.specs.Transcript.{FieldSize, field_element_at, element_length, elements_filling, mode_of, none_behind, state_in, whole_of}

none-more : {V : Type 0} (v : V) (rest : List ℕ) → 0 < length rest → none_behind (v, rest) ≡ Err Invalid
none-more v [] some = absurd (omega (arith, some))
none-more v (byte ∷ rest) some = refl

none-none : {V : Type 0} (v : V) (rest : List ℕ) → length rest ≡ 0 → none_behind (v, rest) ≡ Ok v
none-none v [] none = refl
none-none v (byte ∷ rest) none = absurd (omega (arith, none))

-- bytes behind a value are refused
pub whole-more : {V : Type 0} (reading : Reading V) (v : V) (rest : List ℕ) → reading_outcome reading ≡ Ok (v, rest)
    → 0 < length rest → whole_of reading ≡ Err Invalid
whole-more reading v rest e some = rw e (none-more v rest some)

whole-alone : {V : Type 0} (reading : Reading V) (v : V) (rest : List ℕ) → reading_outcome reading ≡ Ok (v, rest)
    → length rest ≡ 0 → whole_of reading ≡ Ok v
whole-alone reading v rest e none = rw e (none-none v rest none)

-- ---- refusals

-- An error that is passed on gives the outcome, where the outcome is its refusal unless memory is refused.
pub error_passed : {A B P : Type 0} (view : A → B) (outcome : Result B Refused) (result : Result A Refused) (e : Error)
    → IsErrAnd result (λ d. d ≡ refused_of e) → (e ≡ OutOfMemory) ⊎ P → (P → outcome ≡ Err (refused_of e))
    → CallGivesBy view outcome result
error_passed view outcome result e is_err refused known =
    let p = err_from_is_err_and result is_err in
    rw (p.1, p.2) (⊎_map (λ memory. rw memory refl) known refused)

-- the same of a refusal
pub refusal_passed : {A B P : Type 0} (view : A → B) (outcome : Result B Refused) (result : Result A Refused)
    (d : Refused) → IsErrAnd result (λ x. x ≡ d) → (d ≡ Memory) ⊎ P → (P → outcome ≡ Err d)
    → CallGivesBy view outcome result
refusal_passed view outcome result d is_err refused known =
    let p = err_from_is_err_and result is_err in
    rw (p.1, p.2) (⊎_map (λ memory. memory) known refused)

-- ---- elements that fill the bytes

module _ (f : FieldSize) (bytes : List ℕ) (len : ℕ) (long : len ≡ element_length f) (whole : length bytes % len ≡ 0)
  where
    filled : elements_filling f bytes ≡ whole_of (items_at (field_element_at f) (length bytes / len) bytes)
    filled = let is : length bytes % element_length f ≡ 0 = rw long at whole in rw long (rw is refl)

    pub elements-fault : (e : Error) → reading_outcome (items_at (field_element_at f) (length bytes / len) bytes)
        ≡ Err e
        → elements_filling f bytes ≡ Err (refused_of e)
    elements-fault e h = rw (filled, h) refl

    pub elements-more : (xs rest : List ℕ)
        → reading_outcome (items_at (field_element_at f) (length bytes / len) bytes) ≡ Ok (xs, rest)
        → 0 < length rest → elements_filling f bytes ≡ Err Invalid
    elements-more xs rest h some =
        rw filled (whole-more (items_at (field_element_at f) (length bytes / len) bytes) xs rest h some)

    pub elements-alone : (xs rest : List ℕ)
        → reading_outcome (items_at (field_element_at f) (length bytes / len) bytes) ≡ Ok (xs, rest)
        → length rest ≡ 0 → elements_filling f bytes ≡ Ok xs
    elements-alone xs rest h none =
        rw filled (whole-alone (items_at (field_element_at f) (length bytes / len) bytes) xs rest h none)

-- ---- states

module _ (f : FieldSize) (elements : ℕ) (bytes : List ℕ) where
  pub state-fault : (e : Error) → reading_outcome (items_at (field_element_at f) elements bytes) ≡ Err e
      → state_in f elements bytes ≡ Err (refused_of e)
  state-fault e h = rw h refl

  pub next-fault : (xs rest : List ℕ) (d : Refused)
      → reading_outcome (items_at (field_element_at f) elements bytes) ≡ Ok (xs, rest)
      → whole_of (both_at word_at flag_at rest) ≡ Err d → state_in f elements bytes ≡ Err d
  next-fault xs rest d h next = rw (h, next) refl

  pub state-made : (xs rest : List ℕ) (next : ℕ × Bool)
      → reading_outcome (items_at (field_element_at f) elements bytes) ≡ Ok (xs, rest)
      → whole_of (both_at word_at flag_at rest) ≡ Ok next
      → state_in f elements bytes ≡ Ok (record { state = xs; mode = mode_of next })
  state-made xs rest next h made = rw (h, made) refl

-- What is given by a table of two inputs.
use Rattle.std.proofs.Common.{◌≡◌, ◌≢◌, ◌⊎◌, inl, inr, ℕ, Bool, List, Result, Ok, Err, ℤ, w32, to_z, of_z, eq-eqb, refl, sym, ap, ◌∙◌}
use Rattle.std.proofs.lemmas.Bool.{ne_eqb}
use Rattle.ark_base.specs.declared.error.Error.{Error}
use Rattle.ark_base.specs.declared.error.Error.TheVariants.{OutOfMemory}
use Rattle.std.specs.List.{flat_map}
use Rattle.ark_base.specs.Digits.{itself}
use Rattle.ark_base.specs.Outcome.{Outcome, ◌>>=◌}
use Rattle.ark_paths.specs.Pair.{Digest}
use Rattle.paxidore_c.proofs.Codes.{verdict-fits}
use Rattle.paxidore_calls.specs.Answer.{GivesCode, CallGivesBy, refusal_code, refused_of, refusing, verdict_code}
use Rattle.paxidore_calls.specs.KeptLog.{bytes_of_digests}
use Rattle.paxidore_c.specs.PoseidonLog.{if_two}
use Rattle.paxidore_calls.specs.declared.refused.Refused.{Refused}
use Rattle.paxidore_calls.specs.declared.refused.Refused.TheVariants.{Count, Memory}

-- The call refuses so, where this is to be given.
abbrev pub Refuses : {A : Type 0} → Result A Refused → Refused → Type 0
Refuses outcome refused = (refused ≡ Memory) ⊎ (outcome ≡ Err refused)

-- a refusal of the table
pub table-refused : {A : Type 0} (inputs : ℕ) (given : Result A Refused) (refused : Refused)
    → ((refused ≡ Memory) ⊎ ((inputs ≢ 2) × (refused ≡ Count))) → Refuses (if_two inputs given) refused
table-refused inputs given refused (inl memory) = inl memory
table-refused inputs given refused (inr count) = inr (rw (ne_eqb inputs 2 count.0) (ap Err (sym count.1)))

-- what is given by a table of two inputs
pub two-given : {A : Type 0} (inputs : ℕ) (given outcome : Result A Refused) → inputs ≡ 2 → given ≡ outcome
    → if_two inputs given ≡ outcome
two-given inputs given outcome two is = rw (eq-eqb inputs 2 two) is

pub two-refused : {A : Type 0} (inputs : ℕ) (given : Result A Refused) (refused : Refused) → inputs ≡ 2
    → Refuses given refused → Refuses (if_two inputs given) refused
two-refused inputs given refused two (inl memory) = inl memory
two-refused inputs given refused two (inr is) = inr (two-given inputs given (Err refused) two is)

-- what goes on from a refusal
pub refused-first : {A B : Type 0} (given : Result A Refused) (next : A → Result B Refused) (refused : Refused)
    → Refuses given refused → Refuses (given >>= next) refused
refused-first given next refused (inl memory) = inl memory
refused-first given next refused (inr is) = inr (ap (λ r. r >>= next) is)

pub refused-next : {A B : Type 0} (given : Result A Refused) (next : A → Result B Refused) (value : A)
    (refused : Refused) → given ≡ Ok value → Refuses (next value) refused → Refuses (given >>= next) refused
refused-next given next value refused is (inl memory) = inl memory
refused-next given next value refused is (inr same) = inr (ap (λ r. r >>= next) is ∙ same)

-- a refusal of the library, for C
pub library-refused : {A : Type 0} (outcome : Outcome A) (error : Error) (refused : Refused)
    → ((error ≡ OutOfMemory) ⊎ (outcome ≡ Err error)) → refused ≡ refused_of error
    → Refuses (refusing outcome) refused
library-refused outcome error refused (inl memory) is = inl (is ∙ ap refused_of memory)
library-refused outcome error refused (inr same) is = inr (ap refusing same ∙ ap Err (sym is))

-- the code of a check that is refused
pub refused-shown : (given : Result Bool Refused) (refused : Refused) (code : ℤ) → Refuses given refused
    → code ≡ refusal_code refused → GivesCode (verdict_code given) (to_z w32 (of_z w32 code))
refused-shown given refused code (inl memory) is = inr (rw (is, verdict-fits (Err refused), memory) refl)
refused-shown given refused code (inr same) is = inl (rw (is, verdict-fits (Err refused), same) refl)

pub two-gives : {A B : Type 0} (view : A → B) (inputs : ℕ) (given : Result B Refused) (result : Result A Refused)
    → inputs ≡ 2 → CallGivesBy view given result → CallGivesBy view (if_two inputs given) result
two-gives view inputs given result two gives = rw (eq-eqb inputs 2 two) gives

-- the bytes of digests, which the library has or refuses
pub bytes-given : {A : Type 0} (outcome : Outcome (List Digest)) (digests : List Digest) → outcome ≡ Ok digests
    → (view : A → List ℕ) (result : Result A Refused) → CallGivesBy view (Ok (flat_map itself digests)) result
    → CallGivesBy view (bytes_of_digests outcome) result
bytes-given outcome digests is view result gives = rw is gives

pub digests-refused : (outcome : Outcome (List Digest)) (error : Error) (refused : Refused)
    → ((error ≡ OutOfMemory) ⊎ (outcome ≡ Err error)) → refused ≡ refused_of error
    → Refuses (bytes_of_digests outcome) refused
digests-refused outcome error refused (inl memory) is = inl (is ∙ ap refused_of memory)
digests-refused outcome error refused (inr same) is =
    inr (ap bytes_of_digests same ∙ ap Err (sym is))

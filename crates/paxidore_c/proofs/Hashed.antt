-- What codes tell of hashes.
use Rattle.std.proofs.Common.{◌≡◌, ◌⊎◌, inl, inr, ℤ, pos, ℕ, nat_lt, Bool, true, false, if◌then◌else◌, List, length, w32, to_z, of_z, Result, Ok, Err, IfErr, IfOk, refl, ap, ◌∙◌}
use Rattle.paxidore_c.proofs.Codes.{verdict-fits}
use Rattle.paxidore_calls.proofs.Written.{seen}
use Rattle.paxidore_calls.specs.Answer.{GivesCode, Hands, done_code, refusal_code}
use Rattle.paxidore_calls.specs.declared.refused.Refused.{Refused}
use Rattle.paxidore_calls.specs.declared.refused.Refused.TheVariants.{Memory, Room}

-- the code of a refusal
pub refused-gives : {A : Type 0} (outcome : Result A Refused) (refused : Refused) (code : ℤ)
    → ((refused ≡ Memory) ⊎ (outcome ≡ Err refused)) → code ≡ refusal_code refused
    → GivesCode (done_code outcome) (to_z w32 (of_z w32 code))
refused-gives outcome refused code (inl memory) is = inr (rw (is, verdict-fits (Err refused), memory) refl)
refused-gives outcome refused code (inr same) is = inl (rw (is, verdict-fits (Err refused), same) refl)

-- what is said of a result's value is said of the outcome
pub said-of-seen : {W : Type 0} (items : W → List ℕ) (P : List ℕ → Type 0) (result : Result W Refused)
    → IfOk result (λ value. P (items value)) → IfOk (seen items result) P
said-of-seen items P (Ok value) said = said
said-of-seen items P (Err refused) said = tt

-- the same of a call that hands nothing over
pub handed-none : {W : Type 0} (items : W → List ℕ) (result : Result W Refused) (refused : Refused)
    (before after : List ℕ) (count count' : ℕ) (code : ℤ) → result ≡ Err refused
    → Hands (seen items result) before after count count' code → GivesCode (refusal_code refused) code
handed-none items result refused before after count count' code is hands = (rw is at hands).right_code

-- the codes of a call that hands bytes over, lacks memory, or is refused by one other name, where this holds
pub handed-codes : {W : Type 0} (items : W → List ℕ) (P : Type 0) (other : Refused) (result : Result W Refused)
    (before after : List ℕ) (count count' : ℕ) (code : ℤ)
    → IfErr result (λ refused. (refused ≡ Memory) ⊎ (P × (refused ≡ other)))
    → Hands (seen items result) before after count count' code
    → (code ≡ pos 0) ⊎ (code ≡ refusal_code Room) ⊎ (code ≡ refusal_code Memory) ⊎ (P × (code ≡ refusal_code other))
handed-codes items P other (Ok value) before after count count' code only hands =
    by_room (nat_lt (length before) (length (items value))) hands.right_code
  where
    by_room : (short : Bool) → GivesCode (if short then refusal_code Room else pos 0) code → (code ≡ pos 0)
        ⊎ (code ≡ refusal_code Room) ⊎ (code ≡ refusal_code Memory) ⊎ (P × (code ≡ refusal_code other))
    by_room true (inl is) = inr (inl is)
    by_room false (inl is) = inl is
    by_room short (inr is) = inr (inr (inl is))
handed-codes items P other (Err refused) before after count count' code only hands = by_code only hands.right_code
  where
    by_code : ((refused ≡ Memory) ⊎ (P × (refused ≡ other))) → GivesCode (refusal_code refused) code → (code ≡ pos 0)
        ⊎ (code ≡ refusal_code Room) ⊎ (code ≡ refusal_code Memory) ⊎ (P × (code ≡ refusal_code other))
    by_code (inl memory) (inl is) = inr (inr (inl (is ∙ ap refusal_code memory)))
    by_code (inr named) (inl is) = inr (inr (inr (named.0, is ∙ ap refusal_code named.1)))
    by_code why (inr is) = inr (inr (inl is))

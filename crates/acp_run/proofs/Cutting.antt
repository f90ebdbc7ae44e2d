-- The first token of a line.
use Rattle.std.proofs.Common.{◌≡◌, ℕ, suc, zero, ◌<◌, ◌==◌, Bool, true, false, cond, List, [], ◌∷◌, length, take, drop, get_or, refl, ap, arith}
use Rattle.acp_run.specs.Lines.{tokens_of, onto_first}

no_space : (b : ℕ) (bs : List ℕ) (t : Bool) → (b == 32) ≡ t → ((b == 32) ≡ true → ⊥) → tokens_of bs ≡ bs ∷ []
    → cond t ([] ∷ tokens_of bs) (onto_first b (tokens_of bs)) ≡ (b ∷ bs) ∷ []
no_space b bs true e h others = absurd (h e)
no_space b bs false e h others = ap (onto_first b) others

-- without a space, a line is one token
pub tokens_of-one : (xs : List ℕ) → ((k : ℕ) → k < length xs → (get_or xs k 0 == 32) ≡ true → ⊥)
    → tokens_of xs ≡ xs ∷ []
tokens_of-one [] h = refl
tokens_of-one (b ∷ bs) h = no_space b bs (b == 32) refl (h 0 (omega arith))
    (tokens_of-one bs (λ k lt. h (suc k) (omega arith)))

at_space : (b : ℕ) (bs : List ℕ) (t : Bool) → (b == 32) ≡ t → (b == 32) ≡ true → cond t ([] ∷ tokens_of bs)
    (onto_first b (tokens_of bs)) ≡ [] ∷ tokens_of bs
at_space b bs true e h = refl
at_space b bs false e h = absurd (cc)

past_other : (b i : ℕ) (bs : List ℕ) (t : Bool) → (b == 32) ≡ t → ((b == 32) ≡ true → ⊥) → tokens_of bs ≡ take i bs
    ∷ tokens_of (drop (suc i) bs) → cond t ([] ∷ tokens_of bs) (onto_first b (tokens_of bs)) ≡ (b ∷ take i bs)
    ∷ tokens_of (drop (suc i) bs)
past_other b i bs true e h others = absurd (h e)
past_other b i bs false e h others = ap (onto_first b) others

-- the first space ends the first token
pub tokens_of-cut : (xs : List ℕ) (i : ℕ) → i < length xs → (get_or xs i 0 == 32) ≡ true
    → ((k : ℕ) → k < i → (get_or xs k 0 == 32) ≡ true → ⊥) → tokens_of xs ≡ take i xs ∷ tokens_of (drop (suc i) xs)
tokens_of-cut [] i lt here before = absurd (omega arith)
tokens_of-cut (b ∷ bs) zero lt here before = at_space b bs (b == 32) refl here
tokens_of-cut (b ∷ bs) (suc i) lt here before = past_other b i bs (b == 32) refl (before 0 (omega arith))
    (tokens_of-cut bs i (omega arith) here (λ k lt. before (suc k) (omega arith)))

onto_first-some : (b : ℕ) (pieces : List (List ℕ)) → onto_first b pieces ≡ [] → ⊥
onto_first-some b [] e = cc
onto_first-some b (piece ∷ pieces) e = cc

some_by : (b : ℕ) (bs : List ℕ) (t : Bool) → cond t ([] ∷ tokens_of bs) (onto_first b (tokens_of bs)) ≡ [] → ⊥
some_by b bs true e = cc
some_by b bs false e = onto_first-some b (tokens_of bs) e

-- a line has a token
pub tokens_of-some : (xs : List ℕ) → tokens_of xs ≡ [] → ⊥
tokens_of-some [] e = cc
tokens_of-some (b ∷ bs) e = some_by b bs (b == 32) e

-- a line of two tokens or more has not one
pub not_one : (tokens : List (List ℕ)) (only first : List ℕ) (more : List ℕ) → tokens ≡ first ∷ tokens_of more → tokens
    ≡ only ∷ [] → ⊥
not_one tokens only first more two one = let none : tokens_of more ≡ [] = cc in tokens_of-some more none

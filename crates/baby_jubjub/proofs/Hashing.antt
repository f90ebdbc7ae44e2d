-- The hash of five numbers by what its permutation runs by.
use Rattle.std.proofs.Common.{◌≡◌, ℕ, ◌<◌, ◌≤◌, List, [], ◌∷◌, length, take, map, get_or, All, refl, ◌∙◌, ap, arith}
use Rattle.ark_sponge.specs.Permutation.{Parameters, permutation}
use Rattle.ark_sponge.specs.Table.{ShortParts, short_permutation}
use Rattle.edwards.specs.Edwards.{Coordinates}
use Rattle.baby_jubjub.specs.BabyJubjub.{p}
use Rattle.baby_jubjub.specs.Eddsa.{RunsPoseidon, eddsa_challenge, fifth}

-- the first number of a state, by its numbers
pub first_read : {F : Type 0} (f : F → ℕ) (state : List F) (x : F) (after : List ℕ) → 1 ≤ length state
    → x ≡ get_or state 0 x → map f state ≡ after → f x ≡ get_or after 0 0
first_read f [] x after some is same = absurd (omega (arith, some))
first_read f (y ∷ state) x after some is same = ap f is ∙ ap (λ l. get_or l 0 0) same

first_taken : (xs : List ℕ) → get_or xs 0 0 ≡ get_or (take 1 xs) 0 0
first_taken [] = refl
first_taken (x ∷ xs) = refl

-- the first number behind the permutation is the hash
pub challenge_is : (c : Parameters) (t : ShortParts) (r8 key : Coordinates) (message : ℕ) (state : List ℕ)
    → RunsPoseidon c t → state ≡ 0 ∷ r8.x ∷ r8.y ∷ key.x ∷ key.y ∷ message ∷ [] → All (λ x. x < p) state
    → get_or (short_permutation p fifth t state) 0 0 ≡ eddsa_challenge c r8 key message
unfolding eddsa_challenge
challenge_is c t r8 key message state of is below =
    ap (λ xs. get_or xs 0 0) (of.permutes.same fifth state
    (omega (arith, of.circom.rate, of.circom.capacity, ap (λ (xs : List ℕ). length xs) is)) below
    ∙ ap (permutation p fifth c) is)
    ∙ first_taken (permutation p fifth c (0 ∷ r8.x ∷ r8.y ∷ key.x ∷ key.y ∷ message ∷ []))

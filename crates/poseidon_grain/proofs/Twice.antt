-- Numbers that stand twice in a list.
use Rattle.std.proofs.Common.{◌≡◌, ◌==◌, ◌||◌, ℕ, false, List, [], ◌∷◌, length, map, refl, arith}
use Rattle.std.specs.List.{list_any}
use Rattle.poseidon_grain.specs.Constants.{has_twice}

pub twice_later : (x : ℕ) (xs : List ℕ) → has_twice (x ∷ xs) ≡ (list_any (λ y. x == y) xs || has_twice xs)
unfolding has_twice
twice_later x xs = refl

pub empty_twice : {X : Type 0} (value : X → ℕ) (xs : List X) → length xs ≡ 0 → has_twice (map value xs) ≡ false
unfolding has_twice
empty_twice value [] none = refl
empty_twice value (x ∷ xs) none = absurd (omega (arith, none))

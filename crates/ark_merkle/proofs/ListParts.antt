-- Parts of a list, and lists mapped twice.
use Rattle.std.proofs.Common.{◌≡◌, ℕ, ◌+◌, ◌-◌, ◌≤◌, List, [], ◌∷◌, map, take, drop, set, refl, arith}
use Rattle.std.proofs.lemmas.List.{drop-set-add, take-set-le}

-- what is written past a part is not in it
pub part-set_past : {A : Type 0} (n first i : ℕ) (xs : List A) (x : A) → first + n ≤ i
    → take n (drop first (set xs i x)) ≡ take n (drop first xs)
part-set_past n first i xs x past =
    let j = i - first in
    let at : i ≡ first + j = omega arith in
    rw (at, drop-set-add first xs j x) (take-set-le n (drop first xs) j x (omega arith))

pub map-twice : {A B C : Type 0} (f : A → B) (g : B → C) (h : A → C) (xs : List A) → ((x : A) → g (f x) ≡ h x)
    → map g (map f xs) ≡ map h xs
map-twice f g h [] same = refl
map-twice f g h (x ∷ xs) same = rw (same x, map-twice f g h xs same) refl

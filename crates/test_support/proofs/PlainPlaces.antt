-- A place by its halves, as the plain function takes them.
use Rattle.std.proofs.Common.{zero, suc, ◌≡◌, ℕ, ◌-◌, ◌*◌, ◌/◌, ◌^◌, List, length, map, take, drop, refl, arith}
use Rattle.std.proofs.lemmas.List.{take-map, drop-map}
use Rattle.std.proofs.Math.Nat.{pow-succ'}
use Rattle.ark_paths.specs.Pair.{Digest, HashPair}
use Rattle.ark_paths.specs.Root.{Place, place, place_of_halves}

pub place-halves : {A : Type 0} (numbers : A → Digest) (h : HashPair) (m : ℕ) (digests left right : List A)
    {p q : Place} → (m ≡ 0 → ⊥) → length digests ≡ 2 ^ suc m
    → left ≡ take (length digests / 2) digests → right ≡ drop (length digests / 2) digests
    → place h (m - 1) (map numbers left) ≡ p → place h (m - 1) (map numbers right) ≡ q → place h m (map numbers digests)
    ≡ place_of_halves h m p q
place-halves numbers h zero digests left right some size front back l r = absurd (some refl)
place-halves numbers h (suc m) digests left right some size front back l r =
    let twice : 2 ^ suc (suc m) ≡ 2 * 2 ^ suc m = pow-succ' 2 (suc m) in
    let half : length digests / 2 ≡ 2 ^ suc m = omega arith in
    let under : suc m - 1 ≡ m = omega arith in
    rw (← l, ← r, under, front, back, half, take-map, drop-map) refl

-- Groups of three bytes, and of four symbols, behind others.
use Rattle.std.proofs.Common.{◌≡◌, ℕ, suc, ◌+◌, ◌<◌, List, [], ◌∷◌, ◌++◌, length, take, set, get_or, refl, ◌∙◌, arith}
use Rattle.std.proofs.lemmas.List.{append_assoc, length-set}
use Rattle.std.proofs.lemmas.Grind.{take-set_at}
use Rattle.std.proofs.Math.Seq.{take-suc}

-- one more behind others that are behind others
behind : (xs ys zs : List ℕ) (x : ℕ) → xs ≡ ys ++ zs → xs ++ x ∷ [] ≡ ys ++ (zs ++ x ∷ [])
behind xs ys zs x e = rw e (append_assoc ys zs (x ∷ []))

-- four more are written
pub four-more : (xs : List ℕ) (n a b c d : ℕ) → n + 3 < length xs
    → take (n + 4) (set (set (set (set xs n a) (n + 1) b) (n + 2) c) (n + 3) d) ≡ take n xs ++ (a ∷ b ∷ c ∷ d ∷ [])
four-more xs n a b c d within =
    let one = set xs n a in
    let two = set one (n + 1) b in
    let three = set two (n + 2) c in
    let first = take-set_at xs n (n + 1) a refl (omega (arith, within)) in
    let second = take-set_at one (n + 1) (n + 2) b (omega arith) (omega (arith, within, length-set xs n a))
    ∙ behind (take (n + 1) one) (take n xs) (a ∷ []) b first in
    let third = take-set_at two (n + 2) (n + 3) c (omega arith)
    (omega (arith, within, length-set xs n a, length-set one (n + 1) b))
    ∙ behind (take (n + 2) two) (take n xs) (a ∷ b ∷ []) c second in
    take-set_at three (n + 3) (n + 4) d (omega arith)
    (omega (arith, within, length-set xs n a, length-set one (n + 1) b, length-set two (n + 2) c))
    ∙ behind (take (n + 3) three) (take n xs) (a ∷ b ∷ c ∷ []) d third

-- one more is read
next : (xs : List ℕ) (n m : ℕ) → m ≡ n + 1 → n < length xs → take m xs ≡ take n xs ++ get_or xs n 0 ∷ []
next xs n m e within = let s : m ≡ suc n = omega (arith, e) in rw s (take-suc xs n 0 within)

-- three more are read
pub three-more : (xs : List ℕ) (n : ℕ) → n + 2 < length xs
    → take (n + 3) xs ≡ take n xs ++ (get_or xs n 0 ∷ get_or xs (n + 1) 0 ∷ get_or xs (n + 2) 0 ∷ [])
three-more xs n within =
    let first = next xs n (n + 1) refl (omega (arith, within)) in
    let second = next xs (n + 1) (n + 2) (omega arith) (omega (arith, within))
    ∙ behind (take (n + 1) xs) (take n xs) (get_or xs n 0 ∷ []) (get_or xs (n + 1) 0) first in
    next xs (n + 2) (n + 3) (omega arith) within
    ∙ behind (take (n + 2) xs) (take n xs) (get_or xs n 0 ∷ get_or xs (n + 1) 0 ∷ []) (get_or xs (n + 2) 0) second

-- as many are there then
pub four-long : (xs : List ℕ) (n a b c d : ℕ)
    → length (set (set (set (set xs n a) (n + 1) b) (n + 2) c) (n + 3) d) ≡ length xs
four-long xs n a b c d = length-set (set (set (set xs n a) (n + 1) b) (n + 2) c) (n + 3) d
    ∙ length-set (set (set xs n a) (n + 1) b) (n + 2) c ∙ length-set (set xs n a) (n + 1) b ∙ length-set xs n a

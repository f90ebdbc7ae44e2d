-- Lists of bytes.
use Rattle.std.proofs.Common.{ℕ, zero, suc, ◌<◌, List, [], ◌∷◌, ◌++◌, replicate, get_or, arith}
use Rattle.ark_base.specs.Reading.{IsBytes}

-- a byte in front of bytes
IsBytes-front : (x : ℕ) (t : List ℕ) → x < 256 → IsBytes t → IsBytes (x ∷ t)
IsBytes-front x t small fits = λ i. by_index i
  where
    by_index : (i : ℕ) → get_or (x ∷ t) i 0 < 256
    by_index zero = small
    by_index (suc i) = fits i

pub IsBytes-append : (a b : List ℕ) → IsBytes a → IsBytes b → IsBytes (a ++ b)
IsBytes-append [] b first second = second
IsBytes-append (x ∷ a) b first second = IsBytes-front x (a ++ b) (first 0)
    (IsBytes-append a b (λ i. first (suc i)) second)

pub IsBytes-zeros : (n : ℕ) → IsBytes (replicate n 0)
IsBytes-zeros zero = λ i. omega arith
IsBytes-zeros (suc n) = IsBytes-front 0 (replicate n 0) (omega arith) (IsBytes-zeros n)

-- The bytes of coordinates, as they are written and compared.
use Rattle.std.proofs.Common.{◌≡◌, ℕ, ◌+◌, ◌-◌, Bool, true, false, not, List, ◌++◌, length}
use Rattle.std.proofs.Common.{take, drop, refl, sym, ◌∙◌, ap, ap₂, arith, true≢false}
use Rattle.std.proofs.lemmas.List.{take-append-drop, append-nil, drop_all, length-append, length-drop}
use Rattle.std.proofs.lemmas.List.{length-take-le}
use Rattle.std.proofs.lemmas.Slice.{take-put_mid, drop-put_mid}
use Rattle.std.proofs.lemmas.Slice.Eq.{bytes_eq-Decides}
use Rattle.std.proofs.Math.Seq.{take-append_seam}
use Rattle.std.specs.Str.{bytes_eq}

-- the second half of 64 bytes is written behind the first
pub both_halves : (a b rest : List ℕ) → length a ≡ 32 → length b ≡ 32 → length rest ≡ 32
    → take 32 (a ++ rest) ++ (b ++ drop 32 (drop 32 (a ++ rest))) ≡ a ++ b
both_halves a b rest long_a long_b long_rest =
    let xs : List ℕ = a ++ rest in
    let whole : List ℕ = take 32 xs ++ (b ++ drop 32 (drop 32 xs)) in
    let long : length xs ≡ 64 = length-append a rest ∙ ap₂ (λ m n. m + n) long_a long_rest in
    sym (take-append-drop 64 whole) ∙ ap₂ (λ s t. s ++ t)
    (take-put_mid 32 32 xs b 64 (omega (arith, long_b)) (omega (arith, long))
    ∙ ap (λ s. s ++ b) (ap (λ n. take n xs) (sym long_a) ∙ take-append_seam a rest))
    (drop-put_mid 32 32 xs b 64 (omega arith) (omega (arith, long)) long_b ∙ drop_all 64 xs (omega (arith, long)))
    ∙ append-nil (a ++ b)

-- the second half is 32 bytes long
pub second_long : (a rest : List ℕ) → length a ≡ 32 → length rest ≡ 32 → length (take 32 (drop 32 (a ++ rest))) ≡ 32
second_long a rest long_a long_rest =
    let long : length (a ++ rest) ≡ 64 = length-append a rest ∙ ap₂ (λ m n. m + n) long_a long_rest in
    let behind : length (drop 32 (a ++ rest)) ≡ 32 =
    length-drop 32 (a ++ rest) ∙ ap (λ n. n - 32) long in
    length-take-le 32 (drop 32 (a ++ rest)) (omega (arith, behind))

-- the test of bytes against others
pub they_differ : (unequal : Bool) (xs ys : List ℕ) → unequal ≡ not (bytes_eq xs ys) → unequal ≡ true → xs ≡ ys → ⊥
they_differ unequal xs ys is told same =
    true≢false (sym told ∙ is ∙ ap not ((bytes_eq-Decides xs ys).1 same))

pub they_agree : (unequal : Bool) (xs ys : List ℕ) → unequal ≡ not (bytes_eq xs ys) → unequal ≡ false → xs ≡ ys
they_agree unequal xs ys is told = (bytes_eq-Decides xs ys).0 (turned (bytes_eq xs ys) (sym is ∙ told))
  where
    turned : (b : Bool) → not b ≡ false → b ≡ true
    turned true e = refl
    turned false e = absurd (true≢false e)

-- The two halves of a signature's bytes.
use Rattle.std.proofs.Common.{◌≡◌, ℕ, ◌+◌, ◌-◌, ◌*◌, ◌^◌, ◌<◌, Result, Ok, Err, List, ◌++◌, length}
use Rattle.std.proofs.Common.{take, drop, sym, ◌∙◌, ap, ap₂, arith}
use Rattle.std.proofs.lemmas.List.{take-append-drop, append-nil, drop_all, length-append, length-drop}
use Rattle.std.proofs.lemmas.List.{length-take-le}
use Rattle.std.proofs.lemmas.Slice.{take-put_mid, drop-put_mid}
use Rattle.std.proofs.Math.Seq.{take-append_seam, drop-append_seam}
use Rattle.ark_base.specs.Digits.{number_of_bytes, bytes_of_number}
use Rattle.ark_base.specs.Laws.Digits.{length-bytes_of_number, number_of_bytes-bytes_of_number}
use Rattle.ark_wide_fields.specs.Laws.Fp256.{wide_below}
use Rattle.edwards.specs.Edwards.{Coordinates}
use Rattle.baby_jubjub.specs.declared.signature.Signature.{Signature}
use Rattle.baby_jubjub.specs.BabyJubjub.{order}
use Rattle.baby_jubjub.specs.Eddsa.{signature_bytes}
use Rattle.baby_jubjub.specs.Packed.{packed_bytes, sign}
use Rattle.baby_jubjub.specs.Points.{coordinates}
use Rattle.baby_jubjub.specs.Values.{scalar_number}

-- the second half of 64 bytes is written behind the first
pub both_halves : (a b rest : List ℕ) → length a ≡ 32 → length b ≡ 32 → length rest ≡ 32
    → take 32 (a ++ rest) ++ (b ++ drop 32 (drop 32 (a ++ rest))) ≡ a ++ b
both_halves a b rest long_a long_b long_rest =
    let xs : List ℕ = a ++ rest in
    let whole : List ℕ = take 32 xs ++ (b ++ drop 32 (drop 32 xs)) in
    let long : length xs ≡ 64 = length-append a rest ∙ ap₂ (λ m n. m + n) long_a long_rest in
    sym (take-append-drop 64 whole) ∙ ap₂ (λ s t. s ++ t)
    (take-put_mid 32 32 xs b 64 (omega (arith, long_b)) (omega (arith, long))
    ∙ ap (λ s. s ++ b) (ap (λ n. take n xs) (sym long_a) ∙ take-append_seam a rest))
    (drop-put_mid 32 32 xs b 64 (omega arith) (omega (arith, long)) long_b ∙ drop_all 64 xs (omega (arith, long)))
    ∙ append-nil (a ++ b)

-- the second half is 32 bytes long
pub second_long : (a rest : List ℕ) → length a ≡ 32 → length rest ≡ 32 → length (take 32 (drop 32 (a ++ rest))) ≡ 32
second_long a rest long_a long_rest =
    let long : length (a ++ rest) ≡ 64 = length-append a rest ∙ ap₂ (λ m n. m + n) long_a long_rest in
    let behind : length (drop 32 (a ++ rest)) ≡ 32 =
    length-drop 32 (a ++ rest) ∙ ap (λ n. n - 32) long in
    length-take-le 32 (drop 32 (a ++ rest)) (omega (arith, behind))

pub packed_long : (q : Coordinates) → length (packed_bytes q) ≡ 32
unfolding packed_bytes
packed_long q = length-bytes_of_number 32 (q.y + 2 ^ 255 * sign q.x)

scalar_fits : (g : Signature) → scalar_number g.s < 256 ^ 32
unfolding order
scalar_fits g = fits (scalar_number g.s) (wide_below g.s)
  where
    fits : (n : ℕ) → n < order → n < 256 ^ 32
    fits n l = omega (arith, l)

-- the halves of a signature's bytes
module _ (bytes : List ℕ) (g : Signature) (is : bytes ≡ signature_bytes g) where
  pub first_half : take 32 bytes ≡ packed_bytes (coordinates g.r8)
  first_half =
      ap (take 32) is
      ∙ ap (λ n. take n (packed_bytes (coordinates g.r8) ++ bytes_of_number 32 (scalar_number g.s)))
      (sym (packed_long (coordinates g.r8)))
      ∙ take-append_seam (packed_bytes (coordinates g.r8)) (bytes_of_number 32 (scalar_number g.s))

  pub second_half : number_of_bytes (drop 32 bytes) ≡ scalar_number g.s
  second_half =
      ap number_of_bytes (ap (drop 32) is
      ∙ ap (λ n. drop n (packed_bytes (coordinates g.r8) ++ bytes_of_number 32 (scalar_number g.s)))
      (sym (packed_long (coordinates g.r8)))
      ∙ drop-append_seam (packed_bytes (coordinates g.r8)) (bytes_of_number 32 (scalar_number g.s)))
      ∙ number_of_bytes-bytes_of_number 32 (scalar_number g.s) (scalar_fits g)

-- values that are found are the same
pub found_same : {A E : Type 0} (a b : A) → ◌≡◌ {A = Result A E} (Ok a) (Ok b) → a ≡ b
found_same {A} {E} a b e = ap out e
  where
    out : Result A E → A
    out (Ok x) = x
    out (Err fault) = a

pub never_found : {A E : Type 0} (fault : E) (a : A) → ◌≡◌ {A = Result A E} (Err fault) (Ok a) → ⊥
never_found fault a e = absurd cc

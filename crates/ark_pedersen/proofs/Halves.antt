-- Pedersen hashes of two halves.
use Rattle.std.proofs.Common.{◌≡◌, ℕ, zero, suc, ◌-◌, ◌*◌, ◌/◌, ◌≤◌, Bool, true, false, cond, ltb, List, [], ◌∷◌, ◌++◌, length, replicate, drop, Ok, Err, refl, ap, ◌∙◌, arith, length-append}
use Rattle.std.proofs.lemmas.Bool.{eq-eqb, le-ltb}
use Rattle.std.proofs.lemmas.List.{length-replicate}
use Rattle.std.proofs.lemmas.List.Concat.{flat_map-append}
use Rattle.ark_base.specs.Outcome.{Outcome}
use Rattle.ark_base.specs.declared.error.Error.TheVariants.{IncorrectInputLength, GenericError}
use Rattle.ark_base.specs.declared.error.Refusal.TheVariants.{ParameterShape}
use Rattle.ark_groups.specs.Group.{Group, IsCommutativeGroup}
use Rattle.ark_groups.proofs.Multiples.{right_identity}
use Rattle.ark_groups.specs.Bits.{bits_of_number}
use Rattle.ark_pedersen.specs.Pedersen.{bits_of_bytes, pedersen_sum, window_bits, concatenation, has_shape, sum_from}
use Rattle.ark_pedersen.specs.Pedersen.{pedersen_hash, full_halves, of_halves}
use Rattle.ark_pedersen.specs.declared.window.Window.{Ghosts as Windows}
use Rattle.ark_pedersen.proofs.BitSums.{length-bits_of_number, pedersen_sum-zero}
use Rattle.ark_pedersen.proofs.PedersenSums.{pedersen_sum-none, pedersen_sum-behind}

pub length-bits_of_bytes : (bytes : List ℕ) → length (bits_of_bytes bytes) ≡ 8 * length bytes
length-bits_of_bytes [] = refl
length-bits_of_bytes (b ∷ bytes) =
    omega (
      arith,
      length-append (bits_of_number 8 b) (bits_of_bytes bytes),
      length-bits_of_number 8 b,
      length-bits_of_bytes bytes,
    )

pub length-full_halves : (half : ℕ) (left right : List ℕ) → length left ≡ length right → length left ≤ half / 8
    → length (full_halves half left right) ≡ 2 * half / 8
length-full_halves half left right same short =
    omega (
      arith,
      length-append (left ++ right) (replicate (2 * half / 8 - length (left ++ right)) 0),
      length-append
          left right,
      length-replicate {A = ℕ} (2 * half / 8 - length (left ++ right)) 0,
    )

-- the hash of halves that fit is that of the whole
pub of_halves-full : {G W : Type 0} (windows : Windows W) (hash : List ℕ → Outcome G) (left right : List ℕ)
    → length left ≡ length right → length left ≤ window_bits windows / 2 / 8
    → of_halves windows hash left right ≡ hash (full_halves (window_bits windows / 2) left right)
of_halves-full {G} windows hash left right same short =
    let half = window_bits windows / 2 in
    let long : Outcome G = Err (IncorrectInputLength (length left)) in
    let unequal : Outcome G = Err (IncorrectInputLength (length right)) in
    let whole : Outcome G = hash (full_halves half left right) in
    ap (λ (b : Bool). cond b (cond (ltb half (8 * length left)) long whole) unequal) (eq-eqb _ _ same)
    ∙ ap (λ (b : Bool). cond b long whole) (le-ltb _ _ (omega arith))

module _ {G : Type 0} {g : Group G} (laws : IsCommutativeGroup g) where
  -- zeros add nothing
  sum_of_zeros : (n : ℕ) (xs : List G) → pedersen_sum g xs (bits_of_bytes (replicate n 0)) ≡ g.identity
  sum_of_zeros zero xs = pedersen_sum-none laws xs
  sum_of_zeros (suc n) xs =
      let zeros = bits_of_number 8 0 in
      pedersen_sum-behind laws xs zeros (bits_of_bytes (replicate n 0))
      ∙ ap (λ (x : G). g.plus x (pedersen_sum g (drop (length zeros) xs) (bits_of_bytes (replicate n 0))))
      (pedersen_sum-zero g xs 8)
      ∙ laws.left_identity _
      ∙ sum_of_zeros n (drop (length zeros) xs)

  sum_of_two : (xs : List G) (left right : List ℕ) → pedersen_sum g xs (bits_of_bytes (left ++ right))
      ≡ g.plus (pedersen_sum g xs (bits_of_bytes left)) (pedersen_sum g (drop (8 * length left) xs)
      (bits_of_bytes right))
  sum_of_two xs left right =
      ap (pedersen_sum g xs) (flat_map-append (bits_of_number 8) left right)
      ∙ pedersen_sum-behind laws xs (bits_of_bytes left) (bits_of_bytes right)
      ∙ ap (λ (k : ℕ). g.plus (pedersen_sum g xs (bits_of_bytes left)) (pedersen_sum g (drop k xs)
      (bits_of_bytes right))) (length-bits_of_bytes left)

  sum_of_halves : (xs : List G) (half : ℕ) (left right : List ℕ) → pedersen_sum g xs
      (bits_of_bytes (full_halves half left right)) ≡ g.plus (pedersen_sum g xs (bits_of_bytes left))
      (pedersen_sum g (drop (8 * length left) xs) (bits_of_bytes right))
  sum_of_halves xs half left right =
      let n = 2 * half / 8 - length (left ++ right) in
      sum_of_two xs (left ++ right) (replicate n 0)
      ∙ ap (g.plus (pedersen_sum g xs (bits_of_bytes (left ++ right))))
      (sum_of_zeros n (drop (8 * length (left ++ right)) xs))
      ∙ right_identity laws _
      ∙ sum_of_two xs left right

  -- halves that fit are summed, left and then right behind it
  pub of_halves-sum : {W : Type 0} (windows : Windows W) (lists : List (List G)) (left right : List ℕ)
      → length left ≡ length right → length left ≤ window_bits windows / 2 / 8 → has_shape windows.NUM_WINDOWS
      windows.WINDOW_SIZE lists ≡ true
      → of_halves windows (pedersen_hash g windows lists) left right
      ≡ Ok (g.plus (sum_from g 0 lists (bits_of_bytes left)) (sum_from g (8 * length left) lists (bits_of_bytes right)))
  of_halves-sum windows lists left right same short shape =
      let bits = window_bits windows in
      let whole = full_halves (bits / 2) left right in
      let too_long : Outcome G = Err (IncorrectInputLength (length whole)) in
      let shapeless : Outcome G = Err (GenericError ParameterShape) in
      let sum : Outcome G = Ok (pedersen_sum g (concatenation lists) (bits_of_bytes whole)) in
      let shaped = has_shape windows.NUM_WINDOWS windows.WINDOW_SIZE lists in
      let fits : ltb bits (8 * length whole) ≡ false =
      le-ltb _ _ (omega (arith, length-full_halves (bits / 2) left right same (omega arith))) in
      of_halves-full windows (pedersen_hash g windows lists) left right same short
      ∙ ap (λ (b : Bool). cond b too_long (cond shaped sum shapeless)) fits
      ∙ ap (λ (b : Bool). cond b sum shapeless) shape
      ∙ ap (λ (x : G). let o : Outcome G = Ok x in o) (sum_of_halves (concatenation lists) (bits / 2) left right)

-- Entries of tables under masks.
use Rattle.std.proofs.Common.{◌≡◌, ℕ, ◌+◌, ◌-◌, ◌^◌, ◌<◌, ◌≤◌, List, [], ◌∷◌, length, get_or, slice_index, Bool, true, false, eqb, refl, sym, ◌∙◌, ap, ap₂, arith}
use Rattle.std.proofs.Math.Nat.{mod-eq_of_lt}
use Rattle.std.proofs.Common.{slice_set}
use Rattle.std.proofs.lemmas.Grind.{get_or-set_at}
use Rattle.std.proofs.lemmas.List.{ext_get_or, get_or-replicate, get_or-set_other}
use Rattle.std.proofs.lemmas.Nat.{and_mask}
use Rattle.std.specs.Int.Bits.{bit_and, bit_or, or_zero_l, or_zero_r, and_zero_r}
use Rattle.std.proofs.lemmas.Bool.{eqb-true, eqb-false}
use Rattle.ark_groups.specs.Words.{four}
use Rattle.ark_wide_fields.specs.Choices.{ones, mask_for}
use Rattle.edwards.specs.Entries.{couples, no_entry}

-- a word, and one behind it, under a mask
module _ (mask : ℕ) (couple so_far under result : List ℕ)
    (words : (i : ℕ) → get_or couple i 0 < 2 ^ 64) (wide : length result ≡ 2)
    (anded : (j : ℕ) → j < 2 → slice_index under j ≡ bit_and (slice_index couple j) (slice_index (mask ∷ mask ∷ []) j))
    (ored : (j : ℕ) → j < 2 → slice_index result j ≡ bit_or (slice_index so_far j) (slice_index under j)) where
  lane : (j : ℕ) → j < 2 → get_or result j 0 ≡ bit_or (get_or so_far j 0) (bit_and (get_or couple j 0) mask)
  lane j below =
      ored j below ∙ ap (bit_or (get_or so_far j 0)) (anded j below
      ∙ ap (bit_and (get_or couple j 0)) (get_or-replicate 2 j mask 0 below))

  pub couple_first : length couple ≡ 2 → mask ≡ ones → so_far ≡ 0 ∷ 0 ∷ [] → result ≡ couple
  couple_first two is_ones none =
      ext_get_or 0 result couple (wide ∙ sym two) (λ j below. at j (omega (arith, below, wide)))
    where
      at : (j : ℕ) → j < 2 → get_or result j 0 ≡ get_or couple j 0
      at j below =
          lane j below ∙ ap₂ bit_or (ap (λ l. get_or l j 0) none ∙ get_or-replicate 2 j 0 0 below)
          (ap (bit_and (get_or couple j 0)) is_ones ∙ and_mask (get_or couple j 0) 64 ∙ mod-eq_of_lt (words j))
          ∙ or_zero_l (get_or couple j 0)

  pub couple_second : length so_far ≡ 2 → mask ≡ 0 → result ≡ so_far
  couple_second two none =
      ext_get_or 0 result so_far (wide ∙ sym two) (λ j below. at j (omega (arith, below, wide)))
    where
      at : (j : ℕ) → j < 2 → get_or result j 0 ≡ get_or so_far j 0
      at j below =
          lane j below ∙ ap (λ n. bit_or (get_or so_far j 0) (bit_and (get_or couple j 0) n)) none
          ∙ ap (bit_or (get_or so_far j 0)) (and_zero_r (get_or couple j 0)) ∙ or_zero_r (get_or so_far j 0)

-- six couples are an entry
pub six_are : (xs : List (List ℕ)) → length xs ≡ 6
    → get_or xs 0 [] ∷ get_or xs 1 [] ∷ get_or xs 2 [] ∷ get_or xs 3 [] ∷ get_or xs 4 [] ∷ get_or xs 5 [] ∷ [] ≡ xs
six_are [] long = absurd (omega (arith, long))
six_are (a ∷ []) long = absurd (omega (arith, long))
six_are (a ∷ b ∷ []) long = absurd (omega (arith, long))
six_are (a ∷ b ∷ c ∷ []) long = absurd (omega (arith, long))
six_are (a ∷ b ∷ c ∷ e ∷ []) long = absurd (omega (arith, long))
six_are (a ∷ b ∷ c ∷ e ∷ f ∷ []) long = absurd (omega (arith, long))
six_are (a ∷ b ∷ c ∷ e ∷ f ∷ g ∷ []) long = refl
six_are (a ∷ b ∷ c ∷ e ∷ f ∷ g ∷ h ∷ more) long = absurd (omega (arith, long))

-- one mask more
pub mask_next : (masks : List ℕ) (j number mask : ℕ) → j < length masks → mask ≡ mask_for (eqb j number)
    → ((k : ℕ) → k < j → slice_index masks k ≡ mask_for (eqb k number))
    → (k : ℕ) → k < j + 1 → slice_index (slice_set masks j mask) k ≡ mask_for (eqb k number)
mask_next masks j number mask inside bits before k below = step (eqb k j) refl
  where
    step : (c : Bool) → eqb k j ≡ c → slice_index (slice_set masks j mask) k ≡ mask_for (eqb k number)
    step true is =
        let same : k ≡ j = eqb-true k j is in
        get_or-set_at masks j k mask 0 same inside ∙ bits ∙ ap (λ n. mask_for (eqb n number)) (sym same)
    step false is =
        let other : k ≡ j → ⊥ = eqb-false k j is in
        get_or-set_other masks j k mask 0 other ∙ before k (omega (arith, below, other))

-- the entry for a digit, which is that of the number before it, was found where it was passed, and else none
pub record FoundSoFar (j digit : ℕ) (entry : ℕ → List (List ℕ)) (found : List (List ℕ)) : Type 0 where
  pub whole : length found ≡ 6
  pub some : 0 < digit → digit ≤ j → found ≡ entry (digit - 1)
  pub before : j < digit → found ≡ no_entry
  pub none : digit ≡ 0 → found ≡ no_entry

pub none_found : (digit : ℕ) (entry : ℕ → List (List ℕ)) → FoundSoFar 0 digit entry no_entry
none_found digit entry = record {
  whole = refl;
  some = λ some reached. absurd (omega (arith, some, reached));
  before = λ _. refl;
  none = λ _. refl;
}

pub entry_next : (mask j digit : ℕ) (entry : ℕ → List (List ℕ)) (found next : List (List ℕ))
    → mask ≡ mask_for (eqb (j + 1) digit) → length next ≡ 6 → (mask ≡ ones → found ≡ no_entry → next ≡ entry j)
    → (mask ≡ 0 → next ≡ found) → FoundSoFar j digit entry found → FoundSoFar (j + 1) digit entry next
entry_next mask j digit entry found next bits long first second so_far = step (eqb (j + 1) digit) refl
  where
    step : (c : Bool) → eqb (j + 1) digit ≡ c → FoundSoFar (j + 1) digit entry next
    step true is =
        let same : j + 1 ≡ digit = eqb-true (j + 1) digit is in
        record {
          whole = long;
          some = λ _ _. first (bits ∙ ap mask_for is) (so_far.before (omega (arith, same)))
              ∙ ap entry (omega (arith, same));
          before = λ below. absurd (omega (arith, same, below));
          none = λ nothing. absurd (omega (arith, same, nothing));
        }
    step false is =
        let other : j + 1 ≡ digit → ⊥ = eqb-false (j + 1) digit is in
        let kept : next ≡ found = second (bits ∙ ap mask_for is) in
        record {
          whole = long;
          some = λ some reached. kept ∙ so_far.some some (omega (arith, reached, other));
          before = λ below. kept ∙ so_far.before (omega (arith, below));
          none = λ nothing. kept ∙ so_far.none nothing;
        }

-- four words are couples of their number, and their number is that of the couples
module _ (a b c e n : ℕ) (whole : four a b c e ≡ n) (a_fits : a < 2 ^ 64) (b_fits : b < 2 ^ 64) (c_fits : c < 2 ^ 64)
    (more : List (List ℕ)) where
  pub words_are : (a ∷ b ∷ []) ∷ (c ∷ e ∷ []) ∷ more ≡ couples n more
  words_are =
      ap₂ (λ low high. low ∷ high ∷ more)
      (ap₂ (λ x y. x ∷ y ∷ []) (omega (arith, whole, a_fits)) (omega (arith, whole, a_fits, b_fits)))
      (ap₂ (λ x y. x ∷ y ∷ []) (omega (arith, whole, a_fits, b_fits, c_fits))
      (omega (arith, whole, a_fits, b_fits, c_fits)))

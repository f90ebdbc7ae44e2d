-- Entries of tables, as couples of words.
use Rattle.std.specs.Prelude.{◌≡◌, ℕ, ◌/◌, ◌%◌, ◌^◌, ◌<◌, List, [], ◌∷◌, replicate, eqb, slice_index}
use Rattle.ark_wide_fields.specs.Choices.{mask_for}

-- four words, the least first, as two couples, before others
abbrev pub couples : ℕ → List (List ℕ) → List (List ℕ)
couples n more = (n % 2 ^ 64 ∷ n / 2 ^ 64 % 2 ^ 64 ∷ []) ∷ (n / 2 ^ 128 % 2 ^ 64 ∷ n / 2 ^ 192 ∷ []) ∷ more

-- an entry of zeros
abbrev pub no_entry : List (List ℕ)
no_entry = replicate 6 (0 ∷ 0 ∷ [])

-- the masks of the numbers below 16 are ones for this number, else zeros
abbrev pub AreMasksOf : ℕ → List ℕ → Type 0
AreMasksOf number masks = (j : ℕ) → j < 16 → slice_index masks j ≡ mask_for (eqb j number)

-- Tables of an element's multiples by signed digits to base 32.
use Rattle.std.specs.Prelude.{◌≡◌, ℕ, zero, suc, ◌+◌, ◌-◌, ◌*◌, ◌%◌, ◌^◌, ◌<◌, List, [], ◌++◌, map, get_or, nat_lt}
use Rattle.std.specs.Prelude.{if◌then◌else◌}
use Rattle.std.specs.List.{range_with_len}
use Rattle.ark_groups.specs.Group.{times}
use Rattle.edwards.specs.Entries.{couples}
use Rattle.jubjub.specs.declared.element.Jubjub.{Jubjub}
use Rattle.jubjub.specs.declared.element.sums.chosen.Chosen.{Chosen}
use Rattle.jubjub.specs.Elements.{jubjub}
use Rattle.jubjub.specs.Jubjub.{p}
use Rattle.jubjub.specs.Values.{value}

-- the multiples of an element by 1 to 16
abbrev pub row_of_multiples : Jubjub → List Jubjub
row_of_multiples x = map (λ k. times jubjub k x) (range_with_len 1 16)

-- so many rows: those of the element, of its multiple by 32, by 1024 ..
unfoldable pub rows_of : ℕ → Jubjub → List Jubjub
rows_of zero x = []
rows_of (suc n) x = row_of_multiples x ++ rows_of n (times jubjub 32 x)

-- the multiple by the size of a digit, in the row that begins at a place
abbrev pub entry_at : List Jubjub → ℕ → ℕ → Jubjub
entry_at xs first zero = jubjub.identity
entry_at xs first (suc n) = get_or xs (first + n) jubjub.identity

-- the multiple by a digit, where 16 to 31 stand for the digits below 0, 32 less
unfoldable pub signed_at : List Jubjub → ℕ → ℕ → Jubjub
signed_at xs first c =
    if nat_lt c 16 then entry_at xs first c else jubjub.opposite (entry_at xs first (32 - c))

-- what the field keeps for a number
abbrev pub montgomery_form : ℕ → ℕ
montgomery_form n = n * 2 ^ 256 % p

-- the words that it keeps for three numbers
abbrev pub words_of : ℕ → ℕ → ℕ → List (List ℕ)
words_of x y c = couples (montgomery_form x) (couples (montgomery_form y) (couples (montgomery_form c) []))

-- and for an element
abbrev pub element_words : Jubjub → List (List ℕ)
element_words e = words_of (value e.x) (value e.y) (value e.crossed)

-- an entry is the words of three numbers of the field
pub record AreEntryWords (entry : List (List ℕ)) (x y c : ℕ) : Type 0 where
  pub x_below : x < p
  pub y_below : y < p
  pub c_below : c < p
  pub words_are : entry ≡ words_of x y c

-- what was chosen is what the element keeps
pub record IsChosen (c : Chosen) (e : Jubjub) : Type 0 where
  pub x_is : value c.x ≡ value e.x
  pub y_is : value c.y ≡ value e.y
  pub crossed_is : value c.crossed ≡ value e.crossed

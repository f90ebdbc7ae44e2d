-- Places above leaves.
use Rattle.std.specs.Prelude.{ℕ, zero, suc, ◌+◌, ◌/◌, ◌^◌, List, length, map}
use Rattle.ark_paths.specs.Rising.{rising_set}

-- the places of a row above leaves with these indexes, each once: an index divided by the size of the row's parts
abbrev pub places_on : ℕ → List ℕ → List ℕ
places_on row indexes = rising_set (map (λ i. i / 2 ^ suc row) indexes)

-- how many places stand above these leaves in the first rows
abbrev pub count_above : ℕ → List ℕ → ℕ
count_above zero indexes = 0
count_above (suc row) indexes = count_above row indexes + length (places_on row indexes)

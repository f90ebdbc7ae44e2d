-- Entries by their places, and those among them that are at hand. A place is a level, counted from the lowest
-- pairs, and a number on it.
use Rattle.std.specs.Prelude.{◌≡◌, ◌==◌, ◌&&◌, ◌-◌, ℕ, zero, suc, Bool, List, [], ◌∷◌, Some}
use Rattle.std.specs.BTreeMap.{BTreeMap, get}
use Rattle.std.specs.List.{slice_get}
use Rattle.std.specs.Ordering.{nat_cmp, ordering_then}
use Rattle.std.specs.declared.cmp.Ordering.{Ordering}
use Rattle.ark_paths.specs.declared.multi_path.table.Entry.{Entry}
use Rattle.ark_paths.specs.declared.multi_path.table.Placed.{Placed}

-- places in the order of level and number
abbrev pub place_cmp : ℕ × ℕ → ℕ × ℕ → Ordering
place_cmp a b = ordering_then (nat_cmp a.0 b.0) (nat_cmp a.1 b.1)

abbrev pub same_place : ℕ × ℕ → ℕ × ℕ → Bool
same_place a b = (a.0 == b.0) && (a.1 == b.1)

-- An item at a place of a list or just past its end; a list that ends before stays.
abbrev pub put_at : {X : Type 0} → List X → ℕ → X → List X
put_at [] zero x = x ∷ []
put_at [] (suc i) x = []
put_at (y ∷ ys) zero x = x ∷ ys
put_at (y ∷ ys) (suc i) x = y ∷ put_at ys i x

-- Each entry of a list is the one that is kept at its place, and stands in the list at its level less one.
abbrev pub AreKept : {X : Type 0} → BTreeMap (ℕ × ℕ) (Entry X) → List (Placed X) → Type 0
AreKept {X} all last = (level : ℕ) (placed : Placed X) → slice_get last level ≡ Some placed
    → (placed.place.0 - 1 ≡ level) × (get place_cmp all placed.place ≡ Some placed.entry)

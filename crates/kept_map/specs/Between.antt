-- Proofs of all that a map in memory has from one key to another: the bytes of a tree that hides nothing there.
use Rattle.std.specs.Prelude.{◌≡◌, ◌&&◌, ℕ, suc, Bool, true, false, List, Ok}
use Rattle.ark_base.specs.Outcome.{Outcome, ◌>>=◌}
use Rattle.merkle_map.specs.Bytes.{spelled}
use Rattle.merkle_map.specs.Kept.{IsTreeOf}
use Rattle.merkle_map.specs.Map.{Entry, Key, MapHashes, has_bit}
use Rattle.merkle_map.specs.Order.{IsOutside}
use Rattle.merkle_map.specs.Pruned.{covered}
use Rattle.merkle_map.specs.Tree.{Shape, Empty, One, Fork, Hidden}

-- A tree some levels below the root, without what lies outside from one key to another: all of it; or its sides, where
-- it may stand on the way of the first key, and of the last.
abbrev pub between : MapHashes → Bool → Bool → Bool → ℕ → Key → Key → Shape → Outcome Shape
between h true on_first on_last level first last tree = covered h tree
between h false on_first on_last level first last Empty = Ok Empty
between h false on_first on_last level first last (One entry) = Ok (One entry)
between h false on_first on_last level first last (Hidden digest) = Ok (Hidden digest)
between h false on_first on_last level first last (Fork left right) =
    let below = on_first && has_bit true level first in
    let above = on_last && has_bit false level last in
    between h below on_first above (suc level) first last left >>= λ l.
    between h above below on_last (suc level) first last right >>= λ r. Ok (Fork l r)

-- A key lies from one key to another, or is either.
abbrev pub IsBetween : Key → Key → Key → Type 0
IsBetween first last key = ¬ IsOutside first last key

-- The bytes are those of the map's own tree without what lies outside.
pub record IsTreeBetween (h : MapHashes) (first last : Key) (xs : List Entry) (bytes : List ℕ) : Type 0 where
  pub tree : Shape
  pub is : IsTreeOf xs tree
  pub shown : Shape
  pub made : between h false true true 0 first last tree ≡ Ok shown
  pub written : bytes ≡ spelled shown

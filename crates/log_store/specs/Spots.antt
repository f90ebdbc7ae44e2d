-- Digests that were read from a log's file, each with its position in the log's list.
use Rattle.std.specs.Prelude.{◌≡◌, ℕ, ◌==◌, if◌then◌else◌, List, [], ◌∷◌, map, get_or, Option, Some, None, unwrap_or}
use Rattle.std.specs.List.{range_with_len}
use Rattle.ark_paths.specs.Pair.{Digest}
use Rattle.merkle_log.specs.Asked.{IsPeak}
use Rattle.merkle_log.specs.Kept.{front}
use Rattle.merkle_log.specs.Stored.{position, stored_count, StoredValue}
use Rattle.log_store.specs.declared.spots.Spot.{Spot}

-- the digest that was read at a position, the first of them
abbrev pub found : List Spot → ℕ → Option Digest
found [] at = None
found (spot ∷ spots) at = if spot.position == at then (Some spot.digest) else (found spots at)

-- A digest was read at the position.
abbrev pub IsRead : List Spot → ℕ → Type 0
IsRead spots at = (digest : Digest) × (found spots at ≡ Some digest)

-- The digests are those of the complete subtrees into which a log of this size falls, each at its level.
abbrev pub ArePeaksOf : ℕ → List Digest → List Digest → Type 0
ArePeaksOf size peaks digests =
    (level place : ℕ) → IsPeak size level place → get_or peaks level [] ≡ get_or digests (position level place) []

-- Each digest that was read is the list's own at its position.
abbrev pub AreSpotsOf : List Spot → List Digest → Type 0
AreSpotsOf spots digests = (at : ℕ) (digest : Digest) → found spots at ≡ Some digest → digest ≡ get_or digests at []

-- Where a digest was read, one is read still.
abbrev pub AreMore : List Spot → List Spot → Type 0
AreMore old new = (at : ℕ) → IsRead old at → IsRead new at

-- a log's list with the digests in their places that were read
abbrev pub spotted : ℕ → List Spot → List Digest → StoredValue
spotted size spots digests =
    front size (map (λ at. unwrap_or (found spots at) (get_or digests at [])) (range_with_len 0 (stored_count size)))

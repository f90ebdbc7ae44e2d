-- Entries and pairs of digests that are hashed together.
use Rattle.std.specs.Prelude.{◌≡◌, List, map, Ok}
use Rattle.ark_base.specs.Digits.{itself}
use Rattle.ark_crh.specs.Ahead.{couples_seen, of_couple, AreOfFirst}
use Rattle.merkle_map.specs.Map.{Digest, Key, MapHashes}
use Rattle.merkle_map.specs.declared.together.HashedPair.{HashedPair}

-- The digest is the hash of the two.
abbrev pub IsHashedPair : {D : Type 0} → (D → Digest) → MapHashes → HashedPair D → Type 0
IsHashedPair numbers h pair = h.pair (numbers pair.left) (numbers pair.right) ≡ Ok (numbers pair.digest)

-- These are the hashes of as many of the first keys with their values.
abbrev pub AreHashedEntries : {D : Type 0} → (D → Digest) → MapHashes → List (Key × Digest) → List D → Type 0
AreHashedEntries numbers h entries digests =
    AreOfFirst (of_couple h.leaf) (couples_seen itself entries) (map numbers digests)

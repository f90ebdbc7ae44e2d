-- What changed trees show.
use Rattle.std.specs.Prelude.{◌≡◌, List, Bool, Option, Ok}
use Rattle.std.specs.Str.{bytes_eq}
use Rattle.ark_base.specs.Outcome.{Outcome, ◌>>=◌}
use Rattle.merkle_map.specs.Map.{Key, Digest, Entry, MapHashes, IsMap, root_of_map, value_at}
use Rattle.merkle_map.specs.Tree.{Shape, Shows, ShowsOrCollides, shape_digest}

-- Each map that the tree shows has this at the key.
abbrev pub Has : Shape → Key → Option Digest → Type 0
Has shape key value = (h : MapHashes) (entries : List Entry) → Shows h 0 shape entries → value_at key entries ≡ value

-- Each map that the old tree shows under these hashes is shown by the new one once it is changed.
abbrev pub FollowsBy : MapHashes → (List Entry → List Entry) → Shape → Shape → Type 0
FollowsBy h change old new = (entries : List Entry) → IsMap entries → Shows h 0 old entries
    → Shows h 0 new (change entries)

-- It is so under all hashes.
abbrev pub Follows : (List Entry → List Entry) → Shape → Shape → Type 0
Follows change old new = (h : MapHashes) → FollowsBy h change old new

-- whether the tree has this digest
abbrev pub has_digest : MapHashes → Digest → Shape → Outcome Bool
has_digest h root shape = do
  digest ← shape_digest h shape
  Ok (bytes_eq digest root)

-- The tree shows each map with this root, or collides with the map's own tree below bits that are named.
abbrev pub BindsTree : MapHashes → Digest → Shape → Type 0
BindsTree h root shape = (entries : List Entry) → root_of_map h entries ≡ Ok root → ShowsOrCollides h 0 shape entries

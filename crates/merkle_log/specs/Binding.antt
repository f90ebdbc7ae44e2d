-- What a path shows of a leaf to whoever holds the log.
use Rattle.std.specs.Prelude.{◌≡◌, ◌≤◌, ◌-◌, ◌+◌, ◌%◌, ◌==◌, ◌&&◌, not, nat_lt, ℕ, Bool, true, false, if◌then◌else◌, List, [], ◌∷◌, ◌++◌, take, get_or, Option, Some, None, Ok}
use Rattle.ark_base.specs.Outcome.{Outcome, ◌>>=◌}
use Rattle.ark_paths.specs.Pair.{Digest, Hashes, digest_eq}
use Rattle.merkle_log.specs.Walk.{has_beside, walk, on_left, on_right}
use Rattle.merkle_log.specs.Collision.{PathCollidesAt}
use Rattle.merkle_log.specs.Log.{NodeHash, LogValue, merkle_tree_hash}
use Rattle.merkle_log.specs.Verdict.{inclusion_verdict}
use Rattle.merkle_log.specs.declared.bind.LogBinding.{LogBinding}
use Rattle.merkle_log.specs.declared.bind.LogBinding.TheVariants.{Rejected, Stands, Collides}

-- The highest level at which a path's pair and that of a list's tree collide. None: they collide at no level, and the
-- digest stands at the index.
abbrev pub IsHighest : NodeHash → Digest → List Digest → ℕ → ℕ → Digest → List Digest → Option ℕ → Type 0
IsHighest hash empty digests index last digest path None =
    (get_or digests index [] ≡ digest)
    × ((level : ℕ) → PathCollidesAt hash (Ok empty) digests index last digest path level → ⊥)
IsHighest hash empty digests index last digest path (Some level) =
    PathCollidesAt hash (Ok empty) digests index last digest path level
    × ((other : ℕ) → PathCollidesAt hash (Ok empty) digests index last digest path other → other ≤ level)

-- the same of the first leaves of a log and a digest
abbrev pub HighestIn : {T : Type 0} → NodeHash → LogValue T → ℕ → ℕ → Digest → List Digest → Option ℕ → Type 0
HighestIn hash log size index digest path =
    IsHighest hash log.empty (take size log.digests) index (size - 1) digest path

-- the same of a leaf, which has a hash
abbrev pub LeafHighestIn : {T A : Type 0} → Hashes A → LogValue T → ℕ → ℕ → A → List Digest → Option ℕ → Type 0
LeafHighestIn hashes log size index leaf path found = (digest : Digest) × (hashes.leaf leaf ≡ Ok digest)
    × HighestIn hashes.pair.upper log size index digest path found

-- whether a path that shows so is accepted
abbrev pub is_accepted : LogBinding → Bool
is_accepted Rejected = false
is_accepted Stands = true
is_accepted (Collides level) = true

-- the verdict on a path under the root of the first of some digests
abbrev pub verdict_in : NodeHash → Digest → List Digest → ℕ → ℕ → Digest → List Digest → Outcome Bool
verdict_in hash empty digests size index digest path =
    if nat_lt index size
    then (merkle_tree_hash hash empty (take size digests) >>= λ root.
    inclusion_verdict hash root size index digest path)
    else (Ok false)

-- the same from a leaf, which is hashed only where the index is below the size
abbrev pub leaf_verdict_in : {T A : Type 0} → Hashes A → LogValue T → ℕ → ℕ → A → List Digest → Outcome Bool
leaf_verdict_in hashes log size index leaf path =
    if nat_lt index size
    then (hashes.leaf leaf >>= λ digest.
    verdict_in hashes.pair.upper log.empty log.digests size index digest path)
    else (Ok false)

-- what a path shows that is accepted and collides highest at this level or at none
abbrev pub shown_by : Option ℕ → LogBinding
shown_by None = Stands
shown_by (Some level) = Collides level

-- the index beside an index
abbrev pub index_beside : ℕ → ℕ
index_beside i = if i % 2 == 1 then (i - 1) else (i + 1)

-- the first digests of a row and a last one
abbrev pub edge_of : List Digest → ℕ → Digest → List Digest
edge_of row s last = take s row ++ (last ∷ [])

-- whether a digest and the one beside it are others than those of a list
abbrev pub is_other_pair : List Digest → ℕ → ℕ → Digest → Digest → Bool
is_other_pair digests i s own sibling = has_beside i s
    && not (digest_eq own (get_or digests i []) && digest_eq sibling (get_or digests (index_beside i) []))

-- a level in the place of those below it, where pairs differ there
abbrev pub found_at : Bool → ℕ → Option ℕ → Option ℕ
found_at other level found = if other then (Some level) else found

-- A path leads from a digest at an index to the root of these digests.
pub record Reaches (hash : NodeHash) (digests : List Digest) (size index : ℕ) (digest : Digest) (path : List Digest) :
    Type 0 where
  pub root : Digest
  pub hashed : (empty : Digest) → merkle_tree_hash hash empty digests ≡ Ok root
  pub walked : walk (on_left hash) (on_right hash) size index (size - 1) digest path ≡ Ok (Some root)

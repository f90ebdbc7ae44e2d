-- Which pairs collide where a proof is accepted and what it says is not so.
use Rattle.std.specs.Prelude.{◌≡◌, ◌≢◌, ◌⊎◌, ◌<◌, ◌+◌, ◌*◌, ◌^◌, ◌%◌, ℕ, suc, List, ◌∷◌, length, map, Result, Ok}
use Rattle.merkle_log.specs.Trees.{node}
use Rattle.merkle_log.specs.Walk.{joined, Meets, on_left, on_right, both_left, new_right, in_order, index_up}

-- Two different pairs have one hash.
pub record Collide {D E : Type 0} (hash : D → D → Result D E) (pair other : D × D) : Type 0 where
  pub differ : pair ≢ other
  pub common : D
  pub pair_hash : hash pair.0 pair.1 ≡ Ok common
  pub other_hash : hash other.0 other.1 ≡ Ok common

-- A list's own tree has this pair below a place: the hashes of the two halves, of which the left one is whole, and its
-- place stands level + 1 levels above the list.
pub record IsTreePair {D E : Type 0} (hash : D → D → Result D E) (empty : Result D E) (digests : List D)
    (level place : ℕ) (pair : D × D) : Type 0 where
  pub inside : (place + place + 1) * 2 ^ level < length digests
  pub left : node (joined hash) empty level (place + place) (map Ok digests) ≡ Ok pair.0
  pub right : node (joined hash) empty level (place + place + 1) (map Ok digests) ≡ Ok pair.1

-- ---- inclusion

-- At a level the pair that a path's walk hashes is another one than that of the list's own tree at this place, and both
-- hash alike.
pub record PathCollidesAt {D E : Type 0} (hash : D → D → Result D E) (empty : Result D E) (digests : List D)
    (i s : ℕ) (own : D) (path : List D) (level : ℕ) : Type 0 where
  pub reached : D
  pub sibling : D
  pub met : Meets (on_left hash) (on_right hash) i s own path level reached sibling
  pub pair : D × D
  pub tree : IsTreePair hash empty digests level (index_up (suc level) i) pair
  pub collide : Collide hash (in_order (index_up level i) reached sibling) pair

-- ---- consistency

-- Where the walk of a consistency proof begins, for an old list with last index i: `start` levels up, the lowest level
-- at which that index is even. There it takes the old root, where the old list is one whole tree, and else the path's
-- first digest.
pub record IsSeed {D : Type 0} (i : ℕ) (root : D) (path : List D) (start : ℕ) (seed : D) (rest : List D) : Type 0 where
  pub whole : (level : ℕ) → level < start → index_up level i % 2 ≡ 1
  pub even : index_up start i % 2 ≡ 0
  pub is : (index_up start i ≡ 0) × (seed ≡ root) × (rest ≡ path) ⊎ (0 < index_up start i) × (path ≡ seed ∷ rest)

-- A walk begins `start` levels above two lists, at indexes i and s of their last digests there, with a digest of each.
-- At a level its pair for the old root is another one than that of the old list's tree, and both hash alike.
pub record OldCollidesAt {D E : Type 0} (hash : D → D → Result D E) (empty : Result D E) (old : List D) (start i s : ℕ)
    (ends : D × D) (path : List D) (level : ℕ) : Type 0 where
  pub reached : D × D
  pub sibling : D
  pub met : Meets (both_left hash) (new_right hash) i s ends path level reached sibling
  pub odd : index_up level i % 2 ≡ 1
  pub pair : D × D
  pub tree : IsTreePair hash empty old (start + level) (index_up (suc level) i) pair
  pub collide : Collide hash (sibling, reached.0) pair

-- The same of the walk's pair for the new root and that of the new list's tree.
pub record NewCollidesAt {D E : Type 0} (hash : D → D → Result D E) (empty : Result D E) (new : List D) (start i s : ℕ)
    (ends : D × D) (path : List D) (level : ℕ) : Type 0 where
  pub reached : D × D
  pub sibling : D
  pub met : Meets (both_left hash) (new_right hash) i s ends path level reached sibling
  pub pair : D × D
  pub tree : IsTreePair hash empty new (start + level) (index_up (suc level) i) pair
  pub collide : Collide hash (in_order (index_up level i) reached.1 sibling) pair

-- Behind its seed the walk of a consistency proof has such a pair at a level. The lists' last indexes are i and s.
abbrev pub WalkCollides : {D E : Type 0} → (D → D → Result D E) → Result D E → List D → ℕ → ℕ → D → List D → Type 0
WalkCollides {D} hash empty new i s root path = (start : ℕ) × (seed : D) × (rest : List D)
    × IsSeed i root path start seed rest × (level : ℕ)
    × NewCollidesAt hash empty new start (index_up start i) (index_up start s) (seed, seed) rest level

-- Two lists' own trees have two different pairs below one place, which hash alike.
pub record TreesCollideAt {D E : Type 0} (hash : D → D → Result D E) (empty : Result D E) (old new : List D)
    (level place : ℕ) : Type 0 where
  pub old_pair : D × D
  pub old_tree : IsTreePair hash empty old level place old_pair
  pub new_pair : D × D
  pub new_tree : IsTreePair hash empty new level place new_pair
  pub collide : Collide hash old_pair new_pair

-- Where two lists with last indexes i and s collide, of which a path leads from the old root to the new one: in a pair
-- of the walk for the old root and one of the old list's tree, in one of the walk for the new root and one of the new
-- list's tree, or in one of either tree.
pub data HistoriesCollide {D E : Type 0} (hash : D → D → Result D E) (empty : Result D E) (old new : List D) (i s : ℕ)
    (root : D) (path : List D) : Type 0 where
  InOld : (start : ℕ) (seed : D) (rest : List D) → IsSeed i root path start seed rest → (level : ℕ)
      → OldCollidesAt hash empty old start (index_up start i) (index_up start s) (seed, seed) rest level
      → HistoriesCollide hash empty old new i s root path
  InNew : (start : ℕ) (seed : D) (rest : List D) → IsSeed i root path start seed rest → (level : ℕ)
      → NewCollidesAt hash empty new start (index_up start i) (index_up start s) (seed, seed) rest level
      → HistoriesCollide hash empty old new i s root path
  InTrees : (level place : ℕ) → TreesCollideAt hash empty old new level place
      → HistoriesCollide hash empty old new i s root path

-- Insertions: digests come behind a list of which its root and size are known, with the list's frontier as the proof.
use Rattle.std.specs.Prelude.{◌≡◌, ◌⊎◌, ◌<◌, ◌+◌, ◌-◌, ◌^◌, ◌%◌, ◌==◌, ◌&&◌, nat_lt, min, ℕ, zero, suc, Bool, if◌then◌else◌, List, [], ◌++◌, length, map, take, drop, get_or, count_ones, Option, Some, None, Ok}
use Rattle.ark_base.specs.Outcome.{Outcome, ◌>>=◌}
use Rattle.ark_paths.specs.Pair.{Digest, digest_eq}
use Rattle.merkle_log.specs.Collision.{Collide, IsTreePair}
use Rattle.merkle_log.specs.Frontier.{IsFrontier}
use Rattle.merkle_log.specs.Log.{NodeHash, merkle_tree_hash}
use Rattle.merkle_log.specs.Walk.{index_up, joined}

-- The hash of at most 2 ^ k digests as `tree_hash` splits them. The first `size` are known by the roots of the complete
-- trees into which they fall, the largest first; the others stand behind them. No digest has the hash `none`.
abbrev pub peaks_hash : NodeHash → Digest → ℕ → ℕ → List Digest → List Digest → Outcome Digest
peaks_hash hash none zero size peaks more = Ok (get_or (peaks ++ more) 0 none)
peaks_hash hash none (suc k) size peaks more =
    let own = min size (2 ^ k) in
    let ones = count_ones own in
    let left = peaks_hash hash none k own (take ones peaks) (take (2 ^ k - own) more) in
    let right = peaks_hash hash none k (size - own) (drop ones peaks) (drop (2 ^ k - own) more) in
    if length peaks + length more == 1 then (Ok (get_or (peaks ++ more) 0 none))
    else (if nat_lt (2 ^ k) (size + length more) then (joined hash left right)
    else (peaks_hash hash none k size peaks more))

-- the root of digests of which the first `size` are known by these roots
abbrev pub root_over : NodeHash → Digest → ℕ → List Digest → List Digest → Outcome Digest
root_over hash none size peaks more = peaks_hash hash none (size + length more) size peaks more

-- whether a list of this size has so many complete trees, and so many digests can come behind it
abbrev pub can_insert : ℕ → ℕ → ℕ → Bool
can_insert size peaks more = (peaks == count_ones size) && nat_lt (size + more) (2 ^ 64)

-- whether roots of complete trees make the root of a list of this size; that of no digests is the one that is given
abbrev pub makes_root : NodeHash → Digest → ℕ → List Digest → Outcome Bool
makes_root hash old size peaks = root_over hash old size peaks [] >>= λ made. Ok (digest_eq made old)

-- a digest that is there, or the error
abbrev pub some_digest : Outcome Digest → Outcome (Option Digest)
some_digest outcome = outcome >>= λ digest. Ok (Some digest)

-- the root of a list with digests behind it; none where the proof does not make the list's root
abbrev pub insertion_root : NodeHash → Digest → ℕ → List Digest → List Digest → Outcome (Option Digest)
insertion_root hash old size proof more =
    if can_insert size (length proof) (length more)
    then (makes_root hash old size proof >>= λ made. if made then (some_digest (root_over hash old size proof more))
    else (Ok None))
    else (Ok None)

-- ---- what it says of each list with the old root

-- how many complete trees of a list of this size are larger than those of a level
abbrev pub peaks_above : ℕ → ℕ → ℕ
peaks_above level size = count_ones (index_up (suc level) size)

-- For the old root this pair is hashed on a level: the root of the complete tree there, and what those behind it make.
pub record IsPeakPair (hash : NodeHash) (old : Digest) (size : ℕ) (proof : List Digest) (level : ℕ)
    (pair : Digest × Digest) : Type 0 where
  pub left : get_or proof (peaks_above level size) old ≡ pair.0
  pub right : peaks_hash hash old level (size % 2 ^ level) (drop (suc (peaks_above level size)) proof) [] ≡ Ok pair.1

-- On a level the proof's pair is another one than that of the list's own tree at its right edge, and both hash alike.
pub record InsertionCollidesAt (hash : NodeHash) (empty : Digest) (digests : List Digest) (old : Digest)
    (proof : List Digest) (level : ℕ) : Type 0 where
  pub pair : Digest × Digest
  pub hashed : IsPeakPair hash old (length digests) proof level pair
  pub own : Digest × Digest
  pub tree : IsTreePair hash (Ok empty) digests level (index_up (suc level) (length digests)) own
  pub collide : Collide hash pair own

-- The new root is that of each list of this size with the old root and the digests behind it, or on some level the
-- proof's pair and that of the list's tree collide.
abbrev pub BindsInsertion : NodeHash → Digest → ℕ → List Digest → List Digest → Digest → Type 0
BindsInsertion hash old size proof more new = (empty : Digest) (digests : List Digest) → length digests ≡ size
    → merkle_tree_hash hash empty digests ≡ Ok old → (merkle_tree_hash hash empty (digests ++ more) ≡ Ok new)
    ⊎ ((level : ℕ) × InsertionCollidesAt hash empty digests old proof level)

-- The proof is the frontier of a list of this size with the old root, behind which the digests can come.
pub record IsInsertion (hash : NodeHash) (old : Digest) (size : ℕ) (proof : List Digest) (more : ℕ) (empty : Digest)
    (digests : List Digest) : Type 0 where
  pub frontier : IsFrontier hash digests size proof
  pub root_is : merkle_tree_hash hash empty digests ≡ Ok old
  pub fits : size + more < 2 ^ 64

-- ---- bytes

-- the root after an insertion, by a proof that was read
abbrev pub received_insertion : NodeHash → Digest → ℕ → Outcome (List Digest) → List Digest → Outcome (Option Digest)
received_insertion hash old size proof more = proof >>= λ digests. insertion_root hash old size digests more

-- The bytes spell a proof that binds the new root.
abbrev pub ShowsInsertion : NodeHash → Digest → ℕ → Outcome (List Digest) → List Digest → Digest → Type 0
ShowsInsertion hash old size proof more new =
    (digests : List Digest) × (proof ≡ Ok digests) × BindsInsertion hash old size digests more new

-- ---- in the program

-- the only digest of a tree: one that was hashed, or else the one that is known
abbrev pub first_known : {A : Type 0} → (A → Digest) → List A → List A → Digest → Option A → Digest
first_known numbers peaks more none None = get_or (map numbers peaks ++ map numbers more) 0 none
first_known numbers peaks more none (Some hashed) = numbers hashed

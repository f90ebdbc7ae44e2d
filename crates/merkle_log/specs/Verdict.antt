-- What a client checks.
use Rattle.std.specs.Prelude.{◌-◌, ◌==◌, ◌||◌, ◌&&◌, ℕ, nat_lt, Bool, true, false, if◌then◌else◌, List, [], ◌∷◌, Ok, Option, Some, None}
use Rattle.ark_base.specs.Outcome.{Outcome, ◌>>=◌}
use Rattle.ark_paths.specs.Pair.{Digest, Hashes, digest_eq}
use Rattle.merkle_log.specs.Log.{NodeHash}
use Rattle.merkle_log.specs.Walk.{walk, on_left, on_right, from_shared, from_seed, both_roots}

-- ---- inclusion

-- whether a walk ended, at this root
abbrev pub ends_at : Digest → Option Digest → Outcome Bool
ends_at root None = Ok false
ends_at root (Some end) = Ok (digest_eq end root)

-- whether a path leads from a digest at an index of a row, whose last index is given, to a root k levels up
abbrev pub leads_to : NodeHash → Digest → ℕ → ℕ → ℕ → Digest → List Digest → Outcome Bool
leads_to hash root k index last own path = walk (on_left hash) (on_right hash) k index last own path >>= ends_at root

-- whether a path leads from a digest at an index to the root of a size
abbrev pub inclusion_verdict : NodeHash → Digest → ℕ → ℕ → Digest → List Digest → Outcome Bool
inclusion_verdict hash root size index digest path =
    if nat_lt index size then (leads_to hash root size index (size - 1) digest path) else (Ok false)

-- the same from a leaf, which is hashed only where the index is below the size
abbrev pub leaf_verdict : {A : Type 0} → Hashes A → Digest → ℕ → ℕ → A → List Digest → Outcome Bool
leaf_verdict hashes root size index leaf path =
    if nat_lt index size
    then (hashes.leaf leaf >>= λ digest. inclusion_verdict hashes.pair.upper root size index digest path)
    else (Ok false)

-- ---- consistency

-- whether a walk ended, at both roots
abbrev pub ends_at_both : Digest → Digest → Option (Digest × Digest) → Outcome Bool
ends_at_both old new None = Ok false
ends_at_both old new (Some ends) = Ok (digest_eq ends.0 old && digest_eq ends.1 new)

-- two digests by their numbers
abbrev pub both_seen : {A : Type 0} → (A → Digest) → A × A → Digest × Digest
both_seen numbers ends = (numbers ends.0, numbers ends.1)

-- whether a path leads from a digest that both logs have at an index of a row, whose last index is given, to both roots
abbrev pub leads_to_both : NodeHash → Digest → Digest → ℕ → ℕ → ℕ → Digest → List Digest → Outcome Bool
leads_to_both hash old new k index last shared path =
    from_shared hash k index last shared path >>= ends_at_both old new

-- the same from the digest that a path or the old root names
abbrev pub leads_from_seed : NodeHash → Digest → Digest → ℕ → ℕ → ℕ → List Digest → Outcome Bool
leads_from_seed hash old new k index last path = from_seed hash k index last old path >>= ends_at_both old new

abbrev pub is_empty : List Digest → Bool
is_empty [] = true
is_empty (digest ∷ rest) = false

-- Whether a path leads from the root of an old size to that of a new one. There is no proof for the old size 0, and
-- that for equal sizes is empty.
abbrev pub consistency_verdict : NodeHash → ℕ → Digest → ℕ → Digest → List Digest → Outcome Bool
consistency_verdict hash old_size old size new path =
    if old_size == 0 || nat_lt size old_size then (Ok false)
    else (if old_size == size then (Ok (is_empty path && digest_eq old new))
    else (both_roots hash size (old_size - 1) (size - 1) old path >>= ends_at_both old new))

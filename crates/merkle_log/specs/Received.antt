-- Proofs that come as bytes: their digests alone, from the leaf up, and no other byte.
use Rattle.std.specs.Prelude.{◌≡◌, ◌+◌, ◌-◌, ◌/◌, ◌%◌, ◌==◌, ◌||◌, ℕ, zero, suc, nat_lt, Bool, if◌then◌else◌, List, [], ◌∷◌, map, Ok, Err}
use Rattle.ark_base.specs.declared.error.Error.TheVariants.{SerializationError}
use Rattle.ark_base.specs.declared.error.SerializationError.TheVariants.{InvalidData}
use Rattle.ark_base.specs.Digits.{bytes_at, itself}
use Rattle.ark_base.specs.Outcome.{Outcome, ◌>>=◌}
use Rattle.ark_base.specs.Reading.{Reading, reading_outcome}
use Rattle.ark_base.specs.Spelling.{items_at}
use Rattle.ark_paths.specs.Pair.{Digest, Hashes}
use Rattle.merkle_log.specs.Walk.{used_below}
use Rattle.merkle_log.specs.Log.{NodeHash}
use Rattle.merkle_log.specs.Verdict.{leaf_verdict, consistency_verdict}
use Rattle.merkle_log.specs.Bind.{BindsLogLeaf, BindsFront, BindsOldRoot}

-- how many digests the path of an index has
abbrev pub inclusion_length : ℕ → ℕ → ℕ
inclusion_length size index = used_below size index (size - 1)

-- how many digests lead from the last index of an old list, in a row with a last index, to both roots
abbrev pub length_from : ℕ → ℕ → ℕ → ℕ
length_from zero i s = 0
length_from (suc k) i s =
    if i % 2 == 1 then length_from k (i / 2) (s / 2) else ((if i == 0 then 0 else 1) + used_below (suc k) i s)

-- how many digests the consistency proof of an old size has: none for equal sizes
abbrev pub consistency_length : ℕ → ℕ → ℕ
consistency_length old_size size = if old_size == size then 0 else length_from size (old_size - 1) (size - 1)

-- what is read, where no byte is left
abbrev pub whole_read : {V : Type 0} → (V → Digest) → List V × List ℕ → Outcome (List Digest)
whole_read digest (values, []) = Ok (map digest values)
whole_read digest (values, byte ∷ bytes) = Err (SerializationError InvalidData)

-- the digests that bytes spell, so many of them and nothing else
abbrev pub digests_in : {V : Type 0} → (List ℕ → Reading V) → (V → Digest) → ℕ → List ℕ → Outcome (List Digest)
digests_in reads digest count bytes = reading_outcome (items_at reads count bytes) >>= whole_read digest

-- the digests of 32 bytes that bytes are, so many of them and nothing else
abbrev pub proof_digests : ℕ → List ℕ → Outcome (List Digest)
proof_digests count bytes = digests_in (bytes_at 32) itself count bytes

-- the verdict on a path, where the index is below the size
abbrev pub received_inclusion : {A : Type 0} → Hashes A → Digest → ℕ → ℕ → A → Outcome (List Digest) → Outcome Bool
received_inclusion hashes root size index leaf path =
    if nat_lt index size then (path >>= leaf_verdict hashes root size index leaf) else
    (Err (SerializationError InvalidData))

-- the verdict on a consistency proof, where the old size is above zero and not above the new one
abbrev pub received_consistency : NodeHash → ℕ → Digest → ℕ → Digest → Outcome (List Digest) → Outcome Bool
received_consistency hash old_size old size new path =
    if old_size == 0 || nat_lt size old_size then (Err (SerializationError InvalidData))
    else (path >>= consistency_verdict hash old_size old size new)

-- The bytes spell a path that binds the leaf.
abbrev pub ShowsLogLeaf : {A : Type 0} → Hashes A → Digest → ℕ → ℕ → A → Outcome (List Digest) → Type 0
ShowsLogLeaf hashes root size index leaf path =
    (digests : List Digest) × (path ≡ Ok digests) × BindsLogLeaf hashes root size index leaf digests

-- The bytes spell a path that binds the old root, by two lists and by one.
abbrev pub ShowsFront : NodeHash → ℕ → Digest → ℕ → Digest → Outcome (List Digest) → Type 0
ShowsFront hash old_size old size new path =
    (digests : List Digest) × (path ≡ Ok digests) × BindsFront hash old_size old size new digests
    × BindsOldRoot hash old_size old size new digests

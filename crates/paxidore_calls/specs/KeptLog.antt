-- The calls of whoever keeps a log, in the hashing of RFC 6962 (section 2.1).
use Rattle.std.specs.Prelude.{◌+◌, ◌-◌, ◌^◌, ◌&&◌, ℕ, nat_lt, not, Bool, List, [], length, take, ℤ, Result, Ok}
use Rattle.std.specs.List.{flat_map}
use Rattle.sha2.specs.Sha256.{sha256}
use Rattle.ark_base.specs.Digits.{itself}
use Rattle.ark_base.specs.Outcome.{Outcome, ◌>>=◌}
use Rattle.ark_paths.specs.Pair.{Digest, Hashes}
use Rattle.ark_trees.specs.Rfc6962.{node_of}
use Rattle.merkle_log.specs.Kept.{has_front}
use Rattle.merkle_log.specs.Edge.{all_of}
use Rattle.merkle_log.specs.Levels.{joins_behind}
use Rattle.merkle_log.specs.Log.{merkle_tree_hash, inclusion_path, consistency_path}
use Rattle.merkle_log.specs.Received.{inclusion_length, received_inclusion}
use Rattle.merkle_log.specs.Stored.{stored_count}
use Rattle.paxidore_calls.specs.Answer.{done_code, leaves_in, only_if, refusing}
use Rattle.paxidore_calls.specs.Cut.{parts_by}
use Rattle.paxidore_calls.specs.LogProofs.{proof_digests}
use Rattle.paxidore_calls.specs.declared.refused.Refused.{Refused}
use Rattle.paxidore_calls.specs.declared.refused.Refused.TheVariants.{Size, Index, Room}

-- MTH(D[0:size]): the root of the first leaves of a list, and of none the SHA-256 of nothing
abbrev pub log_root : ℕ → List Digest → Outcome Digest
log_root size leaves = merkle_tree_hash node_of (sha256 []) (take size leaves)

-- what is given of a log of some size, where so many digests are kept
abbrev pub if_kept : {A : Type 0} → ℕ → List Digest → Result A Refused → Result A Refused
if_kept size kept given = only_if (has_front size (length kept)) Size given

-- the code of a call that does something with a kept log of some size
abbrev pub kept_code : ℕ → List Digest → ℤ
kept_code size kept = done_code (if_kept size kept (Ok kept))

-- the bytes of digests, one behind the other
abbrev pub bytes_of_digests : Outcome (List Digest) → Result (List ℕ) Refused
bytes_of_digests digests = refusing (digests >>= λ all. Ok (flat_map itself all))

-- the bytes of PATH(index, D[0:size]) of a list of leaf digests
abbrev pub inclusion_bytes : ℕ → ℕ → List Digest → Result (List ℕ) Refused
inclusion_bytes size index leaves =
    bytes_of_digests (all_of (inclusion_path node_of (sha256 []) index (take size leaves)))

-- those bytes, or others, where an index is below the size of a log that is kept
abbrev pub if_inside : ℕ → ℕ → List Digest → Result (List ℕ) Refused → Result (List ℕ) Refused
if_inside size index kept bytes = if_kept size kept (only_if (nat_lt index size) Index bytes)

-- the bytes of PROOF(old_size, D[0:size]) of a list of leaf digests
abbrev pub consistency_bytes : ℕ → ℕ → List Digest → Result (List ℕ) Refused
consistency_bytes old_size size leaves =
    bytes_of_digests (all_of (consistency_path node_of (sha256 []) old_size (take size leaves)))

-- those bytes, or others, where an old size is above 0 and not above the size of a log that is kept
abbrev pub if_older : ℕ → ℕ → List Digest → Result (List ℕ) Refused → Result (List ℕ) Refused
if_older old_size size kept bytes = if_kept size kept (only_if (nat_lt 0 old_size && not (nat_lt size old_size)) Size
    bytes)

-- ---- growth

-- how many digests stand behind the stored ones of a log for so many leaves more
abbrev pub more_count : ℕ → ℕ → ℕ
more_count size count = stored_count (size + count) - stored_count size

-- whether a log of some size takes so many leaves more: their sum is a size
abbrev pub takes : ℕ → ℕ → Bool
takes size count = nat_lt (size + count) (2 ^ 63)

-- the entries that are appended to a kept log, where a buffer has room for the digests
abbrev pub appended : ℕ → List Digest → ℕ → List ℕ → List ℕ → Result (List (List ℕ)) Refused
appended size kept room entries lengths = if_kept size kept (only_if (takes size (length lengths)) Size
    (only_if (not (nat_lt room (more_count size (length lengths)))) Room (leaves_in (parts_by entries lengths))))

-- how many digests are put behind the stored ones of a kept log for a part of so many entries, whose own stored digests
-- are kept apart, where a buffer has room for them
abbrev pub joined_count : ℕ → List Digest → ℕ → List Digest → ℕ → Result ℕ Refused
joined_count size kept count part room = if_kept size kept (if_kept count part (only_if (takes size count) Size
    (only_if (joins_behind size count) Size (only_if (not (nat_lt room (more_count size count))) Room
    (Ok (more_count size count))))))

-- ---- checks by a digest

-- the hashing of a log whose entries are given by their digests
abbrev pub digest_hashes : Hashes Digest
digest_hashes = record { leaf = Ok; pair = record { bottom = node_of; upper = node_of } }

-- whether the bytes of a path show an entry's digest at an index of a log with this root and size
abbrev pub digest_shown : Digest → ℕ → ℕ → Digest → List ℕ → Result Bool Refused
digest_shown root size index digest path = only_if (nat_lt index size) Index
    (refusing (received_inclusion digest_hashes root size index digest
    (proof_digests (inclusion_length size index) path)))

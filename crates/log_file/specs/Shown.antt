-- What the bytes of a log's proofs show, in the hashing of RFC 6962, with the errors of a caller.
use Rattle.std.specs.Prelude.{ℕ, nat_lt, List, Bool, Result}
use Rattle.ark_base.specs.Outcome.{Outcome}
use Rattle.ark_paths.specs.Pair.{Digest}
use Rattle.ark_trees.specs.Rfc6962.{log_hashes, node_of}
use Rattle.merkle_log.specs.Received.{consistency_length, inclusion_length, proof_digests, received_consistency, received_inclusion}
use Rattle.log_file.specs.Faults.{is_older, only_if}

-- Whether the bytes of a path show an entry at an index of a log with this root and size. The first error is that of an
-- index that is not below the size; `seen` has those of the check.
abbrev pub entry_shown : {E : Type 0} → E → (Outcome Bool → Result Bool E) → Digest → ℕ → ℕ → List ℕ → List ℕ
    → Result Bool E
entry_shown no_index seen root size index entry path = only_if (nat_lt index size) no_index
    (seen (received_inclusion (log_hashes (λ bytes. bytes)) root size index entry
    (proof_digests (inclusion_length size index) path)))

-- Whether the bytes of a consistency proof show that a log of one size and root continues one of an old size and root.
-- The first error is that of sizes between which there is no proof; `seen` has those of the check.
abbrev pub continuing_shown : {E : Type 0} → E → (Outcome Bool → Result Bool E) → ℕ → Digest → ℕ → Digest → List ℕ
    → Result Bool E
continuing_shown no_sizes seen old_size old size new proof = only_if (is_older old_size size) no_sizes
    (seen (received_consistency node_of old_size old size new
    (proof_digests (consistency_length old_size size) proof)))

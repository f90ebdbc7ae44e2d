-- One proof of several entries of a log of any size (over the trees of RFC 9162, section 2.1).
use Rattle.std.specs.Prelude.{ℕ, ◌==◌, List, [], length, take, Bool, Result}
use Rattle.sha2.specs.Sha256.{sha256}
use Rattle.ark_base.specs.Outcome.{◌>>=◌}
use Rattle.ark_paths.specs.Pair.{Digest}
use Rattle.ark_trees.specs.Rfc6962.{log_hashes, node_of}
use Rattle.merkle_log.specs.Edge.{all_of}
use Rattle.merkle_log.specs.Multi.{are_multi_indexes, multi_length, multi_proof, received_leaves}
use Rattle.paxidore_calls.specs.Answer.{leaves_in, only_if, refusing}
use Rattle.paxidore_calls.specs.Cut.{parts_by}
use Rattle.paxidore_calls.specs.KeptLog.{bytes_of_digests, if_kept}
use Rattle.paxidore_calls.specs.LogProofs.{proof_digests}
use Rattle.paxidore_calls.specs.declared.refused.Refused.{Refused}
use Rattle.paxidore_calls.specs.declared.refused.Refused.TheVariants.{Count, Index}

-- the entries at indexes of a log: as many as indexes, which rise and are below the size
abbrev pub entries_at : ℕ → List ℕ → List ℕ → List ℕ → Result (List (List ℕ)) Refused
entries_at size indexes entries lengths = only_if (length lengths == length indexes) Count
    (only_if (are_multi_indexes size indexes) Index (leaves_in (parts_by entries lengths)))

-- whether the bytes of one proof show entries at indexes of a log with this root and size
abbrev pub entries_shown : Digest → ℕ → List ℕ → List ℕ → List ℕ → List ℕ → Result Bool Refused
entries_shown root size indexes entries lengths proof = do
  xs ← entries_at size indexes entries lengths
  refusing (received_leaves (log_hashes (λ bytes. bytes)) root size indexes xs
      (proof_digests (multi_length size indexes) proof))

-- the bytes of the one proof of indexes of the first leaves of a list
abbrev pub multi_inclusion_bytes : ℕ → List ℕ → List Digest → Result (List ℕ) Refused
multi_inclusion_bytes size indexes leaves =
    bytes_of_digests (all_of (multi_proof node_of (sha256 []) indexes (take size leaves)))

-- those bytes, or others, where the indexes rise and are below the size of a log that is kept
abbrev pub if_rising : ℕ → List ℕ → List Digest → Result (List ℕ) Refused → Result (List ℕ) Refused
if_rising size indexes kept bytes = if_kept size kept (only_if (are_multi_indexes size indexes) Index bytes)

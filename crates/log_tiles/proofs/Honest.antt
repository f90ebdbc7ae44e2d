-- What stops a call on the file of a log, or on one that continues a log.
use Rattle.std.proofs.Common.{◌≡◌, ℕ, ◌<◌, ◌≤◌, nat_lt, List, [], length, take, None, Result, Ok, Err, refl, inl, inr, ap, sym, ◌∙◌, arith}
use Rattle.std.specs.Prelude.{IfErr, IsErr}
use Rattle.std.proofs.lemmas.Bool.{le-ltb, lt-ltb}
use Rattle.std.proofs.lemmas.List.{length-take, take_all}
use Rattle.sha2.specs.Sha256.{sha256}
use Rattle.ark_base.specs.Laws.Steps.{done_injective}
use Rattle.ark_base.specs.declared.error.Error.{Error}
use Rattle.ark_paths.specs.Pair.{Digest}
use Rattle.ark_trees.specs.Rfc6962.{node_of}
use Rattle.merkle_log.specs.Log.{merkle_tree_hash}
use Rattle.log_file.specs.Faults.{is_older, of_first, only_if}
use Rattle.log_file.specs.LogFile.{IsLogFile}
use Rattle.log_file.specs.declared.fault.Fault as fault_of_files
use Rattle.log_file.specs.declared.fault.Fault.TheVariants.{Index, Size}
use Rattle.log_store.specs.Refused.{index_outcome, older_outcome, IsRefusedFor}
use Rattle.log_store.specs.declared.stop.Stop.{Stop}
use Rattle.log_store.specs.declared.stop.Stop.TheVariants.{Disk, Fault}
use Rattle.log_tiles.specs.Following.{IsHindered}
use Rattle.log_tiles.specs.Ways.{IsLogOf}
use Rattle.log_tiles.specs.declared.following.Head.{Head}
use Rattle.log_tiles.specs.declared.unfollowed.Unfollowed.{Unfollowed}
use Rattle.log_tiles.specs.declared.unfollowed.Unfollowed.TheVariants.{Stopped}
use Rattle.log_tiles.proofs.OtherLogs.{not-of, AreOwn}

module _ (leaves : List Digest) (file : List ℕ) (log : IsLogFile leaves file) where
  first-own : {A : Type 0} (given : ℕ → Result A fault_of_files.Fault)
      → of_first file None given ≡ given (length leaves)
  first-own given = rw (log.head, log.whole, le-ltb (length leaves) (length leaves) (omega arith)) refl

  -- Where there is an outcome, only a lack of memory or the disk stops the call.
  hindered : {B R : Type 0} (outcome : Result B fault_of_files.Fault) (value : B) (stop : Stop R)
      → outcome ≡ Ok value → IsRefusedFor {A = ℕ} file outcome (Err stop) → IsHindered (Stopped stop)
  hindered outcome value (Fault fault) is (inl memory) = memory
  hindered outcome value (Fault fault) is (inr (inl error)) = let clash = sym is ∙ error in absurd cc
  hindered outcome value (Fault fault) is (inr (inr damaged)) = absurd (damaged.1 leaves log)
  hindered outcome value (Disk refusal) is known = tt

  pub hindered-first : {R : Type 0} (stop : Stop R) → IsRefusedFor {A = ℕ} file (of_first file None Ok) (Err stop)
      → IsHindered (Stopped stop)
  hindered-first stop why = hindered (of_first file None Ok) (length leaves) stop (first-own Ok) why

  module _ (head : Head) (own : IsLogOf head leaves) where
    pub hindered-index : {R : Type 0} (index : ℕ) (stop : Stop R) → index < head.size
        → IsRefusedFor {A = ℕ} file (index_outcome file None index) (Err stop) → IsHindered (Stopped stop)
    hindered-index index stop inside why =
        let below = lt-ltb index (length leaves) (omega (arith, own.0, inside)) in
        hindered (index_outcome file None index) (length leaves) stop
        (first-own (λ size. only_if (nat_lt index size) Index (Ok size)) ∙ rw (below) refl) why

    -- It is not found to be the file of another log.
    pub own-head : {size : ℕ} {root : Digest} → AreOwn file size root
        → ((head.size ≡ size) × (head.root ≡ root) → ⊥) → ⊥
    own-head {size} {root} are other = not-of file head size root are other leaves log own.0 own.1

    pub hindered-same : {A R : Type 0} {size : ℕ} {root : Digest} (result : Result A (Unfollowed R))
        → AreOwn file size root → (IsErr result → (head.size ≡ size) × (head.root ≡ root) → ⊥)
        → IfErr result IsHindered
    hindered-same (Ok value) are other = tt
    hindered-same (Err why) are other = absurd (own-head are (other refl))

-- ---- a log that continues another

module _ (leaves : List Digest) (old new : Head) (own : IsLogOf new leaves)
    (front : IsLogOf old (take old.size leaves)) where
  pub no-smaller : old.size ≤ new.size
  no-smaller = omega (arith, own.0, front.0, length-take old.size leaves)

  pub front-root : {root : Digest} → merkle_tree_hash node_of (sha256 []) (take old.size leaves) ≡ Ok root
      → root ≡ old.root
  front-root {root} is = done_injective {E = Error} root old.root (sym is ∙ front.1)

  pub same-root : new.size ≡ old.size → new.root ≡ old.root
  same-root same = front-root (ap (merkle_tree_hash node_of (sha256 []))
      (take_all old.size leaves (omega (arith, own.0, same))) ∙ own.1)

  pub hindered-older : {R : Type 0} {file : List ℕ} (log : IsLogFile leaves file) (stop : Stop R)
      → 0 < old.size → IsRefusedFor {A = ℕ} file (older_outcome file None old.size) (Err stop)
      → IsHindered (Stopped stop)
  hindered-older {R} {file} log stop some why =
      let n = length leaves in
      let above = lt-ltb 0 old.size some in
      let inside = le-ltb n old.size (omega (arith, own.0, no-smaller)) in
      hindered leaves file log (older_outcome file None old.size) n stop
      (first-own leaves file log (λ size. only_if (is_older old.size size) Size (Ok size))
      ∙ rw (above, inside) refl) why

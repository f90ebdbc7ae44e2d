use Rattle.std.proofs.Common.{◌≡◌, ℕ, Bool, Some, not, nat_lt, [], length, subst, Result, Ok, Err, inl, inr, ap, sym, ◌∙◌, arith}
use Rattle.std.proofs.lemmas.Bool.{le-ltb}
use Rattle.std.proofs.lemmas.List.{take_all}
use Rattle.sha2.specs.Sha256.{sha256}
use Rattle.ark_base.specs.Outcome.{◌>>=◌}
use Rattle.ark_trees.specs.Rfc6962.{node_of}
use Rattle.merkle_log.specs.Log.{merkle_tree_hash}
use Rattle.log_file.specs.Faults.{log_size, only_if}
use Rattle.log_file.specs.declared.fault.Fault.{Fault}
use Rattle.log_file.specs.declared.fault.Fault.TheVariants.{Size}
use Rattle.log_store.specs.Store.{IsDurable}
use Rattle.log_file.specs.LogFile.{slot_to_take, IsLogFile}
use Rattle.log_checkpoints.proofs.checkpoint.Goals as goal

-- Where no size is named it is that of the log.
size-of-all : (o : Result ℕ Fault) (size : ℕ) → (o >>= λ n. only_if (not (nat_lt n n)) Size (Ok n)) ≡ Ok size
    → o ≡ Ok size
size-of-all (Ok n) size is = rw (le-ltb n n (omega arith)) at is
size-of-all (Err fault) size is = is

pub returns-in-Ok-sign_checkpoint-clause-signed : goal.returns-in-Ok-sign_checkpoint-clause-signed
returns-in-Ok-sign_checkpoint-clause-signed g c = λ obeys.
    let same = c.rewrite_head.ensures.same obeys in
    let size_is = size-of-all _ c.in-Ok.root.0 (c.in-Ok.ensures.size obeys) in
    record {
      size = c.in-Ok.root.0;
      root = c.in-Ok.root.1;
      size_is = subst (λ f. log_size f ≡ Ok c.in-Ok.root.0) same size_is;
      stated = subst (λ f. (second : Bool) × (slot_to_take f c.in-Ok.root.0 c.in-Ok.root.1 ≡ Some second)) same
          (c.in-Ok.ensures.states obeys size_is);
      root_is = λ leaves is.
          let own = c.in-Ok.ensures.root obeys leaves (subst (IsLogFile leaves) (sym same) is) in (
            sym own.0,
            ap (merkle_tree_hash node_of (sha256 []))
                (sym (take_all c.in-Ok.root.0 leaves (omega (arith, own.0)))) ∙ own.2,
          );
      signed = c.in-Ok-sign_checkpoint.ensures;
    }

pub returns-in-Err-sign_checkpoint-clause-refused : goal.returns-in-Err-sign_checkpoint-clause-refused
returns-in-Err-sign_checkpoint-clause-refused g c = λ obeys.
    let size_is = subst (λ f. log_size f ≡ Ok c.in-Ok.root.0) (c.rewrite_head.ensures.same obeys)
    (size-of-all _ c.in-Ok.root.0 (c.in-Ok.ensures.size obeys)) in
    elim c.in-Err-sign_checkpoint.ensures [
      | inl memory ↦ inl memory
      | inr refused ↦ inr (c.in-Ok.root.0, c.in-Ok.root.1, size_is, refused)
    ]

pub returns-in-Ok-sign_checkpoint-clause-durable : goal.returns-in-Ok-sign_checkpoint-clause-durable
returns-in-Ok-sign_checkpoint-clause-durable g c = λ obeys leaves log kept.
    subst (λ f. IsDurable (length leaves) f (g.D.Disk.may_leave c.rewrite_head.new.disk))
    (c.rewrite_head.ensures.same obeys) (c.in_default.ensures.durable obeys leaves log kept)

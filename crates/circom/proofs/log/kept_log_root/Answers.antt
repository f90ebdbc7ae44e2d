use Rattle.std.proofs.Common.{◌≡◌, ◌⊎◌, List, take, Ok, Err, ap, subst, sym, ◌∙◌, arith}
use Rattle.ark_base.specs.declared.error.Error.TheVariants.{OutOfMemory, SerializationError}
use Rattle.ark_base.specs.declared.error.SerializationError.TheVariants.{InvalidData}
use Rattle.ark_paths.specs.Pair.{Digest}
use Rattle.circom.specs.Hash.{node_outcome}
use Rattle.merkle_log.specs.Log.{NodeHash, merkle_tree_hash}
use Rattle.merkle_log.specs.Stored.{IsStored, row_at}
use Rattle.merkle_log.proofs.KeptRows.{fewer-first-by, fewer-hashed-by}
use Rattle.merkle_log.proofs.Positions.{length-row_of}
use Rattle.circom.proofs.Outcomes.{table-node}
use Rattle.circom.proofs.log.kept_log_root.Goals as goal

pub root_of-requires-clause-inside : goal.root_of-requires-clause-inside
root_of-requires-clause-inside c = omega (arith, c.size.ensures.size, length-row_of c.args.kept.now 0)

pub returns-in-Ok-clause-root : goal.returns-in-Ok-clause-root
returns-in-Ok-clause-root c = λ parameters of leaves le keeps empty.
    let size = c.args.kept.now.size in
    let rows = row_at c.args.kept.now in
    let same = c.new.ensures.hash ∙ table-node of in
    let stored = subst (λ (hash : NodeHash). IsStored hash rows) (sym same) (fewer-hashed-by keeps size le) in
    let Given : NodeHash → List Digest → Type 0 = λ hash list. merkle_tree_hash hash empty list ≡ Ok c.in-Ok.digest in
    subst (Given (node_outcome parameters))
    (ap (λ n. take n (rows 0)) c.size.ensures.size ∙ fewer-first-by keeps size le)
    (subst (λ hash. Given hash (take c.size.result (rows 0))) same (c.in-Ok.ensures.root stored empty))

pub returns-in-Err-clause-root : goal.returns-in-Err-clause-root
returns-in-Err-clause-root c = λ parameters of leaves le keeps empty.
    let size = c.args.kept.now.size in
    let rows = row_at c.args.kept.now in
    let same = c.new.ensures.hash ∙ table-node of in
    let stored = subst (λ (hash : NodeHash). IsStored hash rows) (sym same) (fewer-hashed-by keeps size le) in
    let error = SerializationError InvalidData in
    let Given : NodeHash → List Digest → Type 0 = λ hash list.
    (error ≡ OutOfMemory) ⊎ (merkle_tree_hash hash empty list ≡ Err error) in
    subst (Given (node_outcome parameters))
    (ap (λ n. take n (rows 0)) c.size.ensures.size ∙ fewer-first-by keeps size le)
    (subst (λ hash. Given hash (take c.size.result (rows 0))) same (c.in-Err.ensures.root stored empty))

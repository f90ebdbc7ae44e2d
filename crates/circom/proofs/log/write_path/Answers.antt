use Rattle.std.proofs.Common.{◌≡◌, ◌⊎◌, List, take, Ok, Err, ap, subst, sym, ◌∙◌, arith}
use Rattle.ark_base.specs.Outcome.{Outcome}
use Rattle.ark_base.specs.declared.error.Error.TheVariants.{OutOfMemory, SerializationError}
use Rattle.ark_base.specs.declared.error.SerializationError.TheVariants.{InvalidData}
use Rattle.ark_paths.specs.Pair.{Digest}
use Rattle.merkle_log.specs.Log.{NodeHash}
use Rattle.merkle_log.specs.Stored.{IsStored, row_at}
use Rattle.merkle_log.proofs.KeptRows.{fewer-first-by, fewer-hashed-by}
use Rattle.merkle_log.proofs.Making.{map-itself}
use Rattle.merkle_log.proofs.Positions.{length-row_of}
use Rattle.circom.proofs.Lists.{path-same}
use Rattle.circom.proofs.Outcomes.{table-node}
use Rattle.circom.proofs.log.write_path.Goals as goal

pub inclusion_path_of-requires-clause-within : goal.inclusion_path_of-requires-clause-within
inclusion_path_of-requires-clause-within c = omega (arith, c.size.ensures.size, length-row_of c.args.kept.now 0)

pub returns-in-Ok : goal.returns-in-Ok
returns-in-Ok c = λ parameters of leaves le keeps empty.
    let size = c.args.kept.now.size in
    let rows = row_at c.args.kept.now in
    let same = c.new.ensures.hash ∙ table-node of in
    let stored = subst (λ (hash : NodeHash). IsStored hash rows) (sym same) (fewer-hashed-by keeps size le) in
    path-same empty c.args.index same (ap (λ n. take n (rows 0)) c.size.ensures.size
    ∙ fewer-first-by keeps size le) ∙ c.in-Ok.ensures.path stored empty ∙ ap Ok (map-itself _)

pub returns-in-Err : goal.returns-in-Err
returns-in-Err c = λ parameters of leaves le keeps empty.
    let size = c.args.kept.now.size in
    let rows = row_at c.args.kept.now in
    let same = c.new.ensures.hash ∙ table-node of in
    let stored = subst (λ (hash : NodeHash). IsStored hash rows) (sym same) (fewer-hashed-by keeps size le) in
    let error = SerializationError InvalidData in
    rw (c.from.ensures)
    (subst (λ (outcome : Outcome (List Digest)). (error ≡ OutOfMemory) ⊎ (outcome ≡ Err error))
    (sym (path-same empty c.args.index same (ap (λ n. take n (rows 0)) c.size.ensures.size
    ∙ fewer-first-by keeps size le))) (c.in-Err.ensures.path stored empty))

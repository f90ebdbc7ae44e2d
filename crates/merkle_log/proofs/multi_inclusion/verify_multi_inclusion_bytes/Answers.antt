use Rattle.std.proofs.Common.{◌≡◌, true, arith, sym, ◌∙◌}
use Rattle.ark_base.proofs.Refusals.{passed_on}
use Rattle.merkle_log.specs.Multi.{are_multi_indexes}
use Rattle.merkle_log.proofs.Answered.{answered-bound}
use Rattle.merkle_log.proofs.MultiLeaves.{leaves-read, received-leaves}
use Rattle.merkle_log.proofs.multi_inclusion.verify_multi_inclusion_bytes.Goals as goal

pub returns-in_err-proof-clause-answer : goal.returns-in_err-proof-clause-answer
returns-in_err-proof-clause-answer g c =
    let form : are_multi_indexes c.args.size c.args.indexes.now ≡ true
    = sym c.are_multi_indexes.ensures ∙ c.if-not-are_multi_indexes.false in
    passed_on _ _ c.from_residual.result c.in_err-proof.field-0.0 c.from_residual.ensures.1 c.in_err-proof.ensures
    (λ refused. leaves-read _ _ _ c.multi_length.ensures refused (g.T.TreeHasher.hashes c.args.hasher.now)
    (g.D.Numbered.numbers c.args.root.now) c.args.size
    c.args.indexes.now c.args.leaves.now form (omega arith))

pub returns-clause-answer : goal.returns-clause-answer
returns-clause-answer g c =
    let form : are_multi_indexes c.args.size c.args.indexes.now ≡ true
    = sym c.are_multi_indexes.ensures ∙ c.if-not-are_multi_indexes.false in
    rw (leaves-read _ _ _ c.multi_length.ensures c.in_ok-proof.ensures (g.T.TreeHasher.hashes c.args.hasher.now)
    (g.D.Numbered.numbers c.args.root.now)
    c.args.size c.args.indexes.now c.args.leaves.now form (omega arith))
    (rw (c.deref.ensures.value) at c.verify_multi_inclusion.ensures.answer)

pub returns-clause-bound : goal.returns-clause-bound
returns-clause-bound g c = answered-bound _ _ (received-leaves (g.T.TreeHasher.hashes c.args.hasher.now) _ _ _ _ _)
    (returns-clause-answer g c)

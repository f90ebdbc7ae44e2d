use Rattle.std.proofs.Common.{false, length, map, Ok}
use Rattle.ark_base.proofs.Refusals.{passed_on}
use Rattle.merkle_log.proofs.Answered.{answered-bound, answered-own}
use Rattle.merkle_log.proofs.MultiLeaves.{counts-seen, leaves-bound, leaves-gives, leaves-own, leaves-refused, leaves-uncounted}
use Rattle.merkle_log.proofs.multi_inclusion.verify_multi_inclusion.Goals as goal

pub returns-then-not-have_counts-clause-answer : goal.returns-then-not-have_counts-clause-answer
returns-then-not-have_counts-clause-answer g c = leaves-uncounted (g.T.TreeHasher.hashes c.args.hasher.now)
    (g.D.Numbered.numbers c.args.root.now) c.args.size c.args.indexes.now c.args.leaves.now
    (map g.D.Numbered.numbers c.args.proof.now) (counts-seen g.D.Numbered.numbers c.args.size c.args.indexes.now (length
    c.args.leaves.now) c.args.proof.now c.have_counts.ensures.form c.if-not-have_counts.true)

pub returns-then-not-have_counts-clause-own : goal.returns-then-not-have_counts-clause-own
returns-then-not-have_counts-clause-own g c own = answered-own _ (Ok false) (leaves-own (g.T.TreeHasher.hashes
    c.args.hasher.now)
    (g.D.Numbered.numbers c.args.root.now) c.args.size c.args.indexes.now c.args.leaves.now
    (map g.D.Numbered.numbers c.args.proof.now) own)
    (returns-then-not-have_counts-clause-answer g c)

pub returns-in_err-digests-clause-answer : goal.returns-in_err-digests-clause-answer
returns-in_err-digests-clause-answer g c =
    passed_on _ _ c.from_residual.result c.in_err-digests.field-0.0 c.from_residual.ensures.1 c.in_err-digests.ensures
    (λ refused. leaves-refused (g.T.TreeHasher.hashes c.args.hasher.now)
    (g.D.Numbered.numbers c.args.root.now) c.args.size c.args.indexes.now c.args.leaves.now
    (map g.D.Numbered.numbers c.args.proof.now) (counts-seen g.D.Numbered.numbers c.args.size c.args.indexes.now (length
    c.args.leaves.now) c.args.proof.now c.have_counts.ensures.form c.if-not-have_counts.false) refused)

pub returns-in_err-digests-clause-own : goal.returns-in_err-digests-clause-own
returns-in_err-digests-clause-own g c own = answered-own _ c.from_residual.result (leaves-own (g.T.TreeHasher.hashes
    c.args.hasher.now)
    (g.D.Numbered.numbers c.args.root.now) c.args.size c.args.indexes.now c.args.leaves.now
    (map g.D.Numbered.numbers c.args.proof.now) own)
    (returns-in_err-digests-clause-answer g c)

pub returns-clause-answer : goal.returns-clause-answer
returns-clause-answer g c =
    rw (leaves-gives (g.T.TreeHasher.hashes c.args.hasher.now)
    (g.D.Numbered.numbers c.args.root.now) c.args.size c.args.indexes.now c.args.leaves.now
    (map g.D.Numbered.numbers c.args.proof.now) (counts-seen g.D.Numbered.numbers c.args.size c.args.indexes.now (length
    c.args.leaves.now) c.args.proof.now c.have_counts.ensures.form c.if-not-have_counts.false) c.in_ok-digests.ensures)
    (rw (c.deref.ensures.value) at c.verify_multi_inclusion_digests.ensures.answer)

pub returns-clause-bound : goal.returns-clause-bound
returns-clause-bound g c = answered-bound _ c.verify_multi_inclusion_digests.result (leaves-bound
    (g.T.TreeHasher.hashes c.args.hasher.now)
    (g.D.Numbered.numbers c.args.root.now) c.args.size c.args.indexes.now c.args.leaves.now
    (map g.D.Numbered.numbers c.args.proof.now))
    (returns-clause-answer g c)

pub returns-clause-own : goal.returns-clause-own
returns-clause-own g c own = answered-own _ c.verify_multi_inclusion_digests.result (leaves-own (g.T.TreeHasher.hashes
    c.args.hasher.now)
    (g.D.Numbered.numbers c.args.root.now) c.args.size c.args.indexes.now c.args.leaves.now
    (map g.D.Numbered.numbers c.args.proof.now) own)
    (returns-clause-answer g c)

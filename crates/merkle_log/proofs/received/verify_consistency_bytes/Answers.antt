use Rattle.std.proofs.Common.{arith}
use Rattle.ark_base.proofs.Refusals.{passed_on}
use Rattle.merkle_log.proofs.Answered.{answered-bound}
use Rattle.merkle_log.proofs.Receiving.{consistency-read, received-front}
use Rattle.merkle_log.proofs.received.verify_consistency_bytes.Goals as goal

pub returns-in_err-path-clause-answer : goal.returns-in_err-path-clause-answer
returns-in_err-path-clause-answer g c =
    passed_on _ _ c.from_residual.result c.in_err-path.field-0.0 c.from_residual.ensures.1 c.in_err-path.ensures
    (λ refused. consistency-read _ _ _ c.consistency_length.ensures refused
    (g.T.TreeHasher.hashes c.args.hasher.now).pair.upper
    c.args.old_size (g.D.Numbered.numbers c.args.old_root.now) c.args.new_size
    (g.D.Numbered.numbers c.args.new_root.now) (omega arith) (omega arith))

pub returns-clause-answer : goal.returns-clause-answer
returns-clause-answer g c =
    rw (consistency-read _ _ _ c.consistency_length.ensures c.in_ok-path.ensures
    (g.T.TreeHasher.hashes c.args.hasher.now).pair.upper c.args.old_size (g.D.Numbered.numbers c.args.old_root.now)
    c.args.new_size (g.D.Numbered.numbers c.args.new_root.now) (omega arith) (omega arith))
    (rw (c.deref.ensures.value) at c.verify_consistency.ensures.answer)

pub returns-clause-bound : goal.returns-clause-bound
returns-clause-bound g c = answered-bound _ _ (received-front (g.T.TreeHasher.hashes c.args.hasher.now).pair.upper _ _ _
    _ _) (returns-clause-answer g c)

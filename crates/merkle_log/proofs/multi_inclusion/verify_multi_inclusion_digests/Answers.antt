use Rattle.std.proofs.Common.{Ok}
use Rattle.ark_base.proofs.Refusals.{passed_on}
use Rattle.merkle_log.specs.Multi.{known_of}
use Rattle.merkle_log.proofs.Answered.{answered-bound, answered-own}
use Rattle.merkle_log.proofs.MultiBound.{multi-bound}
use Rattle.merkle_log.proofs.MultiLeaves.{not-refused}
use Rattle.merkle_log.proofs.MultiOwn.{multi-own}
use Rattle.merkle_log.proofs.multi_inclusion.verify_multi_inclusion_digests.Goals as goal

pub returns-in_err-shown-clause-own : goal.returns-in_err-shown-clause-own
returns-in_err-shown-clause-own g c own =
    passed_on _ _ c.from_residual.result c.in_err-shown.field-0.0 c.from_residual.ensures.1
    c.in_err-shown.ensures.answer
    (λ refused. not-refused (multi-own (g.T.TreeHasher.hashes c.args.hasher.now).pair.upper
    (g.D.Numbered.numbers c.args.root.now) c.args.size (known_of g.D.Numbered.numbers c.args.indexes.now
    c.args.digests.now c.args.proof.now) own) refused)

pub returns-clause-bound : goal.returns-clause-bound
returns-clause-bound g c = answered-bound _ (Ok c.in_ok-shown.shown) (multi-bound
    (g.T.TreeHasher.hashes c.args.hasher.now).pair.upper (g.D.Numbered.numbers c.args.root.now) c.args.size (known_of
    g.D.Numbered.numbers c.args.indexes.now c.args.digests.now c.args.proof.now)) c.in_ok-shown.ensures.answer

pub returns-clause-own : goal.returns-clause-own
returns-clause-own g c own = answered-own _ (Ok c.in_ok-shown.shown) (multi-own
    (g.T.TreeHasher.hashes c.args.hasher.now).pair.upper (g.D.Numbered.numbers c.args.root.now) c.args.size (known_of
    g.D.Numbered.numbers c.args.indexes.now c.args.digests.now c.args.proof.now) own) c.in_ok-shown.ensures.answer

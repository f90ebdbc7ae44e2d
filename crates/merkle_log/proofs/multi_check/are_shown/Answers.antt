use Rattle.std.proofs.Common.{arith, sym, ap, ◌∙◌}
use Rattle.merkle_log.specs.Append.{counted_after}
use Rattle.merkle_log.proofs.Givens.{given_on}
use Rattle.merkle_log.proofs.MultiCounts.{around-levels}
use Rattle.merkle_log.proofs.MultiHashing.{no-pairs, no-verdict, pairs-hashed, verdict-refused, verdict-gives}
use Rattle.merkle_log.proofs.multi_check.are_shown.Goals as goal

pub hash_known-requires-clause-proof : goal.hash_known-requires-clause-proof
hash_known-requires-clause-proof g c =
    let told = c.if-not-have_counts.false in
    omega (
      arith,
      c.have_counts.ensures.proof told,
      around-levels c.args.size c.levels_above.result c.args.indexes.now
          c.levels_above.ensures.covers,
    )

pub returns-in_err-hashed-clause-answer : goal.returns-in_err-hashed-clause-answer
returns-in_err-hashed-clause-answer g c =
    let told = c.if-not-have_counts.false in
    given_on _ _ _ c.from_residual.result c.in_err-hashed.field-0.0 c.from_residual.ensures.1
    c.in_err-hashed.ensures.hashed (λ refused. verdict-refused g.D.Numbered.numbers
    (g.H.NodeHasher.hash c.args.hasher.now) (g.D.Numbered.numbers c.args.root.now) c.args.size c.levels_above.result
    c.args.indexes.now c.args.leaves.now c.args.proof.now c.levels_above.ensures.covers (c.have_counts.ensures.indexes
    told) (c.have_counts.ensures.leaves
    told) (c.have_counts.ensures.proof told)
    refused)

pub returns-clause-answer : goal.returns-clause-answer
returns-clause-answer g c =
    let told = c.if-not-have_counts.false in
    verdict-gives g.D.Numbered.numbers (g.H.NodeHasher.hash c.args.hasher.now) (g.D.Numbered.numbers c.args.root.now)
    c.args.size c.levels_above.result c.args.indexes.now c.args.leaves.now c.args.proof.now
    c.levels_above.ensures.covers (c.have_counts.ensures.indexes told) (c.have_counts.ensures.leaves
    told) (c.have_counts.ensures.proof told) c.in_ok-hashed.ensures.hashed c.digest_known.ensures
    c.are_same.ensures

pub returns-clause-counts : goal.returns-clause-counts
returns-clause-counts g c =
    let told = c.if-not-have_counts.false in
    c.in_ok-hashed.ensures.counts ∙ ap (counted_after (g.H.NodeHasher.counted c.args.hasher.now)) (pairs-hashed
    g.D.Numbered.numbers c.args.size c.args.indexes.now c.args.leaves.now c.args.proof.now c.levels_above.result
    c.levels_above.ensures.covers (c.have_counts.ensures.indexes told) (c.have_counts.ensures.leaves
    told) (c.have_counts.ensures.proof told))

pub returns-then-not-have_counts-clause-answer : goal.returns-then-not-have_counts-clause-answer
returns-then-not-have_counts-clause-answer g c =
    no-verdict g.D.Numbered.numbers c.args.size c.args.indexes.now c.args.leaves.now
    c.args.proof.now (g.H.NodeHasher.hash c.args.hasher.now) (g.D.Numbered.numbers c.args.root.now)
    (sym c.have_counts.ensures.form ∙ c.if-not-have_counts.true)

pub returns-then-not-have_counts-clause-counts : goal.returns-then-not-have_counts-clause-counts
returns-then-not-have_counts-clause-counts g c =
    no-pairs g.D.Numbered.numbers c.args.size c.args.indexes.now c.args.leaves.now
    c.args.proof.now (sym c.have_counts.ensures.form ∙ c.if-not-have_counts.true)
    (g.H.NodeHasher.counted c.args.hasher.now) c.requires

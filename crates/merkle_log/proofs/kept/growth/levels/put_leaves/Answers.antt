use Rattle.std.proofs.Common.{◌∙◌, length, refl, arith}
use Rattle.merkle_log.proofs.Levels.{leaf-spot, lies-next}
use Rattle.merkle_log.proofs.kept.growth.levels.put_leaves.Goals as goal

pub put_at-requires-clause-lacks : goal.put_at-requires-clause-lacks
put_at-requires-clause-lacks c = (leaf-spot c.args.size c.leaves.place (length c.args.digests.now)
    (length c.args.more.now) (omega arith) c.requires.room).0

pub put_at-requires-clause-inside : goal.put_at-requires-clause-inside
put_at-requires-clause-inside c =
    let spot = leaf-spot c.args.size c.leaves.place (length c.args.digests.now) (length c.args.more.now) (omega arith)
    c.requires.room in
    omega (arith, spot.1, c.leaves.invariant.same)

pub leaves-preserved : goal.leaves-preserved
leaves-preserved c =
    let spot = leaf-spot c.args.size c.leaves.place (length c.args.digests.now) (length c.args.more.now) (omega arith)
    c.requires.room in
    record {
      same = c.put_at.ensures.same ∙ c.leaves.invariant.same;
      lies = λ kept long. rw (c.put_at.ensures.written) (lies-next kept c.leaves.more c.args.digests.now
          c.args.size (c.leaves.invariant.lies kept long) long spot.0
          (omega (arith, spot.1, c.leaves.invariant.same)) refl);
    }

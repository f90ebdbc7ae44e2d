use Rattle.std.proofs.Common.{length, arith}
use Rattle.ark_merkle.proofs.LevelOrder.{count-fits, length-seen}
use Rattle.ark_merkle.proofs.tree.levels.Levels.len.Goals as goal

pub returns : goal.returns
returns g c = record {
  count = length-seen g.D.Numbered.numbers c.self.inside.digests _ _ c.self.view_is c.self.invariant;
  most = count-fits _ (length c.self.inside.digests.items) c.self.invariant (omega (arith, c.self.inside.digests.ok.0));
}

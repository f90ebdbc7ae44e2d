use Rattle.std.proofs.Common.{arith}
use Rattle.ark_merkle.proofs.LevelOrder.{is_position, at-inside, at-read}
use Rattle.ark_merkle.proofs.tree.levels.Levels.at.Goals as goal

pub position-requires : goal.position-requires
position-requires g c = is_position g.D.Numbered.numbers c.self.inside.digests _ _ c.self.view_is c.self.invariant _
    c.requires.row _ c.requires.place (omega (arith, c.self.inside.digests.ok.0))

pub index-requires : goal.index-requires
index-requires g c = at-inside g.D.Numbered.numbers c.self.inside.digests _ _ c.self.view_is c.self.invariant _
    c.requires.row _ c.requires.place _ c.position.ensures

pub returns : goal.returns
returns g c = at-read g.D.Numbered.numbers c.self.inside.digests _ _ c.self.view_is c.self.invariant _ c.requires.row _
    c.requires.place _ c.position.ensures c.index.result.now c.index.ensures

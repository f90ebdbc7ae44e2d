use Rattle.std.proofs.Common.{arith}
use Rattle.ark_merkle.proofs.LevelOrder.{is_position, at-inside, at-written}
use Rattle.ark_merkle.proofs.tree.levels.Levels.exchange.Goals as goal

pub position-requires : goal.position-requires
position-requires g c = is_position g.D.Numbered.numbers c.self.inside.digests _ _ c.self.view_is c.self.invariant _
    c.requires.row _ c.requires.place (omega (arith, c.self.inside.digests.ok.0))

pub index_mut-requires : goal.index_mut-requires
index_mut-requires g c = at-inside g.D.Numbered.numbers c.self.inside.digests _ _ c.self.view_is c.self.invariant _
    c.requires.row _ c.requires.place _ c.position.ensures

pub returns : goal.returns
returns g c = rw (← c.swap.ensures.x_after) (at-written g.D.Numbered.numbers c.self.inside.digests _ _ c.self.view_is
    c.self.invariant _ c.requires.row _ c.requires.place _ c.position.ensures c.swap.new.x)

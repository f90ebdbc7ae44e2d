use Rattle.std.proofs.Common.{length, arith}
use Rattle.ark_merkle.proofs.LevelOrder.{count-fits, row-below, row-ends, row-read}
use Rattle.ark_merkle.proofs.tree.levels.Levels.row.Goals as goal

pub position-first-requires-clause-count : goal.position-first-requires-clause-count
position-first-requires-clause-count g c =
    count-fits _ (length c.self.inside.digests.items) c.self.invariant (omega (arith, c.self.inside.digests.ok.0))

pub position-first-requires-clause-row : goal.position-first-requires-clause-row
position-first-requires-clause-row g c =
    row-below g.D.Numbered.numbers c.self.inside.digests _ _ c.self.view_is c.self.invariant _ c.requires

pub overflow_add-first : goal.overflow_add-first
overflow_add-first g c =
    let ends = row-ends g.D.Numbered.numbers c.self.inside.digests _ _ c.self.view_is c.self.invariant _ c.requires _
    c.position-first.ensures in
    omega (arith, c.self.inside.digests.ok.0)

pub part_of-requires : goal.part_of-requires
part_of-requires g c = rw c.deref.ensures.value (row-ends g.D.Numbered.numbers c.self.inside.digests _ _ c.self.view_is
    c.self.invariant _ c.requires _ c.position-first.ensures)

pub returns : goal.returns
returns g c = row-read g.D.Numbered.numbers c.self.inside.digests _ _ c.self.view_is c.self.invariant _ c.requires _
    c.position-first.ensures c.deref.result.now c.part_of.result.now c.deref.ensures.value c.part_of.ensures

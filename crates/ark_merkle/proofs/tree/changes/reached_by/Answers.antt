use Rattle.std.proofs.Common.{◌/◌, ◌*◌, ◌+◌, ◌<◌, ◌∙◌, length, map, sym, arith}
use Rattle.ark_merkle.proofs.Reached.{IsAlone, reached-last, reached-apart, couple-inside, couple-right, couple-left}
use Rattle.ark_merkle.proofs.tree.changes.reached_by.Goals.{else-next-changes-via-then-next-changes+else-changes-next, else-next-changes-via-else-next-changes, After-index-changes-next, Joined-else-next-changes}
use Rattle.ark_merkle.proofs.tree.changes.reached_by.Goals as goal

-- both digests of the couple stand in the row
inside : (g : _) (c : After-index-changes-next g) → 2 * (c.index-changes-next.result.0 / 2) + 1 < length c.args.row.now
inside g c = couple-inside c.args.changes.now c.args.next _ c.requires.next c.index-changes-next.is _ c.requires.even
    c.requires.changes

-- no other change reaches it
alone : (g : _) (c : Joined-else-next-changes g) → IsAlone g.D.Numbered.numbers
    (map g.D.Numbered.numbers c.args.row.now) c.args.changes.now c.args.next c.index-changes-next.result
alone g c = elim c.else-next-changes.branch [
  | else-next-changes-via-then-next-changes+else-changes-next w ↦ reached-apart _ c.args.next _ c.requires.next
      c.index-changes-next.is _ _ _ w.if-next-changes.true w.index-changes-next-then-next-changes.is
      w.if-changes-next.false
  | else-next-changes-via-else-next-changes w ↦ reached-last _ _ _ c.requires.next c.index-changes-next.is _ _
      (omega (arith, w.if-next-changes.false))
]

pub offset_bounds-row-place : goal.offset_bounds-row-place
offset_bounds-row-place g c = omega (arith, inside g (goal.at.offset_bounds-row-place g c).After-index-changes-next)

pub bounds-row-place : goal.bounds-row-place
bounds-row-place g c = omega (arith, inside g (goal.at.bounds-row-place g c).After-index-changes-next)

pub offset_bounds-row-place-else-is_bit_set : goal.offset_bounds-row-place-else-is_bit_set
offset_bounds-row-place-else-is_bit_set g c =
    omega (arith, inside g (goal.at.offset_bounds-row-place-else-is_bit_set g c).After-index-changes-next)

pub bounds-row-place-else-is_bit_set : goal.bounds-row-place-else-is_bit_set
bounds-row-place-else-is_bit_set g c =
    inside g (goal.at.bounds-row-place-else-is_bit_set g c).After-index-changes-next

pub returns-then-is_bit_set-clause-reached : goal.returns-then-is_bit_set-clause-reached
returns-then-is_bit_set-clause-reached g c =
    let stands = inside g (goal.at.returns-then-is_bit_set-clause-reached g c).After-index-changes-next in
    rw (couple-right g.D.Numbered.numbers c.args.row.now _ _ _ (omega arith) c.index-row-place.is
    (sym c.is_bit_set.ensures ∙ c.if-is_bit_set.true)) at
    (alone g (goal.at.returns-then-is_bit_set-clause-reached g c).Joined-else-next-changes)

pub returns-else-is_bit_set-clause-reached : goal.returns-else-is_bit_set-clause-reached
returns-else-is_bit_set-clause-reached g c =
    rw (couple-left g.D.Numbered.numbers c.args.row.now _ _ _
    (inside g (goal.at.returns-else-is_bit_set-clause-reached g c).After-index-changes-next)
    c.index-row-place-else-is_bit_set.is (sym c.is_bit_set.ensures ∙ c.if-is_bit_set.false)) at
    (alone g (goal.at.returns-else-is_bit_set-clause-reached g c).Joined-else-next-changes)

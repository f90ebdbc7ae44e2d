use Rattle.std.proofs.Common.{◌≡◌, ◌<◌, ◌^◌, Ok, get_or, map, [], List, arith, refl, subst, ap, sym, ◌∙◌}
use Rattle.ark_base.specs.Outcome.{AnswersBy, Outcome}
use Rattle.ark_paths.specs.Pair.{Digest}
use Rattle.incremental_trees.proofs.Halves.{room_left}
use Rattle.incremental_trees.proofs.Padded.{full-root, edge-root, answers-tree}
use Rattle.incremental_trees.proofs.tree.IncrementalTree.root.Goals as goal

pub returns-then-is_full-clause-tree : goal.returns-then-is_full-clause-tree
returns-then-is_full-clause-tree g c =
    let numbers = g.D.Numbered.numbers in
    let inside = c.self.inside in
    let view = c.self.view_is in
    let full : inside.size ≡ 2 ^ inside.depth =
    ap (λ t. t.size) view ∙ c.if-is_full.ensures.0 refl ∙ sym (ap (λ t. 2 ^ t.depth) view) in
    let lent = ap (λ (l : List g.row.D.Denot). Ok (get_or (map numbers l) inside.depth [])) c.deref.ensures.value in
    rw (← view) (λ h leaves deep same holds. answers-tree numbers c.copy_at.result h leaves same deep holds (λ own.
    subst (λ (o : Outcome Digest). AnswersBy numbers o c.copy_at.result)
    (lent ∙ sym (full-root own.filled (own.size_is ∙ full))) c.copy_at.ensures))

pub returns-clause-root : goal.returns-clause-root
returns-clause-root g c =
    let numbers = g.D.Numbered.numbers in
    let hash = g.T.LevelHasher.nodes c.self.inside.hasher in
    let inside = c.self.inside in
    let view = c.self.view_is in
    let room : inside.size < 2 ^ inside.depth = room_left inside.size (2 ^ inside.depth)
    (λ same. c.if-is_full.ensures.1 (sym (ap (λ t. t.size) view) ∙ same ∙ ap (λ t. 2 ^ t.depth) view))
    c.self.invariant.fits in
    rw (← view) (λ leaves holds. subst (λ (o : Outcome Digest). AnswersBy numbers o c.edge_node.result)
    (sym (edge-root hash _ leaves inside.size inside.depth room))
    (c.edge_node.ensures _ leaves inside.depth holds.size_is (omega arith) (rw c.deref-2.ensures.value holds.empties)
    (rw c.deref-3.ensures.value holds.filled)))

pub returns-clause-tree : goal.returns-clause-tree
returns-clause-tree g c =
    let numbers = g.D.Numbered.numbers in
    let hash = g.T.LevelHasher.nodes c.self.inside.hasher in
    let inside = c.self.inside in
    let view = c.self.view_is in
    let room : inside.size < 2 ^ inside.depth = room_left inside.size (2 ^ inside.depth)
    (λ same. c.if-is_full.ensures.1 (sym (ap (λ t. t.size) view) ∙ same ∙ ap (λ t. 2 ^ t.depth) view))
    c.self.invariant.fits in
    rw (← view) (λ h leaves deep same holds. answers-tree numbers c.edge_node.result h leaves same deep holds (λ own.
    subst (λ (o : Outcome Digest). AnswersBy numbers o c.edge_node.result)
    (sym (edge-root hash _ leaves inside.size inside.depth room))
    (c.edge_node.ensures _ leaves inside.depth own.size_is (omega arith) (rw c.deref-2.ensures.value own.empties)
    (rw c.deref-3.ensures.value own.filled))))

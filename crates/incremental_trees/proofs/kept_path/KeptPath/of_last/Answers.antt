use Rattle.std.proofs.Common.{◌≡◌, ◌+◌, ◌-◌, map, take, ap, sym, ◌∙◌, arith}
use Rattle.std.proofs.lemmas.List.{length-map, take-map}
use Rattle.ark_base.specs.Laws.Steps.{done_injective}
use Rattle.ark_base.specs.declared.error.Error.{Error}
use Rattle.ark_paths.specs.Rows.{digests_of}
use Rattle.incremental_trees.proofs.Besides.{last-kept}
use Rattle.incremental_trees.proofs.kept_path.KeptPath.of_last.Goals as goal

pub returns-clause-path : goal.returns-clause-path
returns-clause-path g c =
    let numbers = g.D.Numbered.numbers in
    let inside = c.tree.inside in
    let view = c.tree.view_is in
    let items = inside.filled.items in
    let last : inside.size - 1 + 1 ≡ inside.size = omega (arith, ap (λ t. t.size) view, c.requires) in
    let nodes : digests_of numbers c.in_ok-nodes.nodes ≡ take inside.depth (map numbers items) =
    sym (done_injective {E = Error} _ _ c.in_ok-nodes.ensures)
    ∙ ap (λ l. map numbers (take inside.depth l)) c.deref.ensures.value
    ∙ sym (take-map numbers inside.depth items) in
    rw (← view) (λ leaves holds. last-kept holds (length-map items numbers ∙ c.tree.invariant.filled)
    (inside.size - 1) last _ nodes)

use Rattle.std.proofs.Common.{◌<◌, [], length, map, get_or, Ok, ap, sym, ◌∙◌, arith}
use Rattle.std.proofs.lemmas.List.{length-map}
use Rattle.incremental_trees.proofs.completed.carried_copy.Goals as goal

pub returns-clause-node : goal.returns-clause-node
returns-clause-node g c = λ empty leaves long filled.
    let numbers = g.D.Numbered.numbers in
    let items = c.in_ok-nodes.nodes.items in
    let level = c.in_ok-nodes.level in
    let inside : level < length (map numbers items) =
    omega (arith, length-map items numbers, c.in_ok-nodes.ensures.count) in
    (c.in_ok-nodes.ensures.made empty leaves long filled).at level inside
    ∙ ap (λ l. Ok (get_or (map numbers l) level [])) (sym c.deref.ensures.value) ∙ c.in_ok-node.ensures

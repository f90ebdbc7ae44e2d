use Rattle.std.proofs.Common.{◌≤◌, ◌<◌, ℕ, [], length, map, set, get_or, ap, sym, ◌∙◌, arith}
use Rattle.std.proofs.lemmas.List.{length-map, map-set}
use Rattle.ark_base.specs.Laws.Steps.{done_injective}
use Rattle.ark_base.specs.declared.error.Error.{Error}
use Rattle.incremental_trees.proofs.Besides.{followed, unchanged}
use Rattle.incremental_trees.proofs.kept_path.KeptPath.follow.Goals as goal

pub returns-in_ok-node-clause-path : goal.returns-in_ok-node-clause-path
returns-in_ok-node-clause-path g c =
    let numbers = g.D.Numbered.numbers in
    let old = c.self.inside.nodes.items in
    let new = c.completed.inside.nodes.items in
    let count = c.fewer-count.result in
    let level = c.level_beside-level.result in
    let own_long = length-map old numbers in
    let new_long = length-map new numbers in
    let within : count ≤ length (map numbers old) = omega (arith, c.fewer-count.ensures, own_long, new_long) in
    let some : count ≤ length (map numbers new) = omega (arith, c.fewer-count.ensures, own_long, new_long) in
    let least = λ (k : ℕ) (a : k < length (map numbers old)) (b : k < length (map numbers new)).
    let both : k < count = omega (arith, c.fewer-count.ensures, own_long, new_long) in both in
    let node = sym (done_injective {E = Error} _ _ c.in_ok-node.ensures)
    ∙ ap (λ l. get_or (map numbers l) level []) c.deref.ensures.value in
    rw (← c.self.view_is, ← c.completed.view_is) (λ hash empty leaves leaf depth own made.
    followed leaf own made count within some least level c.level_beside-level.ensures.only _ c.if-level-count.true
    (c.level_beside-level.ensures.found c.if-level-count.true)
    (map-set numbers old level c.in_ok-node.node ∙ ap (set (map numbers old) level) node))

pub returns-else-level-count-clause-path : goal.returns-else-level-count-clause-path
returns-else-level-count-clause-path g c =
    let numbers = g.D.Numbered.numbers in
    let old = c.self.inside.nodes.items in
    let new = c.completed.inside.nodes.items in
    let count = c.fewer-count.result in
    let level = c.level_beside-level.result in
    let own_long = length-map old numbers in
    let new_long = length-map new numbers in
    let within : count ≤ length (map numbers old) = omega (arith, c.fewer-count.ensures, own_long, new_long) in
    let some : count ≤ length (map numbers new) = omega (arith, c.fewer-count.ensures, own_long, new_long) in
    let least = λ (k : ℕ) (a : k < length (map numbers old)) (b : k < length (map numbers new)).
    let both : k < count = omega (arith, c.fewer-count.ensures, own_long, new_long) in both in
    rw (← c.self.view_is, ← c.completed.view_is) (λ hash empty leaves leaf depth own made.
    unchanged leaf own made count within some least level c.level_beside-level.ensures.only c.if-level-count.false)

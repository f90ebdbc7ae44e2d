use Rattle.std.proofs.Common.{◌≤◌, ◌<◌, ◌-◌, ◌*◌, ◌^◌, length, map, ap, ◌∙◌, arith, inl, inr}
use Rattle.std.proofs.lemmas.Result.{err_from_is_err_and}
use Rattle.incremental_trees.proofs.LevelNodes.{node-read}
use Rattle.incremental_trees.proofs.Halves.{complete_inside, level_below}
use Rattle.incremental_trees.proofs.Carrying.{carried-first, carried-next, carried-refused, carries_to, carried-node}
use Rattle.incremental_trees.proofs.nodes.carry.Goals as goal

pub odd-init : goal.odd-init
odd-init g c =
    let numbers = g.D.Numbered.numbers in
    record {
      below = c.requires.some;
      carried = carried-first (g.T.LevelHasher.nodes c.args.hasher.now) (length c.args.filled.now - 1) c.args.size
          (numbers c.args.leaf) (map numbers c.args.filled.now);
    }

pub odd-preserved : goal.odd-preserved
odd-preserved g c =
    let numbers = g.D.Numbered.numbers in
    let hash = g.T.LevelHasher.nodes c.args.hasher.now in
    let read = node-read numbers c.args.filled.now c.odd.level c.index-filled-level.result c.odd.invariant.below
    c.index-filled-level.is in
    let one : 1 * 2 ^ c.odd.level ≤ c.args.size = complete_inside c.odd.level c.args.size 1
    (omega (arith, c.odd.invariant.carried.place)) in
    let lower : c.odd.level < length c.args.filled.now - 1 = level_below c.odd.level (length c.args.filled.now - 1)
    c.args.size one c.requires.room in
    record {
      below = omega arith;
      carried = carried-next c.odd.invariant.carried c.odd-test.true (omega arith) _
          (ap (λ d. hash c.odd.level d (numbers c.odd.node)) read ∙ c.in_ok-node.ensures);
    }

pub returns-in_err-node-clause-refused : goal.returns-in_err-node-clause-refused
returns-in_err-node-clause-refused g c =
    let numbers = g.D.Numbered.numbers in
    let hash = g.T.LevelHasher.nodes c.args.hasher.now in
    let read = node-read numbers c.args.filled.now c.odd.level c.index-filled-level.result c.odd.invariant.below
    c.index-filled-level.is in
    let result = err_from_is_err_and c.from_residual.result c.from_residual.ensures.1 in
    rw (result.1, result.2) (elim c.in_err-node.ensures [
      | inl memory ↦ inl memory
      | inr refused ↦ inr (carried-refused c.odd.invariant.carried c.odd-test.true
          (omega (arith, c.odd.invariant.below)) _
          (ap (λ d. hash c.odd.level d (numbers c.odd.node)) read ∙ refused))
    ])

pub returns-clause-place : goal.returns-clause-place
returns-clause-place g c = carries_to c.odd.invariant.carried (omega arith)

pub returns-clause-made : goal.returns-clause-made
returns-clause-made g c = carried-node c.odd.invariant.carried

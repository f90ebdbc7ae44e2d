use Rattle.std.proofs.Common.{◌≤◌, ◌+◌, ◌*◌, ◌/◌, ◌^◌, length, subst, sym, ◌∙◌, arith}
use Rattle.ark_base.specs.Outcome.{AnswersBy, Outcome}
use Rattle.ark_paths.specs.Index.{neighbour}
use Rattle.ark_paths.specs.Pair.{Digest}
use Rattle.incremental_trees.proofs.Halves.{place_outside, places_up}
use Rattle.incremental_trees.proofs.LevelNodes.{node-empty}
use Rattle.incremental_trees.proofs.kept_path.node_beside.Goals as goal

pub returns : goal.returns
returns g c = λ empty leaves depth long le empties filled own.
    let hash = g.T.LevelHasher.nodes c.args.hasher.now in
    let level = c.args.level in
    let place = neighbour (c.args.index / 2 ^ level) in
    let beyond : c.args.size / 2 ^ level + 1 ≤ place = omega (arith, c.beside-place.ensures) in
    let past : length leaves ≤ place * 2 ^ level = omega (
      arith,
      long,
      place_outside level c.args.size,
      places_up (c.args.size / 2 ^ level + 1) place level beyond,
    ) in
    subst (λ (o : Outcome Digest). AnswersBy g.D.Numbered.numbers o c.copy_at-2.result)
    (sym (node-empty hash empty leaves level place past ∙ empties.at level le)) c.copy_at-2.ensures

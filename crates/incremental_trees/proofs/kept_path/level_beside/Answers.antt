use Rattle.std.proofs.Common.{◌≡◌, ◌/◌, ◌^◌, sym, ◌∙◌, arith, inl, inr}
use Rattle.std.proofs.lemmas.Bool.{cases_lt}
use Rattle.ark_paths.specs.Index.{neighbour}
use Rattle.incremental_trees.proofs.Besides.{one-level}
use Rattle.incremental_trees.proofs.kept_path.level_beside.Goals as goal

pub returns-then-beside-other-clause-only : goal.returns-then-beside-other-clause-only
returns-then-beside-other-clause-only c = λ k below apart.
    let found : neighbour (c.args.index / 2 ^ c.loop-level.level) ≡ c.args.other / 2 ^ c.loop-level.level =
    sym c.beside.ensures ∙ c.if-beside-other.true in
    elim (cases_lt k c.loop-level.level) [
      | inl lower ↦ c.loop-level.invariant.none k lower
      | inr high ↦ one-level c.args.index c.args.other c.loop-level.level k found (omega arith)
    ]

use Rattle.std.proofs.lemmas.Result.{err_from_is_err_and}
use Rattle.ark_paths.proofs.multi_path.MultiPath.verify_counting.Goals as goal

pub returns-in_err-accepted-clause-answer : goal.returns-in_err-accepted-clause-answer
returns-in_err-accepted-clause-answer g c =
    let p = err_from_is_err_and c.from_residual.result c.from_residual.ensures.1 in (
      c.verify_next_with.new.leaves,
      rw (g.met.P.Views.hashes_are, ← c.new-hasher.ensures.pair, p.1, p.2)
          c.in_err-accepted.ensures.answer,
    )

pub returns-clause-answer : goal.returns-clause-answer
returns-clause-answer g c = (
  c.verify_next_with.new.leaves,
  rw (g.met.P.Views.hashes_are, ← c.new-hasher.ensures.pair)
      c.in_ok-accepted.ensures.answer,
)

pub returns-clause-exact : goal.returns-clause-exact
returns-clause-exact g c = λ yes. rw (g.met.P.Views.hashes_are, ← c.new-hasher.ensures.pair, c.calls.ensures)
    (rw c.new-hasher.ensures.none at (c.in_ok-accepted.ensures.exact yes))

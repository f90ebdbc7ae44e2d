use Rattle.std.proofs.Common.{refl, inl, inr}
use Rattle.ark_paths.proofs.StrictReadings.{memory_passed}
use Rattle.ark_paths.proofs.multi_path.places.next_place.Goals as goal

pub returns-in_default-clause-next : goal.returns-in_default-clause-next
returns-in_default-clause-next g c = inl (λ index. c.in_default.ensures _ index, refl, refl)

pub returns-in_default-next-clause-next : goal.returns-in_default-next-clause-next
returns-in_default-next-clause-next g c = inr (inl (rw c.in_default-next.is at c.next.ensures.steps, refl))

pub returns-in_err-extend-clause-next : goal.returns-in_err-extend-clause-next
returns-in_err-extend-clause-next g c =
    memory_passed _ _ c.from_residual.result c.in_err-extend.field-0.0 c.from_residual.ensures.1
    (inr (inr (c.in-Some-next.leaf, rw c.in-Some-next.is at c.next.ensures.steps, c.in_err-extend.ensures.memory)))

pub returns-clause-next : goal.returns-clause-next
returns-clause-next g c = (
  rw c.in-Some-next.is at c.next.ensures.steps,
  λ index. rw c.in_ok-extend.ensures.above
      (c.in-Some.ensures _ index),
)

pub returns-clause-can : goal.returns-clause-can
returns-clause-can g c = rw c.in-Some-next.is at c.next.ensures.goes.keeps

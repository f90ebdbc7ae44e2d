use Rattle.std.proofs.Common.{inr, refl}
use Rattle.ark_base.specs.Laws.Steps.{done_injective}
use Rattle.ark_paths.proofs.multi_path.MultiPath.check_strict.Goals as goal

pub returns-then-is_strict : goal.returns-then-is_strict
returns-then-is_strict g c = rw (g.met.P.Views.multi_way_is, ← c.deref.ensures.value, ← c.deref-2.ensures.value)
    (rw (← c.deref-3.ensures.value, ← c.deref-4.ensures.value) (rw (
      done_injective _ _ c.in_ok-is_strict.ensures,
      c.if-is_strict.true,
    ) refl))

pub returns-else-is_strict : goal.returns-else-is_strict
returns-else-is_strict g c = inr (rw (g.met.P.Views.multi_way_is, ← c.deref.ensures.value, ← c.deref-2.ensures.value)
    (rw (← c.deref-3.ensures.value, ← c.deref-4.ensures.value) (rw (
      done_injective _ _ c.in_ok-is_strict.ensures,
      c.if-is_strict.false,
    ) refl)))

use Rattle.std.proofs.Common.{◌≡◌, ℕ, inl, inr, slice_index_or, refl, ap, subst, arith}
use Rattle.std.proofs.lemmas.Bool.{cases_lt, and_parts, and_from, eqb-true, eq-eqb}
use Rattle.std.proofs.lemmas.List.{ext_get_or}
use Rattle.ark_schemes.proofs.prf.same.is_same_digest.Goals as goal

pub loop-i-init : goal.loop-i-init
loop-i-init c = (λ _ j below. absurd (omega arith), λ _. refl)

pub loop-i-preserved : goal.loop-i-preserved
loop-i-preserved c =
    let i = c.loop-i.i in
    let at = λ (j : ℕ). slice_index_or c.args.a.now j 0 ≡ slice_index_or c.args.b.now j 0 in (
      λ both j below. elim (cases_lt j i) [
        | inl less ↦ c.loop-i.invariant.0 (and_parts _ _ both).0 j less
        | inr more ↦
            let here : i ≡ j = omega (arith, below, more) in subst at here (eqb-true _ _ (and_parts _ _ both).1)
      ],
      λ each. and_from _ _ (c.loop-i.invariant.1 (λ j less. each j (omega (arith, less))))
          (eq-eqb _ _ (each i (omega arith))),
    )

pub returns : goal.returns
returns c = (
  λ is. ext_get_or 0 c.args.a.now c.args.b.now c.if-a-b.false
      (λ j below. c.loop-i.invariant.0 is j (omega (arith, below, c.loop-i-test.false))),
  λ e. c.loop-i.invariant.1 (λ j _. ap (λ s. slice_index_or s j 0) e),
)

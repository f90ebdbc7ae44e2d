use Rattle.std.proofs.Common.{◌≡◌, suc, ℕ, ◌+◌, sym, ◌∙◌, arith}
use Rattle.std.proofs.lemmas.Bool.Decides.{not_from_Decides}
use Rattle.ark_signatures.proofs.ShareSteps.{length-places, place_at, more_places, none_below}
use Rattle.ark_signatures.proofs.secret_shares.check_places.Goals as goal

more : (i : ℕ) → i + 1 ≡ suc i
more i = omega arith

pub returns-then-is_zero-clause-refused : goal.returns-then-is_zero-clause-refused
returns-then-is_zero-clause-refused g c =
    let value = g.F.Valued.value in
    let shares = c.args.shares.now in
    let l = c.loop-j-test.true in (
      omega (arith, l, length-places value shares),
      place_at value shares c.loop-j.j _ l ∙ c.is_zero.ensures.0 c.if-is_zero.true,
      c.loop-j.invariant,
    )

pub returns-then-eq-clause-refused : goal.returns-then-eq-clause-refused
returns-then-eq-clause-refused g c =
    let value = g.F.Valued.value in
    let shares = c.args.shares.now in
    let l = c.loop-j-test.true in
    let k = c.loop-i-test.true in (
      k,
      omega (arith, l, length-places value shares),
      place_at value shares c.loop-i.i _ (omega (arith, k, l))
          ∙ (g.met.F.Field.equal_if_same _ _).0 (sym c.eq.ensures ∙ c.if-eq.true)
          ∙ sym (place_at value shares c.loop-j.j _ l),
      c.loop-j.invariant,
    )

pub loop-i-preserved : goal.loop-i-preserved
loop-i-preserved g c =
    let value = g.F.Valued.value in
    let shares = c.args.shares.now in
    none_below _ c.loop-i.i (c.loop-i.i + 1) _ (more c.loop-i.i) c.loop-i.invariant
    (λ e. not_from_Decides c.eq.result (
      λ on. (g.met.F.Field.equal_if_same _ _).0 (sym c.eq.ensures ∙ on),
      λ h. c.eq.ensures ∙ (g.met.F.Field.equal_if_same _ _).1 h,
    )
    c.if-eq.false
    (sym (place_at value shares c.loop-i.i _ (omega (arith, c.loop-i-test.true, c.loop-j-test.true))) ∙ e))

pub loop-j-preserved : goal.loop-j-preserved
loop-j-preserved g c =
    let value = g.F.Valued.value in
    let shares = c.args.shares.now in
    let here = place_at value shares c.loop-j.j _ c.loop-j-test.true in
    more_places _ c.loop-j.j (c.loop-j.j + 1) c.loop-j.invariant (more c.loop-j.j)
    (λ e. not_from_Decides c.is_zero.result c.is_zero.ensures c.if-is_zero.false (sym here ∙ e))
    (λ i l e. c.loop-i.invariant i (omega (arith, l, c.loop-i-test.false)) (e ∙ here))

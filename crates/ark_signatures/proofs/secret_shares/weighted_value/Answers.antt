use Rattle.std.proofs.Common.{◌≡◌, ◌<◌, ◌≤◌, ◌+◌, ◌*◌, ◌%◌, ◌-◌, length, get_or, ℕ, refl, sym, ◌∙◌, ap, arith, take}
use Rattle.std.proofs.Common.{Bool, true, false, not, true≢false}
use Rattle.std.proofs.lemmas.List.{take_all}
use Rattle.std.specs.Bool.{Decides}
use Rattle.number_facts.proofs.SquareRoots.{inverse_by_fermat}
use Rattle.ark_signatures.specs.SecretShares.{share_places, lagrange_weight, ratio}
use Rattle.ark_signatures.proofs.Interpolation.{some_difference}
use Rattle.ark_signatures.proofs.ShareSteps.{length-places, place_at, fraction_begins, weight_skips, weight_takes}
use Rattle.ark_signatures.proofs.ShareSteps.{same_fraction, fractions_product, ratio_fraction, some_product}
use Rattle.ark_signatures.proofs.secret_shares.weighted_value.Goals as goal
use Rattle.ark_signatures.proofs.secret_shares.weighted_value.Goals.{then-ne, else-ne}

-- what a test for a difference says
differs : {P : Type 0} (b r : Bool) → Decides b P → r ≡ not b → r ≡ true → P → ⊥
differs b r told is on holds = true≢false (sym on ∙ is ∙ ap not (told.1 holds))

agrees : {P : Type 0} (b r : Bool) → Decides b P → r ≡ not b → r ≡ false → P
agrees true r told is off = told.0 refl
agrees false r told is off = absurd (true≢false (sym is ∙ off))

two_below : (m : ℕ) → 2 < m → 2 ≤ m
two_below m l = omega arith

some : (m z x : ℕ) → z < m → x < m → (z ≡ x → ⊥) → (d : ℕ) → d ≡ (z + (m - x)) % m → d ≡ 0 → ⊥
some m z x zl xl other d is none = some_difference m z x zl xl other (sym is ∙ none)

pub loop-other-init : goal.loop-other-init
loop-other-init g c = record {
  fraction = fraction_begins g.F.Field.MODULUS (g.F.Valued.value c.args.share.place) _ _ _ refl
      c.one-denominator.ensures;
  divisor = λ e. absurd (clash (sym c.one-denominator.ensures ∙ e));
}
  where
    clash : ◌≡◌ {A = ℕ} 1 0 → ⊥
    clash e = omega (arith, e)

pub loop-other-preserved : goal.loop-other-preserved
loop-other-preserved g c =
    let value = g.F.Valued.value in
    let m = g.F.Field.MODULUS in
    let shares = c.args.shares.now in
    let places = share_places value shares in
    let l = c.loop-other in
    let i = l.other-index in
    let other = c.other-item.result in
    let x = value c.args.share.place in
    let z = value other.place in
    let y = value c.args.share.value in
    let roots = g.met.F.InvertibleField.roots in
    let below = g.met.F.Field.laws.below in
    let within : i < length places = omega (arith, c.loop-other-test.true, length-places value shares) in
    let here : get_or places i 0 ≡ z =
    place_at value shares i other c.loop-other-test.true ∙ ap (λ t. value t.place) (sym c.other-item.is) in
    let told = g.met.F.Field.equal_if_same other.place c.args.share.place in
    elim c.if-ne.branch [
      | then-ne w ↦
          let apart = differs _ c.ne.result told c.ne.ensures w.if-ne.true in record {
            fraction = ap (λ t. value t % m) w.numerator-is
                ∙ same_fraction m (y * lagrange_weight m (take i places) x * ratio m z x) _
                (value w.mul-numerator.result, value w.mul-denominator.result)
                (weight_takes m places i z x y within here apart)
                (fractions_product m _ _ (value l.numerator, value l.denominator) (z, value w.sub.result) _
                l.invariant.fraction
                (ratio_fraction m (two_below m roots.odd) (inverse_by_fermat m _ _ _ roots) z x _ (below _) (below _)
                apart w.sub.ensures)
                w.mul-numerator.ensures w.mul-denominator.ensures)
                ∙ ap (λ t. y * lagrange_weight m (take (i + 1) places) x * value t % m) (sym w.denominator-is);
            divisor = λ e. some_product m (value l.denominator) (value w.sub.result) roots.prime (below _) (below _)
                l.invariant.divisor (some m z x (below _) (below _) apart (value w.sub.result) w.sub.ensures)
                (sym w.mul-denominator.ensures ∙ ap value (sym w.denominator-is) ∙ e);
          }
      | else-ne w ↦ record {
        fraction = ap (λ t. value t % m) w.numerator-is
            ∙ l.invariant.fraction
            ∙ ap (λ t. y * t * value l.denominator % m)
            (sym (weight_skips m places i x within (here ∙ agrees _ c.ne.result told c.ne.ensures w.if-ne.false)))
            ∙ ap (λ t. y * lagrange_weight m (take (i + 1) places) x * value t % m) (sym w.denominator-is);
        divisor = λ e. l.invariant.divisor (ap value (sym w.denominator-is) ∙ e);
      }
    ]

pub returns-clause-fraction : goal.returns-clause-fraction
returns-clause-fraction g c =
    let value = g.F.Valued.value in
    let places = share_places value c.args.shares.now in
    c.loop-other.invariant.fraction
    ∙ ap (λ t. value c.args.share.value * lagrange_weight g.F.Field.MODULUS t (value c.args.share.place)
    * value c.loop-other.denominator % g.F.Field.MODULUS)
    (take_all c.loop-other.other-index places
    (omega (arith, c.loop-other-test.false, length-places value c.args.shares.now)))

pub returns-clause-divisor : goal.returns-clause-divisor
returns-clause-divisor g c = c.loop-other.invariant.divisor

use Rattle.std.proofs.Common.{◌≡◌, ◌<◌, ◌≤◌, ◌+◌, ◌*◌, ◌%◌, suc, length, map, ◌∷◌, ℕ, sym, ◌∙◌, ap, ap₂, arith}
use Rattle.std.proofs.Common.{mod-eq_of_lt}
use Rattle.std.proofs.lemmas.List.{take_all, length-map}
use Rattle.number_facts.proofs.SquareRoots.{inverse_by_fermat}
use Rattle.ark_signatures.specs.SecretShares.{places_of, numbers_of_shares, lagrange_sum, value_at_zero, polynomial_value}
use Rattle.ark_signatures.proofs.Recovering.{weighted_below, sum_is_secret}
use Rattle.ark_signatures.proofs.ShareSteps.{length-places, length-numbers, numbers_at, places_below, some_product}
use Rattle.ark_signatures.proofs.ShareSteps.{same_fraction, fractions_sum, quotient, sum_takes}
use Rattle.ark_signatures.proofs.secret_shares.recover.Goals as goal

one_below : (m : ℕ) → 2 < m → 1 < m
one_below m l = omega arith

pub loop-share-preserved : goal.loop-share-preserved
loop-share-preserved g c =
    let value = g.F.Valued.value in
    let m = g.F.Field.MODULUS in
    let shares = c.args.shares.now in
    let numbers = numbers_of_shares value shares in
    let l = c.loop-share in
    let share = c.share-item.result in
    let below = g.met.F.Field.laws.below in record {
      fraction = same_fraction m _ _ (value c.add-numerator.result, value c.mul-denominator.result)
          (sum_takes m (places_of numbers) numbers l.share-index (value share.place, value share.value)
          (omega (arith, c.loop-share-test.true, length-numbers value shares))
          (numbers_at value shares l.share-index share _ c.loop-share-test.true c.share-item.is))
          (fractions_sum m _ _ (value l.numerator, value l.denominator)
          (value c.weighted_value-above.result.0, value c.weighted_value-above.result.1) _
          l.invariant.fraction c.weighted_value-above.ensures.fraction
          (c.add-numerator.ensures ∙ ap₂ (λ a b. (a + b) % m) c.mul.ensures c.mul-in-loop-share.ensures)
          c.mul-denominator.ensures);
      divisor = λ e. some_product m (value l.denominator) _ g.met.F.InvertibleField.roots.prime (below _) (below _)
          l.invariant.divisor c.weighted_value-above.ensures.divisor (sym c.mul-denominator.ensures ∙ e);
    }

-- the sum over all shares
whole : (g : _) (c : goal.After-mul-2 g) → g.F.Valued.value c.mul-2.result
    ≡ value_at_zero g.F.Field.MODULUS (numbers_of_shares g.F.Valued.value c.args.shares.now)
whole g c =
    let value = g.F.Valued.value in
    let m = g.F.Field.MODULUS in
    let numbers = numbers_of_shares value c.args.shares.now in
    let l = c.loop-share in
    let roots = g.met.F.InvertibleField.roots in
    let two = one_below m roots.odd in
    c.mul-2.ensures
    ∙ quotient m (lagrange_sum m (places_of numbers) numbers) _ (value l.numerator, value l.denominator)
    (weighted_below m two (inverse_by_fermat m _ _ _ roots) (places_of numbers) numbers)
    (l.invariant.fraction ∙ ap (λ t. lagrange_sum m (places_of numbers) t * value l.denominator % m)
    (take_all l.share-index numbers (omega (arith, c.loop-share-test.false, length-numbers value c.args.shares.now))))
    c.inverse_of_some.ensures

pub returns-clause-exact : goal.returns-clause-exact
returns-clause-exact g c = whole g c

pub returns-clause-secret : goal.returns-clause-secret
returns-clause-secret g c secret others fewer are =
    let value = g.F.Valued.value in
    let m = g.F.Field.MODULUS in
    let shares = c.args.shares.now in
    let numbers = numbers_of_shares value shares in
    let roots = g.met.F.InvertibleField.roots in
    let laws = g.met.F.Field.laws in
    let two = one_below m roots.odd in
    laws.same c.mul-2.result secret
    (whole g c ∙ sum_is_secret m two (inverse_by_fermat m _ _ _ roots) (map value (secret ∷ others)) numbers
    c.in_ok-check_places.ensures.ok.1 (places_below value m laws.below shares) are
    (enough (length (map value others)) (length others) _ _ (length-map others value) fewer
    (length-places value shares))
    ∙ first (value secret) m (polynomial_value m (map value others) 0) (laws.below secret))
  where
    enough : (k n s p : ℕ) → k ≡ n → n < s → p ≡ s → suc k ≤ p
    enough k n s p e l h = omega (arith, e, l, h)

    first : (c m v : ℕ) → c < m → (c + 0 * v) % m ≡ c
    first c m v l = ap (λ t. t % m) (alone c v) ∙ mod-eq_of_lt l
      where
        alone : (c v : ℕ) → c + 0 * v ≡ c
        alone c v = omega arith

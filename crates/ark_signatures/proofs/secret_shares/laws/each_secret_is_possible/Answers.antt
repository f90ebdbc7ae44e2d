use Rattle.std.proofs.Common.{◌<◌, ◌≤◌, ℕ, length, ◌∷◌, subst, sym, ◌∙◌, ap, arith}
use Rattle.std.proofs.lemmas.List.{length-map}
use Rattle.number_facts.proofs.SquareRoots.{inverse_by_fermat}
use Rattle.ark_signatures.specs.SecretShares.{AreSharesOf, numbers_of_shares, share_places}
use Rattle.ark_signatures.proofs.AnySecret.{any_secret}
use Rattle.ark_signatures.proofs.Recovering.{fit_places}
use Rattle.ark_signatures.proofs.ShareSteps.{elements_of, length-numbers, places_below, values_below}
use Rattle.ark_signatures.proofs.secret_shares.laws.each_secret_is_possible.Goals as goal

pub returns : goal.returns
returns g c shares secret fit =
    let value = g.F.Valued.value in
    let m = g.F.Field.MODULUS in
    let roots = g.met.F.InvertibleField.roots in
    let laws = g.met.F.Field.laws in
    let numbers = numbers_of_shares value shares in
    let found = any_secret m (two_below m roots.odd) (inverse_by_fermat m _ _ _ roots) (value secret) numbers
    (laws.below secret) (values_below value m laws.below shares)
    (fit_places m (share_places value shares) fit (places_below value m laws.below shares)) in
    let others = elements_of value m laws.made found.0 found.1.below in (
      others.0,
      sym (length-map others.0 value) ∙ ap length others.1 ∙ found.1.long ∙ length-numbers value shares,
      subst (λ cs. AreSharesOf m (value secret ∷ cs) numbers) (sym others.1) found.1.are,
    )
  where
    two_below : (m : ℕ) → 2 < m → 2 ≤ m
    two_below m l = omega (arith, l)

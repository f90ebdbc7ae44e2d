use Rattle.std.proofs.Common.{◌<◌, ◌≤◌, ℕ, map, sym, ◌∙◌, arith}
use Rattle.std.proofs.lemmas.List.{length-map}
use Rattle.number_facts.proofs.SquareRoots.{inverse_by_fermat}
use Rattle.ark_signatures.specs.SecretShares.{numbers_of_shares, share_places}
use Rattle.ark_signatures.proofs.AnySecret.{one_polynomial}
use Rattle.ark_signatures.proofs.Recovering.{fit_places}
use Rattle.ark_signatures.proofs.ShareSteps.{elements_below, same_elements, length-numbers, places_below}
use Rattle.ark_signatures.proofs.secret_shares.laws.one_polynomial_each.Goals as goal

pub returns : goal.returns
returns g c shares secret others those fit long short first second =
    let value = g.F.Valued.value in
    let m = g.F.Field.MODULUS in
    let roots = g.met.F.InvertibleField.roots in
    let laws = g.met.F.Field.laws in
    same_elements value laws.same others those
    (one_polynomial m (two_below m roots.odd) (inverse_by_fermat m _ _ _ roots) (value secret)
    (numbers_of_shares value shares) (map value others) (map value those)
    (fit_places m (share_places value shares) fit (places_below value m laws.below shares)) (record {
      long = length-map others value ∙ long ∙ sym (length-numbers value shares);
      below = elements_below value m laws.below others;
      are = first;
    }) (record {
      long = length-map those value ∙ short ∙ sym (length-numbers value shares);
      below = elements_below value m laws.below those;
      are = second;
    }))
  where
    two_below : (m : ℕ) → 2 < m → 2 ≤ m
    two_below m l = omega (arith, l)

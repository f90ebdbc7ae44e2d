use Rattle.std.proofs.Common.{◌≡◌, ◌*◌, ◌%◌, take}
use Rattle.ark_signatures.specs.SecretShares.{numbers_of_shares, places_of, lagrange_sum}
use Rattle.ark_signatures.proofs.secret_shares.recover.Given as goal

-- the sum over the shares up to here, as a fraction
abbrev pub invariant-loop-share : goal.invariant-loop-share
invariant-loop-share g l =
    let value = g.F.Valued.value in
    let m = g.F.Field.MODULUS in
    let numbers = numbers_of_shares value l.shares in record {
      fraction : value l.numerator % m
          ≡ lagrange_sum m (places_of numbers) (take l.share-index numbers) * value l.denominator % m;
      divisor : value l.denominator ≡ 0 → ⊥;
    }

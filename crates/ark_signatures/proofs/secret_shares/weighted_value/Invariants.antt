use Rattle.std.proofs.Common.{◌≡◌, ◌*◌, ◌%◌, take}
use Rattle.ark_signatures.specs.SecretShares.{share_places, lagrange_weight}
use Rattle.ark_signatures.proofs.secret_shares.weighted_value.Given as goal

-- the fraction by the places up to here
abbrev pub invariant-loop-other : goal.invariant-loop-other
invariant-loop-other g l =
    let value = g.F.Valued.value in
    let m = g.F.Field.MODULUS in
    let places = take l.other-index (share_places value l.shares) in record {
      fraction : value l.numerator % m
          ≡ value l.fn.share.value * lagrange_weight m places (value l.place) * value l.denominator % m;
      divisor : value l.denominator ≡ 0 → ⊥;
    }

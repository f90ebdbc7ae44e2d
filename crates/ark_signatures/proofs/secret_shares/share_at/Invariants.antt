use Rattle.std.proofs.Common.{◌≡◌, map, drop}
use Rattle.ark_signatures.specs.SecretShares.{polynomial_value}
use Rattle.ark_signatures.proofs.secret_shares.share_at.Given as goal

-- the value of the coefficients from here on
abbrev pub invariant-loop-i : goal.invariant-loop-i
invariant-loop-i g l =
    let value = g.F.Valued.value in
    value l.value ≡ polynomial_value g.F.Field.MODULUS (drop l.i (map value l.coefficients)) (value l.place)

use Rattle.std.proofs.Common.{◌<◌, ◌≤◌, ℕ, arith}
use Rattle.ark_signatures.proofs.Responses.{responses_are}
use Rattle.ark_signatures.proofs.secret_shares.laws.responses_are_shares.Goals as goal

pub returns : goal.returns
returns g c = responses_are g.F.Field.MODULUS (positive g.F.Field.MODULUS g.F.Field.modulus_laws.at_least_two)
  where
    positive : (m : ℕ) → 2 ≤ m → 0 < m
    positive m l = omega (arith, l)

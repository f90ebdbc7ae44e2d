use Rattle.std.proofs.Common.{◌≡◌, List, [], ◌∷◌, map, sym, ◌∙◌, ap, arith}
use Rattle.ark_wide_fields.specs.Laws.Fp256.{wide_below}
use Rattle.ark_sponge.proofs.Permuting.{numbers-below}
use Rattle.ark_sponge.specs.Table.{short_permutation}
use Rattle.baby_jubjub.specs.BabyJubjub.{p}
use Rattle.baby_jubjub.specs.Eddsa.{fifth}
use Rattle.baby_jubjub.specs.Points.{coordinates}
use Rattle.baby_jubjub.specs.Values.{value, CoordinateElement}
use Rattle.baby_jubjub.proofs.Hashing.{first_read, challenge_is}
use Rattle.baby_jubjub.proofs.eddsa.EddsaPoseidon.challenge.Goals as goal

pub returns : goal.returns
returns c parameters of =
    let r8 = coordinates c.args.r8 in
    let key = coordinates c.args.key in
    let m = c.args.message in
    let old : List CoordinateElement =
    c.zero.result ∷ c.x.result ∷ c.y.result ∷ c.x-2.result ∷ c.y-2.result ∷ m ∷ [] in
    let numbers : map value old ≡ 0 ∷ r8.x ∷ r8.y ∷ key.x ∷ key.y ∷ value m ∷ [] =
    λ i. c.zero.ensures i ∷ c.x.ensures i ∷ c.y.ensures i ∷ c.x-2.ensures i ∷ c.y-2.ensures i ∷ value m ∷ [] in
    ap value (sym c.index-state-0.is) ∙ first_read value c.permute.new.state c.index-state-0.result
    (short_permutation p fifth c.args.self.now (map value old)) (omega (arith, c.permute.auto.state))
    c.index-state-0.is (c.permute.ensures
    ∙ ap (λ t. short_permutation p fifth t (map value old)) c.self.view_is)
    ∙ challenge_is parameters c.args.self.now r8 key (value m) (map value old) of numbers
    (numbers-below value p old wide_below)

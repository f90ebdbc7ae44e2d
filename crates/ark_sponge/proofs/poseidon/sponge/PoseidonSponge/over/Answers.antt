use Rattle.std.proofs.Common.{◌≡◌, ℕ, ◌+◌, map, replicate, List, sym, ap, ◌∙◌, arith, Ok}
use Rattle.ark_sponge.specs.Sponge.{Sponge}
use Rattle.ark_base.specs.Outcome.{Outcome}
use Rattle.ark_sponge.specs.declared.mode.DuplexSpongeMode.TheVariants.{Absorbing}
use Rattle.ark_sponge.proofs.Zeros.{all_zero}
use Rattle.ark_sponge.proofs.poseidon.sponge.PoseidonSponge.over.Goals as goal

pub returns : goal.returns
returns g c =
    let f = g.F.Valued.value in
    let q = c.args.parameters in
    let items = c.in_ok-state.ensures.items_if_clones_equal (λ y k. sym (g.met.F.Field.clones _ _ k)) in
    let make : List ℕ → Outcome Sponge = λ t. Ok (record { parameters = q; state = t; mode = Absorbing 0 }) in
    let width : c.rate.result + c.capacity.result ≡ q.rate + q.capacity = omega arith in
    sym (ap make (ap (map f) items ∙ all_zero f (c.rate.result + c.capacity.result) c.zero.result c.zero.ensures
    ∙ ap (λ n. replicate n 0) width))

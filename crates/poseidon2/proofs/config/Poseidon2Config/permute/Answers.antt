use Rattle.std.proofs.Common.{◌≡◌, length, refl, arith}
use Rattle.std.specs.Vec.{vec_len}
use Rattle.std.proofs.lemmas.List.{length-map}
use Rattle.poseidon2.specs.Permutation.{poseidon2_permutation}
use Rattle.poseidon2.proofs.config.Poseidon2Config.permute.Goals as goal

pub returns : goal.returns
unfolding poseidon2_permutation
returns g c =
    rw (
      ← c.self.view_is,
      length-map c.args.state.now g.F.Valued.value,
      c.run_full_rounds-2.ensures,
      c.run_partial_rounds.ensures,
      c.run_full_rounds.ensures,
      c.external_layer.ensures,
      c.run_partial_rounds.auto.state,
      c.run_full_rounds.auto.state,
      c.external_layer.auto.state,
      c.deref.ensures.value,
      c.deref-2.ensures.value,
      c.deref-3.ensures.value,
      c.deref-4.ensures.value,
    ) refl

pub external_layer-requires : goal.external_layer-requires
external_layer-requires g c =
    let i = c.self.inside in
    let long : length c.args.state.now ≡ length i.diagonal.items =
    rw (← c.self.view_is, length-map i.diagonal.items g.F.Valued.value) at c.requires in
    let wide : length c.args.state.now ≡ vec_len i.diagonal = omega (arith, long, i.diagonal.ok.0) in
    rw wide c.self.invariant.0

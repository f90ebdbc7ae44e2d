use Rattle.std.proofs.Common.{◌≡◌, ◌∙◌, map, sym, ap, length, arith, rules}
use Rattle.std.proofs.lemmas.Grind.{common_steps}
use Rattle.std.proofs.lemmas.List.{take-map, drop-map}
use Rattle.std.proofs.Math.ListN.{length-map}
use Rattle.ark_sponge.specs.Permutation.{permutation}
use Rattle.ark_poseidon.proofs.ConstantLength.{adding-nil, adding-next}
use Rattle.ark_poseidon.proofs.constant_length.add_blocks.Goals as goal

pub loop-rest-preserved : goal.loop-rest-preserved
loop-rest-preserved g c =
    let v = g.F.Valued.value in
    let rest = c.loop-rest.rest.now in
    let permute = permutation g.F.Field.MODULUS g.S.SBox.image c.args.parameters.now in
    record {
      so_far = adding-next g.F.Field.MODULUS permute c.args.parameters.now.rate (map v c.loop-rest.state)
          (map v c.permute.new.state) c.min.result (map v rest) (map v c.split_at.result.0.now)
          (map v c.split_at.result.1.now) (omega (arith, c.rate-rate.ensures.positive, c.rate-rate.ensures.value))
          (rw (length-map rest v) (search (rules, common_steps)))
          (rw (length-map rest v, ← c.rate-rate.ensures.value) c.min.ensures)
          (ap (map v) c.split_at.ensures.front ∙ sym (take-map v c.min.result rest))
          (ap (map v) c.split_at.ensures.back ∙ sym (drop-map v c.min.result rest))
          (c.permute.ensures ∙ ap permute c.add_block.ensures) ∙ c.loop-rest.invariant.so_far;
      state = search rules;
      scratch = search rules;
    }

pub returns : goal.returns
returns g c =
    let none : length (map g.F.Valued.value c.loop-rest.rest.now) ≡ 0 =
    length-map c.loop-rest.rest.now g.F.Valued.value ∙ search (rules, common_steps) in
    sym (adding-nil _ _ _ _ (map g.F.Valued.value c.loop-rest.rest.now) none) ∙ c.loop-rest.invariant.so_far

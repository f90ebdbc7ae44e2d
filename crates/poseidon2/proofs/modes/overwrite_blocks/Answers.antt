use Rattle.std.proofs.Common.{◌≡◌, ◌∙◌, map, sym, ap, length, rules}
use Rattle.std.proofs.lemmas.Grind.{common_steps}
use Rattle.std.proofs.lemmas.List.{take-map, drop-map}
use Rattle.std.proofs.Math.ListN.{length-map}
use Rattle.poseidon2.specs.Permutation.{poseidon2_permutation}
use Rattle.poseidon2.proofs.Overwriting.{overwriting-nil, overwriting-next}
use Rattle.poseidon2.proofs.modes.overwrite_blocks.Goals as goal

pub loop-rest-preserved : goal.loop-rest-preserved
loop-rest-preserved g c =
    let v = g.F.Valued.value in
    let rest = c.loop-rest.rest.now in
    let permute = poseidon2_permutation g.F.Field.MODULUS g.S.SBox.image g.B.BlockMatrix.matrix c.args.parameters.now in
    record {
      so_far = overwriting-next permute c.args.rate (map v c.loop-rest.state) (map v c.permute.new.state) c.min.result
          (map v rest) (map v c.split_at.result.0.now) (map v c.split_at.result.1.now) c.requires.some
          (rw (length-map rest v) (search (rules, common_steps))) (rw (length-map rest v) c.min.ensures)
          (ap (map v) c.split_at.ensures.front ∙ sym (take-map v c.min.result rest))
          (ap (map v) c.split_at.ensures.back ∙ sym (drop-map v c.min.result rest))
          (c.permute.ensures ∙ ap permute c.overwrite.ensures.numbers)
          ∙ c.loop-rest.invariant.so_far;
      state = search rules;
    }

pub returns-clause-state : goal.returns-clause-state
returns-clause-state g c =
    let none : length (map g.F.Valued.value c.loop-rest.rest.now) ≡ 0 =
    length-map c.loop-rest.rest.now g.F.Valued.value ∙ search (rules, common_steps) in
    sym (overwriting-nil _ _ _ (map g.F.Valued.value c.loop-rest.rest.now) none) ∙ c.loop-rest.invariant.so_far

use Rattle.std.proofs.Common.{◌≡◌, ◌+◌, ◌-◌, ◌∙◌, min, map, ap, sym, length, arith, rules}
use Rattle.std.proofs.lemmas.Grind.{common_steps}
use Rattle.std.proofs.Math.ListN.{length-map}
use Rattle.ark_sponge.proofs.Blocks.{blocks_left-nil, elements_left-first, elements_left-next}
use Rattle.ark_sponge.proofs.poseidon.duplex.absorb_blocks.Goals as goal

pub loop-index-init : goal.loop-index-init
loop-index-init g c =
    record {
      so_far = elements_left-first g.F.Valued.value _ _ _ _
          (omega (arith, c.rate-rate.ensures.positive, c.rate-rate.ensures.value)) c.args.state.now
          c.args.elements.now c.add_row_at.new.state c.split_at.result.0.now c.split_at.result.1.now c.args.start
          c.min.result (c.capacity-capacity.result
          + c.args.start) g.met.F.Field.laws.below
          c.requires.width c.requires.start c.requires.some (c.min.ensures
          ∙ ap (λ r. min (r - c.args.start) (length c.args.elements.now)) c.rate-rate.ensures.value)
          c.split_at.ensures.front c.split_at.ensures.back (omega (arith, c.capacity-capacity.ensures))
          c.add_row_at.ensures.sums;
      within = omega (arith, c.split_at.ensures.front_len, c.min.ensures, c.rate-rate.ensures.value, c.requires.start);
      state = c.add_row_at.ensures.length ∙ c.requires.width;
      scratch = c.requires.scratch ∙ c.requires.width;
    }

pub loop-index-preserved : goal.loop-index-preserved
loop-index-preserved g c =
    record {
      so_far = elements_left-next g.F.Valued.value _ _ _ _
          (omega (arith, c.rate-rate.ensures.positive, c.rate-rate.ensures.value)) c.loop-index.state
          c.permute.new.state c.add_row_at-in-loop-index.new.state c.loop-index.rest.now
          c.split_at-in-loop-index.result.0.now
          c.split_at-in-loop-index.result.1.now c.loop-index.index
          c.min-in-loop-index.result (search (rules, common_steps)) (c.min-in-loop-index.ensures
          ∙ ap (λ r. min r (length c.loop-index.rest.now)) c.rate-rate.ensures.value)
          c.split_at-in-loop-index.ensures.front c.split_at-in-loop-index.ensures.back c.permute.ensures
          (search (rules, c.add_row_at-in-loop-index.ensures.sums, c.capacity-capacity.ensures))
          ∙ c.loop-index.invariant.so_far;
      within = omega (
        arith,
        c.split_at-in-loop-index.ensures.front_len,
        c.min-in-loop-index.ensures,
        c.rate-rate.ensures.value,
      );
      state = search rules;
      scratch = search rules;
    }

pub returns-clause-state : goal.returns-clause-state
returns-clause-state g c =
    let none : length (map g.F.Valued.value c.loop-index.rest.now) ≡ 0 =
    length-map c.loop-index.rest.now g.F.Valued.value ∙ search (rules, common_steps) in
    sym (blocks_left-nil _ _ _ _ _ c.loop-index.index (map g.F.Valued.value c.loop-index.rest.now) none)
    ∙ c.loop-index.invariant.so_far

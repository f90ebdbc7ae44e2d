use Rattle.std.proofs.Common.{◌∙◌, arith, refl}
use Rattle.std.proofs.lemmas.List.{length-set}
use Rattle.paxidore_calls.proofs.Blocks.{gone-more}
use Rattle.paxidore_calls.specs.Cut.{parts_by}
use Rattle.paxidore_calls.proofs.roots.write_block_roots.Goals as goal

pub root_from-requires-clause-size : goal.root_from-requires-clause-size
root_from-requires-clause-size g c = (9, refl)

pub each-preserved : goal.each-preserved
each-preserved g c = record {
  long = length-set c.each.roots c.each.number c.root_from.result.0 ∙ c.each.invariant.long;
  room = c.root_from.ensures.long ∙ c.each.invariant.room;
  gone = gone-more g.H.ArrayHash.node_hash g.H.ArrayHash.leaf_hash c.args.lengths.now
      (parts_by c.args.leaves.now c.args.lengths.now) c.each.number c.each.roots c.each.rest.now
      c.root_from.result.1.now c.root_from.result.0 c.each.invariant.gone
      (omega (arith, c.each-test.true, c.each.invariant.long)) c.root_from.ensures.root c.root_from.ensures.rest;
}

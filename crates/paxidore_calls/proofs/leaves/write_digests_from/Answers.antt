use Rattle.std.proofs.Common.{take, drop, ◌∙◌, arith}
use Rattle.std.proofs.lemmas.List.{length-map, length-take-le}
use Rattle.ark_crh.specs.Ahead.{lent}
use Rattle.paxidore_calls.specs.Cut.{parts_by}
use Rattle.paxidore_calls.proofs.Drawing.{drawn-more, drawn-none}
use Rattle.paxidore_calls.proofs.leaves.write_digests_from.Goals as goal

pub runs-init : goal.runs-init
runs-init g c = record {
  inside = omega arith;
  drawn = drawn-none g.H.ArrayHash.leaf_hash c.args.lengths.now c.args.first c.args.bytes.now;
}

pub runs-preserved : goal.runs-preserved
runs-preserved g c =
    let run = take c.min-count.result c.in-Some.next.0 in
    let long = length-map run (λ leaf. leaf.now) ∙ length-take-le c.min-count.result c.in-Some.next.0
    (omega (arith, c.in-Some.ensures.long, c.min-count.ensures)) in
    record {
      inside = omega (arith, c.write_run.auto.digests, c.min-count.ensures, c.runs.invariant.inside);
      drawn = rw c.write_run.ensures (drawn-more g.H.ArrayHash.leaf_hash c.args.lengths.now c.args.first
          (parts_by c.args.bytes.now (drop c.args.first c.args.lengths.now)) c.runs.place c.min-count.result
          (take c.runs.place c.runs.digests) c.runs.rest.now c.in-Some.next.1.now (lent run) c.runs.invariant.drawn long
          c.in-Some.ensures.cut);
    }

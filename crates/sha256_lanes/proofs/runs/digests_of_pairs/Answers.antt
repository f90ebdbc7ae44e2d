use Rattle.std.proofs.Common.{◌≡◌, ◌/◌, arith, length}
use Rattle.sha256_lanes.specs.Runs.{pair_behind}
use Rattle.sha256_lanes.proofs.RunLemmas.{written-part}
use Rattle.sha256_lanes.proofs.runs.digests_of_pairs.Goals as goal
use Rattle.sha256_lanes.proofs.runs.digests_of_pairs.Goals.{then-couples-done-ge4, else-couples-done-ge4}

pub groups-preserved : goal.groups-preserved
groups-preserved c =
    written-part (pair_behind c.args.prefix) c.args.couples.now c.groups.digests _ _ _ _ (omega arith) (omega arith)
    (omega arith) c.groups.invariant c.put_pairs.ensures

pub rest-init : goal.rest-init
rest-init c =
    let all : c.groups.group ≡ length c.args.couples.now / 8 = omega arith in
    let written = rw all at c.groups.invariant in
    elim c.if-couples-done-ge4.branch [
      | then-couples-done-ge4 w ↦
          rw (w.digests-is, w.done-is)
          (written-part (pair_behind c.args.prefix) c.args.couples.now c.groups.digests _ _ _ _ (omega arith)
          (omega arith)
          (omega arith) written w.put_pairs-then-couples-done-ge4.ensures)
      | else-couples-done-ge4 w ↦ rw (w.digests-is, w.done-is) written
    ]

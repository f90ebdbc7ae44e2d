use Rattle.std.proofs.Common.{◌≡◌, ◌/◌, arith, length}
use Rattle.sha256_lanes.specs.Runs.{hash_behind}
use Rattle.sha256_lanes.proofs.RunLemmas.{written-part}
use Rattle.sha256_lanes.proofs.runs.digests_of_messages.Goals as goal
use Rattle.sha256_lanes.proofs.runs.digests_of_messages.Goals.{then-messages-done-ge4, else-messages-done-ge4}

pub groups-preserved : goal.groups-preserved
groups-preserved c =
    written-part (hash_behind c.args.prefix) c.args.messages.now c.groups.digests _ _ _ _ (omega arith) (omega arith)
    (omega arith) c.groups.invariant c.put_eight_messages.ensures

pub rest-init : goal.rest-init
rest-init c =
    let all : c.groups.group ≡ length c.args.messages.now / 8 = omega arith in
    let written = rw all at c.groups.invariant in
    elim c.if-messages-done-ge4.branch [
      | then-messages-done-ge4 w ↦
          rw (w.digests-is, w.done-is)
          (written-part (hash_behind c.args.prefix) c.args.messages.now c.groups.digests _ _ _ _ (omega arith)
          (omega arith)
          (omega arith) written w.put_messages.ensures)
      | else-messages-done-ge4 w ↦ rw (w.digests-is, w.done-is) written
    ]

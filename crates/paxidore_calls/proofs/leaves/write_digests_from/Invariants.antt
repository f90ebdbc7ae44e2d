use Rattle.std.proofs.Common.{◌-◌, ◌≤◌, length, take, drop}
use Rattle.paxidore_calls.specs.Cut.{parts_by}
use Rattle.paxidore_calls.proofs.Drawing.{IsDrawn}
use Rattle.paxidore_calls.proofs.leaves.write_digests_from.Given as goal

abbrev pub invariant-runs : goal.invariant-runs
invariant-runs g l = record {
  inside : l.place ≤ length l.digests;
  drawn : IsDrawn g.H.ArrayHash.leaf_hash l.lengths l.first (parts_by l.fn.bytes (drop l.first l.lengths)) l.place
      (take l.place l.digests) l.rest;
}

abbrev pub decreases-runs : goal.decreases-runs
decreases-runs g l = length l.digests - l.place

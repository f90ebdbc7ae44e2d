use Rattle.std.proofs.Common.{◌≡◌, ◌≤◌, ◌-◌, length}
use Rattle.paxidore_calls.specs.Cut.{parts_by}
use Rattle.paxidore_c.proofs.Putting.{PutUpTo}
use Rattle.paxidore_c.proofs.kept_changes.put_leaf_digests.Given as goal

abbrev pub invariant-runs : goal.invariant-runs
invariant-runs g l = record {
  inside : l.place ≤ length l.lengths;
  room : length l.run ≡ 64;
  long : length l.digests ≡ length l.fn.digests;
  put : PutUpTo g.H.ArrayHash.leaf_hash l.lengths l.indexes l.fn.digests (parts_by l.fn.bytes l.lengths) l.digests
      l.place l.rest;
}

abbrev pub decreases-runs : goal.decreases-runs
decreases-runs g l = length l.lengths - l.place

use Rattle.std.proofs.Common.{◌≡◌, length, take}
use Rattle.std.specs.List.{zip}
use Rattle.ark_merkle.specs.Batch.{puts}
use Rattle.paxidore_c.proofs.kept_changes.put_digests.Given as goal

abbrev pub invariant-digests : goal.invariant-digests
invariant-digests l = record {
  long : length l.digests ≡ length l.fn.digests;
  put : l.digests ≡ puts l.fn.digests (zip l.indexes (take l.n l.run));
}

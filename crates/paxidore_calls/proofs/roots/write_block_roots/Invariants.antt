use Rattle.std.proofs.Common.{◌≡◌, length}
use Rattle.paxidore_calls.proofs.Blocks.{AreGone}
use Rattle.paxidore_calls.specs.Cut.{parts_by}
use Rattle.paxidore_calls.proofs.roots.write_block_roots.Given as goal

abbrev pub invariant-each : goal.invariant-each
invariant-each g l = record {
  long : length l.roots ≡ length l.fn.roots;
  room : length l.memory ≡ 2047;
  gone : AreGone g.H.ArrayHash.node_hash g.H.ArrayHash.leaf_hash l.lengths (parts_by l.fn.leaves l.lengths) l.number
      l.roots l.rest;
}

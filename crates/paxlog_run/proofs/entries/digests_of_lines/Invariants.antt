use Rattle.std.proofs.Common.{◌≡◌, ◌++◌, length, map}
use Rattle.ark_trees.specs.Rfc6962.{entry_hash}
use Rattle.paxlog_run.specs.Entries.{lines_of}
use Rattle.paxlog_run.proofs.entries.digests_of_lines.Given as goal

abbrev pub invariant-runs : goal.invariant-runs
invariant-runs g l = l.digests.items ++ map entry_hash (lines_of l.rest) ≡ map entry_hash (lines_of l.bytes)

abbrev pub decreases-runs : goal.decreases-runs
decreases-runs g l = length l.rest

use Rattle.std.proofs.Common.{◌≡◌, ◌+◌, ◌-◌, ◌<◌, ◌^◌, length}
use Rattle.merkle_log.specs.Append.{pair_count}
use Rattle.merkle_log.proofs.Growing.{AppendsFirst}
use Rattle.merkle_log.proofs.log.append_each.Given as goal

abbrev pub invariant-runs : goal.invariant-runs
invariant-runs g l =
    let hashes = g.T.TreeHasher.hashes l.hasher in
    record {
      at : AppendsFirst hashes l.initial.stored l.leaves l.first l.stored;
      counted : pair_count l.initial.stored.size + l.calls ≡ pair_count l.stored.size;
      fits : l.stored.size < 2 ^ 64;
    }

abbrev pub decreases-runs : goal.decreases-runs
decreases-runs g l = length l.leaves - l.first

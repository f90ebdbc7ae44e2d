use Rattle.std.proofs.Common.{◌≡◌, ◌+◌, ◌++◌, length, take, drop}
use Rattle.std.specs.Option.{option_map}
use Rattle.ark_crh.specs.Ahead.{lent}
use Rattle.paxidore_calls.specs.Cut.{parts_by}
use Rattle.paxidore_calls.proofs.leaves.next_run.Given as goal

abbrev pub invariant-leaves : goal.invariant-leaves
invariant-leaves l = record {
  long : length l.run ≡ 64;
  cut : parts_by l.bytes (drop l.place l.lengths) ≡ option_map (λ others. lent (take l.n l.run) ++ others)
      (parts_by l.rest (drop (l.place + l.n) l.lengths));
}

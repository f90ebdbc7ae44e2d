use Rattle.std.proofs.Common.{◌≡◌, ◌*◌, List, Bor, length, map, take, ℕ}
use Rattle.ark_trees.specs.Rfc6962.{node_hash}
use Rattle.merkle_log.specs.Frontier.{complete_pairs}
use Rattle.log_tiles.proofs.halving.halve.Given as goal

abbrev pub invariant-pairs : goal.invariant-pairs
invariant-pairs l = record {
  long : length l.couples ≡ 128;
  made : map (λ (c : Bor (List ℕ) × Bor (List ℕ)). node_hash c.0.now c.1.now) (take l.pair l.couples)
      ≡ complete_pairs node_hash (take (2 * l.pair) l.below);
}

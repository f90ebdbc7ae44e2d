use Rattle.std.proofs.Common.{suc, ◌≡◌, ◌-◌, ◌*◌, ◌^◌, ℕ, List, take, ap, subst, ◌∙◌, arith}
use Rattle.ark_paths.specs.Pair.{Digest}
use Rattle.ark_trees.specs.Rfc6962.{node_hash}
use Rattle.merkle_log.specs.Frontier.{complete_pairs}
use Rattle.merkle_log.proofs.Tests.{twice}
use Rattle.log_tiles.specs.Audit.{rows_over}
use Rattle.log_tiles.proofs.Trees.{one-shifted}
use Rattle.log_tiles.proofs.halving.halved_root.Goals as goal

-- one row of a tree above another
one-row : {shifted : ℕ} (k : ℕ) (below above : List Digest) → shifted ≡ 2 ^ k
    → take shifted above ≡ complete_pairs node_hash (take (2 * shifted) below)
    → rows_over (take (2 ^ k) above) k ≡ rows_over (take (2 ^ suc k) below) (suc k)
one-row k below above one halved =
    let two : 2 * 2 ^ k ≡ 2 ^ suc k = omega (arith, twice k) in
    ap (λ l. rows_over l k) (subst (λ n. take n above ≡ complete_pairs node_hash (take (2 * n) below)) one halved
    ∙ ap (λ n. complete_pairs node_hash (take n below)) two)

pub levels-preserved : goal.levels-preserved
levels-preserved c =
    let j = c.levels.left - 1 in
    let k = c.levels.left - 2 in
    let up : suc j ≡ c.levels.left = omega (arith, c.levels-test.true) in
    let next : suc k ≡ j = omega (arith, c.levels-test.true) in
    let below = c.levels.digests in
    let other = c.halve.new.into in
    let first = one-row j below other (one-shifted j (omega (arith, c.levels.invariant.low, c.requires)))
    c.halve.ensures in
    let second = one-row k other c.halve-in-levels.new.into
    (one-shifted k (omega (arith, c.levels.invariant.low, c.requires)))
    c.halve-in-levels.ensures in
    record {
      low = omega (arith, c.levels.invariant.low);
      same = second ∙ ap (λ n. rows_over (take (2 ^ n) other) n) next ∙ first
          ∙ ap (λ n. rows_over (take (2 ^ n) below) n) up ∙ c.levels.invariant.same;
    }

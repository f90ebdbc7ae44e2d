use Rattle.std.proofs.Common.{◌<◌, arith, length, pow_pos}
use Rattle.std.proofs.Math.Nat.{pow-succ'}
use Rattle.ark_trees.proofs.TreeHashes.{root-log}
use Rattle.ark_crypto_primitives.proofs.log_tree.log_tree.Goals as goal

pub returns-clause-root : goal.returns-clause-root
returns-clause-root c =
    let positive = pow_pos c.requires.0 in
    let twice = pow-succ' 2 c.requires.0 in
    let some : 1 < length c.args.entries.now = omega (arith, positive, twice, c.requires.1) in
    root-log (λ entry. entry.items) c.args.entries.now _ c.in_ok-tree.ensures some c.height-levels.ensures.power

use Rattle.std.proofs.Common.{arith}
use Rattle.sha256_lanes.proofs.PrefixedLemmas.{AreWords-first, AreWords-second, prefixed_size}
use Rattle.sha256_lanes.proofs.prefixed_pairs.prefixed_words.Goals as goal

pub returns : goal.returns
returns c =
    let p = c.args.prefix in
    let l = c.args.left.now in
    let r = c.args.right.now in (
      prefixed_size p l r (omega arith) (omega arith),
      (
        AreWords-first p l r _ (omega arith) (omega arith) c.first_words.ensures,
        AreWords-second p l r _ (omega arith) (omega arith) c.second_words.ensures,
      ),
    )

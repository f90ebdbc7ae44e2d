use Rattle.std.proofs.Common.{◌-◌, length, get_or, arith}
use Rattle.ark_merkle.proofs.MultiCommon.{NextParts-next}
use Rattle.ark_paths.specs.Index.{log2}
use Rattle.kept_tree.proofs.Besides.{has_levels}
use Rattle.kept_tree.proofs.MultiPaths.{shared-below}
use Rattle.kept_tree.specs.KeptTree.{digests_above, leaf_count}
use Rattle.kept_tree.proofs.multi_path.shared_levels.Goals as goal

pub returns-then-place-eq0-clause-within : goal.returns-then-place-eq0-clause-within
returns-then-place-eq0-clause-within c = (has_levels (length c.args.memory.now) c.requires.size).some

pub returns-else-place-eq0-clause-within : goal.returns-else-place-eq0-clause-within
returns-else-place-eq0-clause-within c =
    let indexes = c.args.indexes.now in
    let levels = log2 (leaf_count (length c.args.memory.now)) - 1 in
    omega (
      arith,
      c.shared_above.ensures,
      (has_levels (length c.args.memory.now) c.requires.size).some,
      shared-below c.args.memory.now (get_or indexes (c.args.place - 1) 0) (get_or indexes c.args.place 0) levels,
    )

pub returns-else-place-eq0-clause-prefix : goal.returns-else-place-eq0-clause-prefix
returns-else-place-eq0-clause-prefix c = (NextParts-next (digests_above c.args.memory.now) c.args.indexes.now
    c.args.place c.shared_above.result c.requires.place (omega arith) c.shared_above.ensures).prefixes

pub returns-else-place-eq0-clause-suffix : goal.returns-else-place-eq0-clause-suffix
returns-else-place-eq0-clause-suffix c = (NextParts-next (digests_above c.args.memory.now) c.args.indexes.now
    c.args.place c.shared_above.result c.requires.place (omega arith) c.shared_above.ensures).suffixes

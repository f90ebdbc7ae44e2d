use Rattle.std.proofs.Common.{◌≡◌, ◌<◌, ◌∙◌, ℕ, List, [], length, map, Ok, ap, sym}
use Rattle.std.specs.List.{All}
use Rattle.ark_base.specs.Laws.Steps.{done_injective}
use Rattle.ark_paths.proofs.MultiIndexes.{All-rising}
use Rattle.ark_paths.specs.Rising.{rising_set}
use Rattle.ark_merkle.specs.MultiProof.{own_multi_path}
use Rattle.ark_paths.specs.Pair.{Digest}
use Rattle.ark_paths.specs.Sharing.{prefixes_of, suffixes_of}
use Rattle.kept_tree.proofs.MultiPaths.{held-multi, multi-written}
use Rattle.kept_tree.specs.KeptTree.{KeepsTree, PlainNode, alike, digests_above, kept_beside, kept_multi_way, leaf_count}
use Rattle.kept_tree.proofs.multi_path.multi_path_bytes.Goals.{In_ok-once, Start}
use Rattle.kept_tree.proofs.multi_path.multi_path_bytes.Goals as goal

-- each index once, all inside
inside : (c : In_ok-once) → All (λ index. index < leaf_count (length c.args.memory.now)) c.in_ok-once.once.items
inside c =
    rw (done_injective _ _ c.in_ok-once.ensures) at (All-rising (λ index. index < leaf_count (length c.args.memory.now))
    c.args.indexes.now c.requires.indexes)

pub siblings_of-requires-clause-indexes : goal.siblings_of-requires-clause-indexes
siblings_of-requires-clause-indexes c =
    rw c.deref.ensures.value (inside (goal.at.siblings_of-requires-clause-indexes c).In_ok-once)

pub above_each-requires-clause-indexes : goal.above_each-requires-clause-indexes
above_each-requires-clause-indexes c =
    rw c.deref-2.ensures.value (inside (goal.at.above_each-requires-clause-indexes c).In_ok-once)

pub returns-clause-bytes : goal.returns-clause-bytes
returns-clause-bytes c =
    let memory = c.args.memory.now in
    let indexes = c.in_ok-once.once.items in
    let siblings = c.in_ok-siblings.siblings.items in
    let prefixes = c.in_ok-prefixes.prefixes.items in
    let suffixes = c.in_ok-prefixes.suffixes.items in
    let once : rising_set c.args.indexes.now ≡ indexes = done_injective _ _ c.in_ok-once.ensures in
    let siblings_are : map (λ (index : ℕ). kept_beside memory index 0) indexes ≡ siblings =
    rw c.deref.ensures.value at (done_injective _ _ c.in_ok-siblings.ensures) in
    let prefixes_are : prefixes_of [] (map (digests_above memory) indexes) ≡ prefixes =
    rw c.deref-2.ensures.value at (done_injective _ _ c.in_ok-prefixes.ensures.prefixes) in
    let suffixes_are : suffixes_of [] (map (digests_above memory) indexes) ≡ map (λ row. row.items) suffixes =
    rw c.deref-2.ensures.value at (done_injective _ _ c.in_ok-prefixes.ensures.suffixes) in
    ap Ok (sym (c.in_ok-canonical_bytes.ensures.spelled.1
    ∙ multi-written memory c.args.indexes.now indexes siblings prefixes suffixes once siblings_are prefixes_are
    suffixes_are))

-- the multi-proof of a tree in memory
of_tree : (c : Start) (node : PlainNode) (leaves : List Digest) → KeepsTree node c.args.memory.now leaves
    → own_multi_path (alike node) c.args.indexes.now leaves ≡ kept_multi_way c.args.memory.now c.args.indexes.now
of_tree c node leaves holds = held-multi node c.args.memory.now leaves holds c.args.indexes.now c.requires.indexes

pub returns-in_err-once-clause-tree : goal.returns-in_err-once-clause-tree
returns-in_err-once-clause-tree c = of_tree (goal.at.returns-in_err-once-clause-tree c).Start

pub returns-in_err-siblings-clause-tree : goal.returns-in_err-siblings-clause-tree
returns-in_err-siblings-clause-tree c = of_tree (goal.at.returns-in_err-siblings-clause-tree c).Start

pub returns-in_err-prefixes-clause-tree : goal.returns-in_err-prefixes-clause-tree
returns-in_err-prefixes-clause-tree c = of_tree (goal.at.returns-in_err-prefixes-clause-tree c).Start

pub returns-in_err-canonical_bytes-clause-tree : goal.returns-in_err-canonical_bytes-clause-tree
returns-in_err-canonical_bytes-clause-tree c = of_tree (goal.at.returns-in_err-canonical_bytes-clause-tree c).Start

pub returns-clause-tree : goal.returns-clause-tree
returns-clause-tree c = of_tree (goal.at.returns-clause-tree c).Start

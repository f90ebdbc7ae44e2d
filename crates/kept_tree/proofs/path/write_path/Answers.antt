use Rattle.std.proofs.Common.{◌≡◌, length, arith}
use Rattle.ark_base.specs.Laws.Numbers.{length-word}
use Rattle.kept_tree.proofs.HeldTrees.{held-path}
use Rattle.kept_tree.proofs.PathWrites.{path-all, path-more, path-none, word-bytes}
use Rattle.kept_tree.proofs.path.write_path.Goals as goal

pub put-requires : goal.put-requires
put-requires c =
    let long : length c.to_le_bytes.result ≡ 8 =
    rw (word-bytes c.levels_of-levels.result c.to_le_bytes.result c.to_le_bytes.ensures)
    (length-word c.levels_of-levels.result) in
    omega (arith, c.levels_of-levels.ensures)

pub levels-init : goal.levels-init
levels-init c = path-none c.args.buffer.now c.args.memory.now c.args.index c.levels_of-levels.result
    c.sibling_digest.result.now c.to_le_bytes.result c.put_digest.new.buffer c.put.new.buffer c.sibling_digest.ensures
    c.put_digest.ensures.count (word-bytes c.levels_of-levels.result c.to_le_bytes.result c.to_le_bytes.ensures)
    c.put_digest.ensures.bytes c.put.ensures

pub levels-preserved : goal.levels-preserved
levels-preserved c = path-more c.args.buffer.now c.args.memory.now c.args.index c.levels_of-levels.result
    c.sibling_digest-in-levels.result.now c.levels.buffer c.put_digest-in-levels.new.buffer c.levels.done
    c.levels-test.true
    c.levels.invariant c.sibling_digest-in-levels.ensures c.put_digest-in-levels.ensures.count
    c.put_digest-in-levels.ensures.bytes

pub put-requires-2 : goal.put-requires-2
put-requires-2 c =
    let long : length c.to_le_bytes-2.result ≡ 8 =
    rw (word-bytes c.args.index c.to_le_bytes-2.result c.to_le_bytes-2.ensures) (length-word c.args.index) in
    omega (arith, c.levels_of-levels.ensures)

pub returns-clause-bytes : goal.returns-clause-bytes
returns-clause-bytes c =
    path-all c.args.buffer.now c.args.memory.now c.args.index c.levels_of-levels.result
    (omega (arith, c.levels_of-levels.ensures))
    c.to_le_bytes-2.result c.levels.buffer c.put-2.new.buffer c.levels.done (omega arith) c.levels.invariant
    (word-bytes c.args.index c.to_le_bytes-2.result c.to_le_bytes-2.ensures) c.put-2.ensures

pub returns-clause-tree : goal.returns-clause-tree
returns-clause-tree c = λ node leaves holds. held-path node c.args.memory.now leaves holds c.args.index
    (omega (arith, holds.count, c.requires.index))

use Rattle.std.proofs.Common.{◌+◌, ◌/◌, arith, length, refl}
use Rattle.kept_tree.proofs.Changing.{changes-all, changes-more, changes-tree}
use Rattle.kept_tree.proofs.change.set_leaf.Goals as goal

pub up-preserved : goal.up-preserved
up-preserved g c = changes-more g.H.ArrayHash.node_hash c.args.memory.now (length c.args.memory.now / 2 + c.args.index)
    c.args.digest.now c.up.memory c.hash_at.new.memory c.up.place (omega arith) c.up.invariant c.hash_at.ensures

pub returns-clause-changes : goal.returns-clause-changes
returns-clause-changes g c = changes-all g.H.ArrayHash.node_hash c.args.memory.now c.up.memory
    (length c.args.memory.now / 2 + c.args.index) c.up.place c.args.index c.args.digest.now refl (omega arith)
    c.up.invariant

pub returns-clause-tree : goal.returns-clause-tree
returns-clause-tree g c = λ leaves holds. changes-tree g.H.ArrayHash.node_hash c.args.memory.now c.up.memory leaves
    c.args.index c.args.digest.now (changes-all g.H.ArrayHash.node_hash c.args.memory.now c.up.memory
    (length c.args.memory.now / 2 + c.args.index) c.up.place c.args.index c.args.digest.now refl (omega arith)
    c.up.invariant) holds c.requires.index

use Rattle.std.proofs.Common.{◌≡◌, Ok, arith}
use Rattle.std.proofs.lemmas.List.{length-map}
use Rattle.ark_base.proofs.Refusals.{passed_on}
use Rattle.ark_merkle.specs.Update.{change_agrees}
use Rattle.ark_merkle.proofs.TreeChanges.{way-seen, agrees-read, agrees-refused, with_leaf-ok}
use Rattle.ark_merkle.proofs.tree.MerkleTree.check_update.Goals.{After-are_same-agrees}
use Rattle.ark_merkle.proofs.tree.MerkleTree.check_update.Goals as goal

-- the last digest on the way says whether the change agrees
agrees : (g : _) (c : After-are_same-agrees g) → change_agrees (g.P.Views.tree c.args.self.now) c.args.index
    c.args.new_leaf.now (g.P.InnerDigest.Numbered.numbers c.args.asserted_new_root.now) ≡ Ok c.are_same-agrees.result
agrees g c =
    agrees-read c.parts.ensures.seen c.args.index c.args.new_leaf.now g.P.InnerDigest.Numbered.numbers
    c.in_ok-digest.on_way c.index.result.now _ _ c.in_ok-digest.ensures.way.whole (rw c.len.ensures at c.index.ensures)
    c.in_ok-digest.ensures.root c.are_same-agrees.ensures

pub overflow_sub-len : goal.overflow_sub-len
overflow_sub-len g c =
    let long = length-map c.in_ok-digest.on_way.items g.P.InnerDigest.Numbered.numbers in
    omega (arith, c.in_ok-digest.ensures.way.whole)

pub index-requires : goal.index-requires
index-requires g c = omega (arith, overflow_sub-len g c, c.len.ensures)

pub put_leaf-requires-clause-way : goal.put_leaf-requires-clause-way
put_leaf-requires-clause-way g c = way-seen c.parts.ensures.seen c.in_ok-digest.ensures.way

pub returns-in_err-digest-clause-agrees : goal.returns-in_err-digest-clause-agrees
returns-in_err-digest-clause-agrees g c =
    passed_on _ _ c.from_residual.result _ c.from_residual.ensures.1 c.in_err-digest.ensures.root
    (agrees-refused c.parts.ensures.seen c.args.index c.args.new_leaf.now _ c.in_err-digest.field-0.0)

pub returns-else-agrees-clause-agrees : goal.returns-else-agrees-clause-agrees
returns-else-agrees-clause-agrees g c = agrees g (goal.at.returns-else-agrees-clause-agrees g c).After-are_same-agrees

pub returns-then-agrees-clause-agrees : goal.returns-then-agrees-clause-agrees
returns-then-agrees-clause-agrees g c = agrees g (goal.at.returns-then-agrees-clause-agrees g c).After-are_same-agrees

pub returns-then-agrees-clause-tree : goal.returns-then-agrees-clause-tree
returns-then-agrees-clause-tree g c _ = rw c.put_leaf.ensures (with_leaf-ok c.parts.ensures.seen c.args.index
    c.args.new_leaf.now _ _ c.in_ok-digest.ensures.digest c.in_ok-digest.ensures.root)

pub returns-else-agrees-clause-tree : goal.returns-else-agrees-clause-tree
returns-else-agrees-clause-tree g c = λ yes. absurd cc

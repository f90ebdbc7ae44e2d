use Rattle.std.proofs.Common.{sym, ◌∙◌, arith, refl}
use Rattle.std.proofs.lemmas.List.{length-map, map-set}
use Rattle.ark_merkle.proofs.TreeChanges.{is_tree-put}
use Rattle.ark_merkle.proofs.TreeReads.{holds-index}
use Rattle.ark_merkle.proofs.tree.MerkleTree.put_leaf.Goals as goal

pub put_way-requires : goal.put_way-requires
put_way-requires g c =
    let leaves = c.self.inside.leaves in
    let changes = rw (g.met.P.Views.tree_is, ← c.self.view_is) at c.requires.way in
    record {
      holds = holds-index _ _ _ c.self.invariant c.args.index
          (omega (arith, length-map leaves.items g.P.LeafDigest.Numbered.numbers, leaves.ok.0))
          (rw (← c.self.view_is) at c.requires.index);
      count = sym (length-map c.args.way.items g.P.InnerDigest.Numbered.numbers) ∙ changes.whole
          ∙ sym c.self.invariant.count;
    }

pub invariant_of-self : goal.invariant_of-self
invariant_of-self g c =
    is_tree-put g.P.LeafDigest.Numbered.numbers _ _ c.self.inside.leaves _ c.self.invariant c.args.index c.args.digest
    c.args.way _
    (rw (← c.self.view_is) at c.requires.index) (rw (g.met.P.Views.tree_is, ← c.self.view_is) at c.requires.way)
    c.put_way.ensures.count c.put_way.ensures.rows

pub returns : goal.returns
returns g c =
    let leaves = map-set g.P.LeafDigest.Numbered.numbers c.self.inside.leaves.items c.args.index c.args.digest in
    rw (g.met.P.Views.tree_is, leaves, ← c.self.view_is) refl

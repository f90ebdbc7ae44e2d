use Rattle.std.proofs.Common.{◌≡◌, Ok, arith, subst}
use Rattle.ark_paths.specs.Tree.{HashedTree, root_in}
use Rattle.ark_merkle.proofs.TreeReads.{top-inside, root-read}
use Rattle.ark_merkle.proofs.tree.MerkleTree.root.Goals as goal

pub at-requires : goal.at-requires
at-requires g c = record {
  row = omega (arith, c.len.ensures.count, c.parts.ensures.tree.count);
  place = top-inside _ _ _ c.parts.ensures.tree c.len.result c.len.ensures.count;
}

pub returns : goal.returns
returns g c =
    let digest = g.P.InnerDigest.Numbered.numbers c.at.result.now in
    subst (λ (t : HashedTree _). root_in t ≡ Ok digest) c.parts.ensures.seen
    (root-read _ _ _ c.parts.ensures.tree c.len.result digest c.len.ensures.count c.at.ensures)

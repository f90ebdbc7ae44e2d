use Rattle.std.proofs.Common.{ap, refl}
use Rattle.ark_paths.specs.Pair.{Hashes}
use Rattle.ark_merkle.proofs.tree.MerkleTree.parts.Goals as goal

pub returns : goal.returns
returns g c =
    let hashes = rw g.met.P.Views.hashes_are at c.new-hasher.ensures in
    record {
      seen = rw (c.deref.ensures.value, hashes, g.met.P.Views.tree_is, ← c.self.view_is) refl;
      leaves = rw (c.deref.ensures.value, ← c.self.view_is) refl;
      tree = rw (c.deref.ensures.value, ap (λ (h : Hashes _). h.pair) hashes) c.self.invariant;
      fits = c.deref.type_inv.0;
    }

use Rattle.std.proofs.Common.{◌≡◌, ◌%◌, ◌∙◌, List, length, map, Ok, ap, refl, subst, sym}
use Rattle.ark_base.specs.Outcome.{Answers}
use Rattle.ark_paths.specs.Path.{Way}
use Rattle.ark_paths.specs.Tree.{HashedTree}
use Rattle.ark_merkle.specs.Binding.{binding_in}
use Rattle.ark_merkle.proofs.Bounds.{answered-each, bound-accepted, bound-stands, bound-differs}
use Rattle.ark_merkle.proofs.TreeReads.{left_of, is_tree-seen}
use Rattle.ark_merkle.proofs.tree.MerkleTree.bind.Goals as goal

pub returns : goal.returns
returns g c =
    let path = c.args.path.now in
    let leaf = c.args.leaf.now in
    let seen : Way = record {
      sibling = g.P.LeafDigest.Numbered.numbers path.leaf_sibling_hash;
      above = map g.P.InnerDigest.Numbered.numbers path.auth_path.items;
      index = path.leaf_index;
    } in
    let way = g.P.Views.way path in
    let now = g.P.Views.tree c.args.self.now in
    let tree = is_tree-seen c.parts.ensures.seen c.parts.ensures.tree in
    let told : Answers (binding_in (left_of c.parts.ensures.seen) leaf seen) c.binding_in.result =
    subst (λ (above : List _). Answers (binding_in (left_of c.parts.ensures.seen) leaf (record {
      sibling = seen.sibling;
      above = map g.P.InnerDigest.Numbered.numbers above;
      index = seen.index;
    })) c.binding_in.result) c.deref.ensures.value c.binding_in.ensures in
    let answer : Answers (binding_in now leaf way) c.binding_in.result =
    subst (λ (w : Way). Answers (binding_in now leaf w) c.binding_in.result)
    (sym (ap (λ (f : _ → Way). f path) g.met.P.Views.way_is))
    (subst (λ (t : HashedTree _). Answers (binding_in t leaf seen) c.binding_in.result) c.parts.ensures.seen told) in
    let place : way.index % length now.leaves ≡ path.leaf_index % length c.args.self.now.leaves =
    rw (g.met.P.Views.tree_is, g.met.P.Views.way_is) refl in
    record {
      answer = answer;
      accepted = answered-each _ _ c.binding_in.result answer (λ binding is.
          bound-accepted now.hashes.pair now.leaves (now.hashes.leaf leaf) way binding is);
      stands = answered-each _ _ c.binding_in.result answer (λ binding is same.
          rw (← place) (bound-stands _ _ _ tree (now.hashes.leaf leaf) way (is ∙ ap Ok same)));
      differs = answered-each _ _ c.binding_in.result answer (λ binding is level same.
          bound-differs _ _ _ tree (now.hashes.leaf leaf) way level (is ∙ ap Ok same));
    }

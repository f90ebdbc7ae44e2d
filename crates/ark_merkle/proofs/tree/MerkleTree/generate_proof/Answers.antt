use Rattle.std.proofs.Common.{◌≡◌, ◌∙◌, Ok, ap, map, sym, subst}
use Rattle.std.proofs.lemmas.List.{length-map}
use Rattle.ark_base.specs.Laws.Steps.{done_injective}
use Rattle.ark_paths.specs.Path.{Way}
use Rattle.ark_paths.specs.Tree.{HashedTree, path_in}
use Rattle.ark_paths.proofs.OwnPaths.{own_path-accepted}
use Rattle.ark_merkle.proofs.TreeReads.{is_tree-seen, holds-index, own_path-read}
use Rattle.ark_merkle.proofs.tree.MerkleTree.generate_proof.Goals as goal

pub digests_beside-requires-clause-holds : goal.digests_beside-requires-clause-holds
digests_beside-requires-clause-holds g c = holds-index _ _ _ c.parts.ensures.tree c.args.index
    (rw length-map c.parts.ensures.fits) (rw c.parts.ensures.leaves c.requires)

pub returns : goal.returns
returns g c =
    let now = g.P.Views.tree c.args.self.now in
    let copied = (g.met.P.LeafDigest.DigestItem.seen_alike _ _).0 (done_injective _ _ c.in_ok-duplicate.ensures) in
    let own : Way = record {
      sibling = g.P.LeafDigest.Numbered.numbers c.in_ok-duplicate.field-0;
      above = map g.P.InnerDigest.Numbered.numbers c.in_ok-digests_beside.field-0.items;
      index = c.args.index;
    } in
    let read = own_path-read _ _ _ c.parts.ensures.tree c.args.index c.len.result _ _
    (rw c.parts.ensures.leaves c.requires)
    (rw c.parts.ensures.leaves (sym c.get_leaf_sibling_hash.ensures ∙ copied)) c.len.ensures.count
    (sym (done_injective _ _ c.in_ok-digests_beside.ensures)) in
    let is : path_in now c.args.index ≡ own =
    subst (λ (t : HashedTree _). path_in t c.args.index ≡ own) c.parts.ensures.seen read in
    record {
      proof = rw g.met.P.Views.way_is (ap Ok is);
      accepted = rw g.met.P.Views.way_is (λ leaf r digest rooted.
          own_path-accepted _ _ _ (is_tree-seen c.parts.ensures.seen c.parts.ensures.tree) c.args.index
          (rw g.met.P.Views.tree_is c.requires) own _ r is digest rooted);
    }

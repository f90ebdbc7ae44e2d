use Rattle.ark_base.proofs.Refusals.{passed_on}
use Rattle.std.proofs.Common.{◌≡◌, ◌<◌, Ok, ap, length, subst}
use Rattle.std.specs.List.{All}
use Rattle.ark_base.specs.Laws.Steps.{done_injective}
use Rattle.ark_paths.specs.MultiPath.{MultiWay}
use Rattle.ark_paths.specs.Rows.{digests_of, rows_seen}
use Rattle.ark_paths.specs.Tree.{HashedTree}
use Rattle.ark_paths.specs.Rising.{rising_set}
use Rattle.ark_merkle.specs.MultiProof.{multi_path_in}
use Rattle.ark_paths.proofs.MultiIndexes.{rising-increases, rising-elements}
use Rattle.ark_merkle.proofs.MultiOwn.{neighbours-inside, hold-indexes, own_multi_path-read, own_multi_path-decoded, own_multi_path-accepted}
use Rattle.ark_merkle.proofs.TreeReads.{is_tree-seen}
use Rattle.ark_merkle.proofs.StrictOwn.{own_multi_path-strict}
use Rattle.ark_merkle.proofs.tree.MerkleTree.generate_multi_proof.Goals as goal

pub digests_at_neighbours-requires : goal.digests_at_neighbours-requires
digests_at_neighbours-requires g c =
    neighbours-inside _ _ _ _ c.parts.ensures.tree c.args.indexes.now _ (rw c.parts.ensures.leaves c.requires)
    (done_injective _ _ c.in_ok-leaf_indexes.ensures) _ c.deref.ensures.value

pub digests_beside_each-requires : goal.digests_beside_each-requires
digests_beside_each-requires g c =
    hold-indexes _ _ _ _ c.parts.ensures.tree c.args.indexes.now _ (rw c.parts.ensures.leaves c.requires)
    (done_injective _ _ c.in_ok-leaf_indexes.ensures) _ c.deref-2.ensures.value c.parts.ensures.fits

pub returns : goal.returns
returns g c =
    let asked = c.args.indexes.now in
    let now = g.P.Views.tree c.args.self.now in
    let once : rising_set asked ≡ c.in_ok-leaf_indexes.leaf_indexes.items =
    done_injective _ _ c.in_ok-leaf_indexes.ensures in
    let inside : All (λ i. i < length now.leaves) asked = rw g.met.P.Views.tree_is c.requires in
    let tree = is_tree-seen c.parts.ensures.seen c.parts.ensures.tree in
    let read = own_multi_path-read _ _ _ _ c.parts.ensures.tree asked _ (rw c.parts.ensures.leaves c.requires) once _
    c.deref.ensures.value _ _ _ _ c.deref-2.ensures.value (done_injective _ _ c.in_ok-leaf_siblings_hashes.ensures)
    (done_injective _ _ c.in_ok-auth_paths_prefix_lenghts.ensures.prefixes)
    (done_injective _ _ c.in_ok-auth_paths_prefix_lenghts.ensures.suffixes) in
    let seen : MultiWay = record {
      siblings = digests_of g.P.LeafDigest.Numbered.numbers c.in_ok-leaf_siblings_hashes.leaf_siblings_hashes;
      prefixes = c.in_ok-auth_paths_prefix_lenghts.auth_paths_prefix_lenghts.items;
      suffixes = rows_seen g.P.InnerDigest.Numbered.numbers c.in_ok-auth_paths_prefix_lenghts.auth_paths_suffixes;
      indexes = c.in_ok-leaf_indexes.leaf_indexes.items;
    } in
    let own : multi_path_in now asked ≡ seen =
    subst (λ (t : HashedTree _). multi_path_in t asked ≡ seen) c.parts.ensures.seen read in
    record {
      rising = rw (← once) (rising-increases asked);
      same = rw (← once) (rising-elements asked);
      proof = rw g.met.P.Views.multi_way_is (ap Ok own);
      strict = rw g.met.P.Views.multi_way_is (λ some. own_multi_path-strict _ _ _ tree asked inside some seen own);
      decoded = rw g.met.P.Views.multi_way_is (own_multi_path-decoded _ _ _ tree asked inside seen _ own once);
      accepted = rw g.met.P.Views.multi_way_is (λ some leaves r hashed rooted.
          own_multi_path-accepted _ _ _ tree asked inside seen _ own once _ r some hashed rooted);
    }

pub returns-in_err-leaf_indexes-clause-proof : goal.returns-in_err-leaf_indexes-clause-proof
returns-in_err-leaf_indexes-clause-proof g c = passed_on _ _ c.from_residual.result _ c.from_residual.ensures.1
    c.in_err-leaf_indexes.ensures (λ refused. absurd cc)

pub returns-in_err-leaf_siblings_hashes-clause-proof : goal.returns-in_err-leaf_siblings_hashes-clause-proof
returns-in_err-leaf_siblings_hashes-clause-proof g c =
    passed_on _ _ c.from_residual-in_err-leaf_siblings_hashes.result _
    c.from_residual-in_err-leaf_siblings_hashes.ensures.1 c.in_err-leaf_siblings_hashes.ensures (λ refused. absurd cc)

pub returns-in_err-auth_paths_prefix_lenghts-clause-proof : goal.returns-in_err-auth_paths_prefix_lenghts-clause-proof
returns-in_err-auth_paths_prefix_lenghts-clause-proof g c =
    passed_on _ _ c.from_residual-in_err-auth_paths_prefix_lenghts.result _
    c.from_residual-in_err-auth_paths_prefix_lenghts.ensures.1
    c.in_err-auth_paths_prefix_lenghts.ensures.prefixes (λ refused. absurd cc)

-- Leaves that are hashed into memory, and paths out of it.
use Rattle.std.proofs.Common.{◌≡◌, ◌<◌, ℕ, List, length, map, get_or, nat_lt, Bool, true, false, Option, Some, None, IfSome, Result, Ok, IfOk, refl, sym, ap, subst, ◌∙◌}
use Rattle.std.proofs.lemmas.Bool.{ltb-true}
use Rattle.std.proofs.lemmas.List.Sums.{AllPass-from_list_all}
use Rattle.std.specs.List.{All, list_all}
use Rattle.ark_base.specs.Outcome.{◌>>=◌}
use Rattle.ark_merkle.specs.MultiProof.{multi_path_in}
use Rattle.ark_paths.specs.Index.{is_tree_size}
use Rattle.ark_paths.specs.MultiPath.{MultiWay}
use Rattle.ark_paths.specs.Pair.{Digest}
use Rattle.ark_paths.specs.Path.{Way}
use Rattle.ark_paths.specs.Tree.{path_in, tree_with}
use Rattle.ark_paths.proofs.StrictLaws.{both_hold}
use Rattle.kept_tree.specs.KeptTree.{KeepsTree, kept_multi_way, kept_way, leaf_count}
use Rattle.kept_tree.proofs.HeldTrees.{held-path}
use Rattle.kept_tree.proofs.Lengths.{held-count, held-length}
use Rattle.kept_tree.proofs.MultiPaths.{held-multi}
use Rattle.paxidore_calls.specs.Answer.{are_indexes, leaves_in, only_if, tree_leaves_in}
use Rattle.paxidore_calls.specs.Cut.{parts_by}
use Rattle.paxidore_calls.specs.Hashing.{Hashing, bytes_of_multi_path, bytes_of_path, hashes_of}
use Rattle.paxidore_c.specs.KeptAnswer.{kept_index, kept_multi_path, kept_path, multi_path_of_digests, path_of_digests}
use Rattle.paxidore_calls.specs.declared.refused.Refused.{Refused}
use Rattle.paxidore_calls.specs.declared.refused.Refused.TheVariants.{Index}

-- ---- paths

-- a tree's own path stands in the memory that holds the tree
pub path-held : (h : Hashing) (memory leaves : List Digest) (index : ℕ) → KeepsTree h.node memory leaves
    → kept_path memory index ≡ path_of_digests h leaves index
path-held h memory leaves index holds =
    ap (λ (place : Result ℕ Refused). place >>= λ place. done (kept_way memory place)) indexed
    ∙ by_index (nat_lt index (length leaves)) refl
  where
    indexed : kept_index (length memory) index ≡ only_if (nat_lt index (length leaves)) Index (Ok index)
    indexed = rw (held-length h.node memory leaves holds, held-count h.node memory leaves holds) refl

    done : Way → Result (List ℕ) Refused
    done way = Ok (bytes_of_path way)

    by_index : (below : Bool) → nat_lt index (length leaves) ≡ below
        → (only_if below Index (Ok index) >>= λ place. Ok (bytes_of_path (kept_way memory place)))
        ≡ only_if below Index (Ok (bytes_of_path (path_in (tree_with (hashes_of h) leaves) index)))
    by_index true is = ap done (sym (held-path h.node memory leaves holds index (ltb-true index (length leaves) is)))
    by_index false is = refl

-- a tree's own multi-proof stands in the memory that holds the tree
pub multi-path-held : (h : Hashing) (memory leaves : List Digest) (indexes : List ℕ) → KeepsTree h.node memory leaves
    → kept_multi_path memory indexes ≡ multi_path_of_digests h leaves indexes
multi-path-held h memory leaves indexes holds =
    rw (held-length h.node memory leaves holds, count) (by_indexes (are_indexes (length leaves) indexes) refl)
  where
    count : leaf_count (length memory) ≡ length leaves
    count = held-count h.node memory leaves holds

    done : MultiWay → Result (List ℕ) Refused
    done way = Ok (bytes_of_multi_path way)

    by_indexes : (are : Bool) → are_indexes (length leaves) indexes ≡ are
        → only_if are Index (done (kept_multi_way memory indexes))
        ≡ only_if are Index (done (multi_path_in (tree_with (hashes_of h) leaves) indexes))
    by_indexes false is = refl
    by_indexes true is =
        let both = both_hold (nat_lt 0 (length indexes)) (list_all (λ i. nat_lt i (length leaves)) indexes) is in
        let pass = AllPass-from_list_all (λ i. nat_lt i (length leaves)) indexes both.1 in
        let inside : All (λ index. index < length leaves) indexes =
        λ k d below. ltb-true (get_or indexes k d) (length leaves) (pass k d below) in
        ap done (sym (held-multi h.node memory leaves holds indexes (rw count inside)))

-- ---- leaves

-- what holds of leaf digests in memory holds of those of the leaves
pub held-leaves : (h : Hashing) (memory : List Digest) (bytes lengths : List ℕ) (digests : List Digest)
    → is_tree_size (length lengths) ≡ true → IfSome (parts_by bytes lengths) (λ xs. digests ≡ map h.leaf_hash xs)
    → KeepsTree h.node memory digests
    → IfOk (tree_leaves_in bytes lengths) (λ xs. KeepsTree h.node memory (map h.leaf_hash xs))
held-leaves h memory bytes lengths digests sized are holds = rw sized (by_parts (parts_by bytes lengths) are)
  where
    by_parts : (o : Option (List (List ℕ))) → IfSome o (λ xs. digests ≡ map h.leaf_hash xs)
        → IfOk (leaves_in o) (λ xs. KeepsTree h.node memory (map h.leaf_hash xs))
    by_parts None same = tt
    by_parts (Some xs) same = subst (KeepsTree h.node memory) same holds

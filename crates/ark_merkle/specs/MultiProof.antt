-- A tree's own multi-proofs.
use Rattle.std.specs.Prelude.{◌≡◌, get_or, Option, Some, Ok, true, ℕ, List, [], map}
use Rattle.ark_paths.specs.Rising.{rising_set}
use Rattle.ark_paths.specs.MultiPath.{MultiWay, multi_verdict}
use Rattle.ark_paths.specs.Pair.{Digest, HashPair}
use Rattle.ark_paths.specs.Path.{Way}
use Rattle.ark_paths.specs.Sharing.{multi_path_of}
use Rattle.ark_paths.specs.Tree.{HashedTree, root_in, own_path, path_in}

-- the multi-proof of some indexes: that of their own paths, each once, rising
abbrev pub own_multi_path : HashPair → List ℕ → List Digest → MultiWay
own_multi_path h indexes digests = multi_path_of (map (λ i. own_path h i digests) (rising_set indexes))

-- the multi-proof of some indexes of a tree
abbrev pub multi_path_in : {A : Type 0} → HashedTree A → List ℕ → MultiWay
multi_path_in tree indexes = own_multi_path tree.hashes.pair indexes tree.leaves

-- the paths of some indexes of a tree
abbrev pub paths_in : {A : Type 0} → HashedTree A → List ℕ → List (Option Way)
paths_in tree indexes = map (λ i. Some (path_in tree i)) indexes

-- A multi-proof gives the tree's root for all leaves that stand at these indexes in turn.
abbrev pub IsMultiAccepted : {A : Type 0} → HashedTree A → List ℕ → MultiWay → Type 0
IsMultiAccepted {A} tree indexes proof = (leaves : List A) (r : Digest)
    → map tree.hashes.leaf leaves ≡ map (λ i. Ok (get_or tree.leaves i [])) indexes → root_in tree ≡ Ok r
    → multi_verdict tree.hashes.pair (map tree.hashes.leaf leaves) proof r ≡ Ok true

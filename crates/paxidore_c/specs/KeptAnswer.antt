-- What calls on kept trees answer.
use Rattle.std.specs.Prelude.{ℕ, ◌+◌, ◌*◌, ◌==◌, List, [], length, get_or, nat_lt, Bool, Result, Ok}
use Rattle.ark_base.specs.Outcome.{◌>>=◌}
use Rattle.ark_merkle.specs.MultiProof.{multi_path_in}
use Rattle.ark_paths.specs.Index.{is_tree_size}
use Rattle.ark_paths.specs.Pair.{Digest}
use Rattle.ark_paths.specs.Tree.{path_in, tree_with}
use Rattle.kept_tree.specs.JoinedTrees.{is_joined_length}
use Rattle.kept_tree.specs.KeptTree.{is_tree_length, kept_multi_way, kept_way, leaf_count}
use Rattle.paxidore_calls.specs.Answer.{are_indexes, leaves_in, only_if}
use Rattle.paxidore_calls.specs.Cut.{parts_by}
use Rattle.paxidore_calls.specs.Hashing.{Hashing, bytes_of_multi_path, bytes_of_path, hashes_of}
use Rattle.paxidore_calls.specs.declared.refused.Refused.{Refused}
use Rattle.paxidore_calls.specs.declared.refused.Refused.TheVariants.{Count, Index, Size}

-- the digest that stands first, where a tree has as many digests as memory
abbrev pub kept_root : List Digest → Result Digest Refused
kept_root memory = only_if (is_tree_length (length memory)) Size (Ok (get_or memory 0 []))

-- what is said of memory, where a tree has so many digests
abbrev pub kept_check : ℕ → Bool → Result Bool Refused
kept_check count holds = only_if (is_tree_length count) Size (Ok holds)

-- an index of a leaf, where a tree has so many digests
abbrev pub kept_index : ℕ → ℕ → Result ℕ Refused
kept_index count index =
    only_if (is_tree_length count) Size (only_if (nat_lt index (leaf_count count)) Index (Ok index))

-- the bytes of the path of an index, as it stands in memory
abbrev pub kept_path : List Digest → ℕ → Result (List ℕ) Refused
kept_path memory index = do
  place ← kept_index (length memory) index
  Ok (bytes_of_path (kept_way memory place))

-- the bytes of the path of an index in the tree above some leaf digests
abbrev pub path_of_digests : Hashing → List Digest → ℕ → Result (List ℕ) Refused
path_of_digests h leaves index =
    only_if (nat_lt index (length leaves)) Index (Ok (bytes_of_path (path_in (tree_with (hashes_of h) leaves) index)))

-- the bytes of the multi-proof of some indexes, of which there is one at least, as it stands in memory
abbrev pub kept_multi_path : List Digest → List ℕ → Result (List ℕ) Refused
kept_multi_path memory indexes = only_if (is_tree_length (length memory)) Size
    (only_if (are_indexes (leaf_count (length memory)) indexes) Index
    (Ok (bytes_of_multi_path (kept_multi_way memory indexes))))

-- the bytes of the multi-proof of some indexes, of which there is one at least, in the tree above some leaf digests
abbrev pub multi_path_of_digests : Hashing → List Digest → List ℕ → Result (List ℕ) Refused
multi_path_of_digests h leaves indexes = only_if (are_indexes (length leaves) indexes) Index
    (Ok (bytes_of_multi_path (multi_path_in (tree_with (hashes_of h) leaves) indexes)))

-- the leaves of a tree that has so many digests
abbrev pub leaves_to_keep : ℕ → List ℕ → List ℕ → Result (List (List ℕ)) Refused
leaves_to_keep count leaves lengths = only_if (is_tree_size (length lengths)) Size
    (only_if (count + 1 == 2 * length lengths) Size (leaves_in (parts_by leaves lengths)))

-- the leaves for as many indexes of a tree that has so many digests
abbrev pub leaves_to_change : ℕ → List ℕ → List ℕ → List ℕ → Result (List (List ℕ)) Refused
leaves_to_change count indexes leaves lengths = only_if (is_tree_length count) Size
    (only_if (length lengths == length indexes) Count (do
      xs ← leaves_in (parts_by leaves lengths)
      only_if (are_indexes (leaf_count count) indexes) Index (Ok xs)))

-- how many kept trees of equal size are joined, where their tree has so many digests
abbrev pub trees_to_join : ℕ → List Digest → ℕ → Result ℕ Refused
trees_to_join tree parts count = only_if (is_joined_length (length parts) count tree) Size (Ok count)

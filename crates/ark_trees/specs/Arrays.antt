-- Hashes of arrays as hashes of trees.
use Rattle.std.specs.Prelude.{ℕ, List, Ok}
use Rattle.std.specs.declared.vec.Vec.{Vec}
use Rattle.ark_paths.specs.Pair.{Digest, Hashes}

-- the hashes of a tree of byte strings, on every level alike: nothing is refused
abbrev pub array_hashes : {Z : Type 0} → (List ℕ → Digest) → (Digest → Digest → Digest) → Hashes (Vec ℕ Z)
array_hashes leaf_hash node_hash = record {
  leaf = λ leaf. Ok (leaf_hash leaf.items);
  pair = record { bottom = λ left right. Ok (node_hash left right); upper = λ left right. Ok (node_hash left right) };
}

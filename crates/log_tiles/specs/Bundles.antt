-- Bundles of entries, as C2SP's tlog-tiles has them: the entries of a tile of the lowest level.
use Rattle.std.specs.Prelude.{◌≡◌, ℕ, ◌≤◌, List, ◌++◌, length, map, All}
use Rattle.std.specs.Int.{w16, to_be_bytes}
use Rattle.std.specs.List.{flat_map}
use Rattle.ark_paths.specs.Pair.{Digest}
use Rattle.ark_trees.specs.Rfc6962.{entry_hash}

-- an entry behind its length in two bytes, the highest first
abbrev pub entry_bytes : List ℕ → List ℕ
entry_bytes entry = to_be_bytes w16 (length entry) ++ entry

-- The bytes are a bundle of entries that have these digests: one behind the other, and nothing else. None is longer
-- than its two bytes can say.
pub record IsBundleOf (digests : List Digest) (bytes : List ℕ) : Type 0 where
  pub entries : List (List ℕ)
  pub short : All (λ entry. length entry ≤ 65535) entries
  pub bytes_are : bytes ≡ flat_map entry_bytes entries
  pub hashed : map entry_hash entries ≡ digests

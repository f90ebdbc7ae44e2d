-- How many pairs the check of a multi-proof hashes.
use Rattle.std.specs.Prelude.{◌≡◌, ℕ, suc, ◌*◌, ◌+◌, ◌<◌, min, List, length, map, get_or, Option, Some, Ok, []}
use Rattle.std.specs.Iterator.{Yields}
use Rattle.std.specs.List.{All}
use Rattle.ark_base.specs.Outcome.{Outcome}
use Rattle.ark_paths.specs.Above.{count_above}
use Rattle.ark_paths.specs.Index.{IsTreeSize, log2}
use Rattle.ark_paths.specs.MultiPath.{MultiWay, path_length, decoded_paths}
use Rattle.ark_paths.specs.Pair.{Digest, HashPair}
use Rattle.ark_paths.specs.Root.{root}
use Rattle.ark_paths.specs.Tree.{own_path}

-- A count rose by a number. Past the largest `usize` it stays there.
abbrev pub RisesBy : ℕ → ℕ → ℕ → Type 0
RisesBy more before after = min after 18446744073709551615 ≡ min (before + more) 18446744073709551615

-- the most that are hashed for a multi-proof: those of each index, on a path of the first suffix's length
abbrev pub most_asked : MultiWay → ℕ
most_asked m = length m.indexes * suc (path_length m)

-- A multi-proof with some leaves is a tree's own: the root is that of these leaf digests, the paths are theirs, and
-- each leaf's digest is the one at its index.
pub record IsOwn (h : HashPair) (digests : List Digest) (root_given : Digest) (leaves : List (Outcome Digest))
    (m : MultiWay) : Type 0 where
  pub size : IsTreeSize (length digests)
  pub rooted : root h digests ≡ Ok root_given
  pub inside : All (λ i. i < length digests) m.indexes
  pub paths : decoded_paths m ≡ map (λ i. Some (own_path h i digests)) m.indexes
  pub hashed : leaves ≡ map (λ i. Ok (get_or digests i [])) m.indexes

-- A count rose by the places above the indexes, each once, if the multi-proof with the leaves that an iterator gave
-- first is a tree's own.
pub record CountsOwn {S B : Type 0} (steps : S → Option B → S → Type 0) (view : B → Outcome Digest) (start : S)
    (h : HashPair) (root_given : Digest) (m : MultiWay) (before after : ℕ) : Type 0 where
  pub taken : List B
  pub behind : S
  pub gave : Yields steps start taken behind
  pub each : length taken ≡ length m.indexes
  pub exact : (digests : List Digest) → IsOwn h digests root_given (map view taken) m
      → RisesBy (count_above (log2 (length digests)) m.indexes) before after

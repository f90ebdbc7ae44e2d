-- What paths share in a multi-proof.
use Rattle.std.specs.Prelude.{ℕ, zero, suc, List, [], ◌∷◌, map, drop, if◌then◌else◌}
use Rattle.ark_paths.specs.MultiPath.{MultiWay}
use Rattle.ark_paths.specs.Pair.{Digest, digest_eq}
use Rattle.ark_paths.specs.Path.{Way}

-- how many first digests two lists have in common
abbrev pub shared_count : List Digest → List Digest → ℕ
shared_count [] ys = zero
shared_count (x ∷ xs) [] = zero
shared_count (x ∷ xs) (y ∷ ys) = if digest_eq x y then suc (shared_count xs ys) else zero

-- how many first digests each list has in common with the one before it, and what each adds to those
abbrev pub prefixes_of : List Digest → List (List Digest) → List ℕ
prefixes_of before [] = []
prefixes_of before (list ∷ lists) = shared_count before list ∷ prefixes_of list lists

-- what each list adds to the digests that it shares with the one before
abbrev pub suffixes_of : List Digest → List (List Digest) → List (List Digest)
suffixes_of before [] = []
suffixes_of before (list ∷ lists) = drop (shared_count before list) list ∷ suffixes_of list lists

-- the multi-proof of some paths, in which each takes as much from the one before as it can; no digests stand before the
-- first
abbrev pub multi_path_of : List Way → MultiWay
multi_path_of ways = record {
  siblings = map (λ way. way.sibling) ways;
  prefixes = prefixes_of [] (map (λ way. way.above) ways);
  suffixes = suffixes_of [] (map (λ way. way.above) ways);
  indexes = map (λ way. way.index) ways;
}

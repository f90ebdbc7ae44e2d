-- Strict multi-proofs: of all that decode to the same paths, one alone is strict.
use Rattle.std.specs.Prelude.{◌==◌, ◌≡◌, ℕ, ◌+◌, ◌<◌, ◌^◌, nat_lt, List, [], ◌∷◌, length, map, Bool, true, false, ◌&&◌, if◌then◌else◌, Option, Some, None, Ok, Err}
use Rattle.std.specs.List.{All, list_all}
use Rattle.std.specs.List.Sorted.{IsStrictlyIncreasing}
use Rattle.ark_base.specs.declared.error.SerializationError.TheVariants.{InvalidData}
use Rattle.ark_base.specs.Outcome.{◌>>=◌}
use Rattle.ark_base.specs.Reading.{Reading}
use Rattle.ark_paths.specs.MultiPath.{MultiWay, path_length, decoded_paths}
use Rattle.ark_paths.specs.Sharing.{shared_count}
use Rattle.ark_paths.specs.Pair.{Digest}
use Rattle.ark_paths.specs.Path.{Way}

-- whether numbers rise
abbrev pub are_rising : List ℕ → Bool
are_rising [] = true
are_rising (n ∷ []) = true
are_rising (n ∷ next ∷ numbers) = nat_lt n next && are_rising (next ∷ numbers)

-- whether each place decodes, and takes from the path before as many first digests as the two have in common
abbrev pub are_longest : List Digest → List ℕ → List (Option Way) → Bool
are_longest before prefixes [] = true
are_longest before [] (way ∷ ways) = false
are_longest before (prefix ∷ prefixes) (None ∷ ways) = false
are_longest before (prefix ∷ prefixes) (Some way ∷ ways) =
    (prefix == shared_count before way.above) && are_longest way.above prefixes ways

-- whether a multi-proof is strict: it has an index, its four lists have one length, the indexes rise and are those of a
-- tree whose paths are as long as the first one, and each path takes as much from the one before as it can, the first
-- one nothing
abbrev pub is_strict : MultiWay → Bool
is_strict m =
    let count = length m.indexes in
    nat_lt 0 count && (length m.siblings == count) && (length m.prefixes == count) && (length m.suffixes == count)
    && are_rising m.indexes && list_all (λ index. nat_lt index (2 ^ (path_length m + 1))) m.indexes
    && are_longest [] m.prefixes (decoded_paths m)

-- a multi-proof that was read, where it is strict
abbrev pub if_strict : MultiWay × List ℕ → Reading MultiWay
if_strict read = if is_strict read.0 then Ok read else Err InvalidData

-- a reading in which a multi-proof that is not strict is a fault
abbrev pub strict_reading : Reading MultiWay → Reading MultiWay
strict_reading reading = do
  read ← reading
  if_strict read

-- ---- which paths have a strict multi-proof

-- some paths of k digests, at rising indexes below 2 ^ (k + 1)
pub record AreInOrder (k : ℕ) (ways : List Way) : Type 0 where
  pub some : 0 < length ways
  pub same_length : All (λ way. length way.above ≡ k) ways
  pub rising : IsStrictlyIncreasing (map (λ way. way.index) ways)
  pub within_tree : All (λ way. way.index < 2 ^ (k + 1)) ways

-- Where a digest stands first.
use Rattle.std.specs.Prelude.{◌≡◌, ◌≢◌, ◌<◌, ℕ, List, [], length, get_or, Option, Some, None}
use Rattle.ark_paths.specs.Pair.{Digest}

-- Of so many digests, each by an index, the first that is this one has the index; where there is none, none of them is
-- this one.
abbrev pub IsFirstOf : (ℕ → Digest) → ℕ → Digest → Option ℕ → Type 0
IsFirstOf digest_at size digest (Some index) =
    (index < size) × (digest_at index ≡ digest) × ((i : ℕ) → i < index → digest_at i ≢ digest)
IsFirstOf digest_at size digest None = (i : ℕ) → i < size → digest_at i ≢ digest

-- So it is of leaves.
abbrev pub IsFirst : List Digest → Digest → Option ℕ → Type 0
IsFirst leaves digest found = IsFirstOf (λ i. get_or leaves i []) (length leaves) digest found

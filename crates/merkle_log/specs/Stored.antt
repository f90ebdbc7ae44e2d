-- What a log keeps: the digests of all complete places, in the order in which they were completed.
use Rattle.std.specs.Prelude.{◌≡◌, ◌+◌, ◌-◌, ◌*◌, ◌^◌, ℕ, suc, List, [], ◌∷◌, map, get_or, count_ones, Ok}
use Rattle.std.specs.List.{range_with_len}
use Rattle.ark_base.specs.Outcome.{Outcome, ◌>>=◌}
use Rattle.ark_paths.specs.Pair.{Digest}
use Rattle.merkle_log.specs.Walk.{index_up}
use Rattle.merkle_log.specs.Log.{NodeHash}

-- how many places are complete above a number of leaves, these among them
abbrev pub stored_count : ℕ → ℕ
stored_count size = size - count_ones size + size

-- Where the digest of a place stands, some levels up: behind those that were complete before the last leaf below it,
-- and those that this leaf completes on the levels below.
abbrev pub position : ℕ → ℕ → ℕ
position level place = stored_count ((place + 1) * 2 ^ level - 1) + level

-- a log's list: the count of its leaves, and the digests
pub record StoredValue : Type 0 where
  pub size : ℕ
  pub digests : List Digest

-- the digests of the complete places of a level
abbrev pub row_at : StoredValue → ℕ → List Digest
row_at stored level =
    map (λ place. get_or stored.digests (position level place) []) (range_with_len 0 (index_up level stored.size))

-- the hashes of the pairs of a row, where the last of an odd number has none
abbrev pub row_pairs : NodeHash → List Digest → Outcome (List Digest)
row_pairs hash [] = Ok []
row_pairs hash (a ∷ []) = Ok []
row_pairs hash (a ∷ b ∷ row) = do
  c ← hash a b
  next ← row_pairs hash row
  Ok (c ∷ next)

-- Each row has the hashes of the pairs of the row below it.
pub record IsStored (hash : NodeHash) (rows : ℕ → List Digest) : Type 0 where
  pub pairs : (level : ℕ) → row_pairs hash (rows level) ≡ Ok (rows (suc level))

-- The digests of a log's list with those in their places that were read.
use Rattle.std.specs.Prelude.{ℕ, zero, suc, ◌-◌, ◌%◌, ◌==◌, ◌&&◌, if◌then◌else◌, List, [], map, get_or}
use Rattle.std.specs.List.{range_with_len}
use Rattle.ark_paths.specs.Pair.{Digest}
use Rattle.merkle_log.specs.Kept.{front}
use Rattle.merkle_log.specs.Stored.{position, stored_count, StoredValue}
use Rattle.merkle_log.specs.Walk.{index_up}

-- the digest at a position: one of the first levels that was read, or the list's own
abbrev pub overlaid : ℕ → List Digest → List Digest → ℕ → ℕ → Digest
overlaid size peaks digests zero at = get_or digests at []
overlaid size peaks digests (suc level) at =
    if index_up level size % 2 == 1 && position level (index_up level size - 1) == at then (get_or peaks level [])
    else (overlaid size peaks digests level at)

-- a log's list with the peaks that were read, of each level at most one
abbrev pub overlay : ℕ → List Digest → List Digest → StoredValue
overlay size peaks digests = front size (map (overlaid size peaks digests 64) (range_with_len 0 (stored_count size)))

use Rattle.std.proofs.Common.{◌≡◌, ◌+◌, ◌<◌, ℕ, [], length, map, get_or}
use Rattle.ark_paths.specs.Rows.{digests_of}
use Rattle.ark_paths.proofs.multi_path.levels.have_paths.Given as goal

abbrev pub invariant-places : goal.invariant-places
invariant-places g l =
    (i : ℕ) → i < l.place
    → get_or l.prefixes i 0 + length (get_or (map (digests_of g.D.Numbered.numbers) l.suffixes) i []) ≡ l.len

use Rattle.std.proofs.Common.{◌≡◌, ◌<◌, ℕ, length, get_or}
use Rattle.ark_paths.proofs.multi_path.levels.alone.Given as goal

abbrev pub invariant-places : goal.invariant-places
invariant-places g l = record {
  many : length l.firsts.items ≡ l.place;
  firsts : (g : ℕ) → g < l.place → get_or l.firsts.items g 0 ≡ g;
}

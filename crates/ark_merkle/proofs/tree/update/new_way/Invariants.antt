use Rattle.std.proofs.Common.{◌≡◌, length, map, set}
use Rattle.ark_paths.specs.Rows.{digests_of}
use Rattle.ark_merkle.specs.Update.{AreOnWay}
use Rattle.ark_merkle.proofs.tree.update.new_way.Given as goal

-- the digests on the way so far, one for each level
abbrev pub invariant-loop-level : goal.invariant-loop-level
invariant-loop-level g l =
    let h = (g.T.TreeHasher.hashes l.hasher).pair in
    let new = set (map g.L.Numbered.numbers l.leaves) l.index (g.L.Numbered.numbers l.digest) in
    (length l.way.items ≡ l.level) × AreOnWay h new l.index (digests_of g.D.Numbered.numbers l.way)

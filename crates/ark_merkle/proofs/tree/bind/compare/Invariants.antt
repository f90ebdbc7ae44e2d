use Rattle.std.proofs.Common.{◌≡◌, ◌-◌, suc, length, map, Ok}
use Rattle.ark_paths.specs.Path.{Way}
use Rattle.ark_paths.proofs.Binds.{top_from}
use Rattle.ark_merkle.proofs.Compares.{difference_from}
use Rattle.ark_merkle.proofs.tree.bind.compare.Given as goal

-- what the path gives so far, and the first level at which it differs so far
abbrev pub invariant-loop-step : goal.invariant-loop-step
invariant-loop-step g l =
    let h = (g.T.TreeHasher.hashes l.hasher).pair in
    let numbers = g.D.Numbered.numbers in
    let leaf_numbers = g.L.Numbered.numbers in
    let way : Way = record { sibling = leaf_numbers l.sibling; above = map numbers l.above; index = l.path_index } in
    let m = length l.above in
    (top_from h way (leaf_numbers l.digest) (m - l.step) ≡ Ok (numbers l.current))
    × (l.difference ≡ difference_from h (map leaf_numbers l.leaves) way (leaf_numbers l.digest) (m - l.step)
    (suc l.step))

use Rattle.std.proofs.Common.{◌≡◌, ◌++◌, map, take}
use Rattle.ark_paths.proofs.multi_path.places.extend.Given as goal

-- the first digests of the path before, and those of the suffix so far
abbrev pub invariant-loop-digest : goal.invariant-loop-digest
invariant-loop-digest g l =
    let numbers = g.D.Numbered.numbers in
    map (λ x. numbers x.now) l.above.items ≡ take l.prefix (map (λ x. numbers x.now) l.fn.above.items) ++ map numbers
    (take l.digest-index l.suffix)

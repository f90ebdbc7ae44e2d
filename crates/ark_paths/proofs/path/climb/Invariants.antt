use Rattle.std.proofs.Common.{◌≡◌, ◌-◌, length, map, Ok}
use Rattle.ark_paths.proofs.Climbs.{so_far}
use Rattle.ark_paths.proofs.path.climb.Given as goal

abbrev pub invariant-loop-level : goal.invariant-loop-level
invariant-loop-level g l =
    let hash = (g.T.TreeHasher.hashes l.hasher).pair.upper in
    let numbers = g.D.Numbered.numbers in
    let beside = map numbers l.beside in
    so_far hash l.index beside (numbers l.initial.current) (length beside - l.level) ≡ Ok (numbers l.current)

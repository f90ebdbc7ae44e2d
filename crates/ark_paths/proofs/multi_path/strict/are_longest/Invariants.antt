use Rattle.std.proofs.Common.{map}
use Rattle.ark_paths.specs.Rows.{digests_of}
use Rattle.ark_paths.proofs.MultiStrict.{LongestTo}
use Rattle.ark_paths.proofs.multi_path.strict.are_longest.Given as goal

-- the places before are as they should be
abbrev pub invariant-loop-place : goal.invariant-loop-place
invariant-loop-place g l =
    let numbers = g.D.Numbered.numbers in
    LongestTo l.prefixes (map (digests_of numbers) l.suffixes) l.place (map (λ x. numbers x.now) l.above.items)

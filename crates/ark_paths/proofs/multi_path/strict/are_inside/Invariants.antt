use Rattle.std.proofs.Common.{◌≡◌, ◌+◌, ◌^◌, drop, nat_lt}
use Rattle.std.specs.List.{list_all}
use Rattle.ark_paths.proofs.multi_path.strict.are_inside.Given as goal

abbrev pub invariant-loop-index : goal.invariant-loop-index
invariant-loop-index l =
    let inside = list_all (λ index. nat_lt index (2 ^ (l.len + 1))) in
    inside l.indexes ≡ inside (drop l.index-index l.indexes)

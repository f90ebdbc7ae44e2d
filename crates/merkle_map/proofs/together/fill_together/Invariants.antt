use Rattle.std.proofs.Common.{◌≡◌}
use Rattle.merkle_map.specs.Kept.{IsKept}
use Rattle.merkle_map.specs.Parts.{shape}
use Rattle.merkle_map.proofs.together.fill_together.Given as goal

abbrev pub invariant-passes : goal.invariant-passes
invariant-passes g l =
    let numbers = g.D.Numbered.numbers in
    record {
      same : shape numbers l.part ≡ shape numbers l.initial.part;
      kept : IsKept numbers (g.H.MapViews.hashes l.hasher) l.part;
    }

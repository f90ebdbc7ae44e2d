use Rattle.std.proofs.Common.{[], map, take}
use Rattle.merkle_map.specs.Kept.{IsTopKept}
use Rattle.merkle_map.specs.Map.{MapHashes}
use Rattle.merkle_map.specs.Parts.{top_shape}
use Rattle.merkle_map.specs.Transition.{change_seen}
use Rattle.merkle_map.specs.Tree.{StandsAt}
use Rattle.merkle_map.proofs.Changed.{IsMade}
use Rattle.merkle_map.proofs.transition.change_all.Given as goal

abbrev pub invariant-changes : goal.invariant-changes
invariant-changes g l =
    let numbers = g.D.Numbered.numbers in
    IsMade (g.H.MapViews.hashes l.hasher) (top_shape numbers l.initial.tree) (top_shape numbers l.tree)
    (map change_seen (take l.change-index l.changes))
    × StandsAt [] (top_shape numbers l.tree)
    × ((h : MapHashes) → IsTopKept numbers h l.initial.tree → IsTopKept numbers h l.tree)

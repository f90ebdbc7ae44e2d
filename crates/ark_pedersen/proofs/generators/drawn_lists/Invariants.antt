use Rattle.std.proofs.Common.{◌^◌}
use Rattle.ark_groups.specs.Group.{times}
use Rattle.ark_pedersen.specs.Pedersen.{iterates, lists_in}
use Rattle.ark_pedersen.proofs.DrawnLists.{AreDrawnSoFar}
use Rattle.ark_pedersen.proofs.generators.drawn_lists.Given as goal

abbrev pub invariant-loop : goal.invariant-loop
invariant-loop g l =
    let group = g.C.AdditiveGroup in
    let windows = g.W.Window in
    AreDrawnSoFar (iterates (times group.group (2 ^ l.doublings)) windows.WINDOW_SIZE) group.draw windows.NUM_WINDOWS
    (g.R.Rng.stream l.initial.rng) l.counter (lists_in l.lists.items) (g.R.Rng.stream l.rng)

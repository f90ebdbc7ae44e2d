use Rattle.std.proofs.Common.{◌^◌, ◌∷◌, [], ◌∙◌, ap, arith}
use Rattle.std.proofs.lemmas.List.{map-append}
use Rattle.rand_core.specs.Stream.{Stream}
use Rattle.ark_groups.specs.Group.{times}
use Rattle.ark_pedersen.specs.Pedersen.{iterates, lists_in}
use Rattle.ark_pedersen.proofs.DrawnLists.{no_lists_drawn, one_list_drawn, all_lists_drawn}
use Rattle.ark_pedersen.proofs.generators.drawn_lists.Goals as goal

pub loop-init : goal.loop-init
loop-init g c =
    no_lists_drawn _ g.C.AdditiveGroup.draw _ _ _ (ap (λ lists. lists_in lists) c.in_ok-lists.ensures.items)

pub loop-preserved : goal.loop-preserved
loop-preserved g c =
    let group = g.C.AdditiveGroup in
    let size = g.W.Window.WINDOW_SIZE in
    let next = times group.group (2 ^ c.args.doublings) in
    let list = c.in_ok-iterates_of.field-0 in
    one_list_drawn (iterates next size) group.draw g.W.Window.NUM_WINDOWS _ c.loop.counter
    (lists_in c.loop.lists.items) _ list.items (g.R.Rng.stream c.loop.rng) _
    (omega (arith, c.loop-test.true, c.NUM_WINDOWS-end.ensures))
    (ap (λ lists. lists_in lists) c.in_ok-push.ensures.items ∙ map-append (λ made. made.items) c.loop.lists.items
    (list ∷ []))
    (c.in_ok-iterates_of.ensures.made ∙ ap (λ n. iterates next n c.rand.result) c.WINDOW_SIZE.ensures
    ∙ ap (λ (drawn : g.row.C.Denot × Stream). iterates next size drawn.0) c.rand.ensures)
    (ap (λ (drawn : g.row.C.Denot × Stream). drawn.1) c.rand.ensures)
    c.loop.invariant

pub returns-clause-made : goal.returns-clause-made
returns-clause-made g c =
    (all_lists_drawn _ g.C.AdditiveGroup.draw _ _ _ _ _ (omega (arith, c.loop-test.false, c.NUM_WINDOWS-end.ensures))
    c.loop.invariant).0

pub returns-clause-left : goal.returns-clause-left
returns-clause-left g c =
    (all_lists_drawn _ g.C.AdditiveGroup.draw _ _ _ _ _ (omega (arith, c.loop-test.false, c.NUM_WINDOWS-end.ensures))
    c.loop.invariant).1

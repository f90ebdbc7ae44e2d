use Rattle.std.proofs.Common.{◌*◌, ◌-◌, ◌+◌, ◌++◌, ◌∷◌, [], map, drop, ◌∙◌, ap}
use Rattle.std.proofs.lemmas.List.{map-append}
use Rattle.ark_pedersen.specs.Binding.{window_numbers, differences}
use Rattle.ark_pedersen.proofs.Relations.{one_window, no_window}
use Rattle.ark_pedersen.proofs.binding.differences_of.Goals as goal

pub loop-i-preserved : goal.loop-i-preserved
loop-i-preserved g c =
    let v = g.F.Valued.value in
    let l = c.loop-i in
    ap (λ t. t ++ differences g.F.Field.MODULUS (window_numbers c.args.size (c.args.count - (l.i + 1))
    (drop (c.args.size * (l.i + 1)) c.args.left.now)) (window_numbers c.args.size (c.args.count - (l.i + 1))
    (drop (c.args.size * (l.i + 1)) c.args.right.now)))
    (ap (map v) c.in_ok-push.ensures.items ∙ map-append v l.found.items (c.sub.result ∷ []))
    ∙ one_window g.F.Field.MODULUS c.args.size c.args.count l.i (v c.sub.result) c.args.left.now c.args.right.now
    (map v l.found.items) (v c.window_number-here.result) (v c.window_number.result) c.loop-i-test.true
    c.window_number-here.ensures c.window_number.ensures c.sub.ensures _ l.invariant

pub returns-clause-made : goal.returns-clause-made
returns-clause-made g c =
    no_window g.F.Field.MODULUS c.args.size c.args.count c.loop-i.i c.args.left.now c.args.right.now
    (map g.F.Valued.value c.loop-i.found.items) _ c.loop-i-test.false c.loop-i.invariant

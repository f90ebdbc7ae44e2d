use Rattle.std.proofs.Common.{◌^◌, ◌∷◌, [], ◌∙◌, map, ap, arith}
use Rattle.std.proofs.lemmas.List.{map-append}
use Rattle.std.proofs.lemmas.Result.{IfOk-weaker}
use Rattle.ark_groups.specs.Group.{times}
use Rattle.ark_pedersen.proofs.Iterates.{one_put, all_put}
use Rattle.ark_pedersen.proofs.generators.iterates_of.Goals as goal

pub loop-preserved : goal.loop-preserved
loop-preserved g c =
    let total = g.C.AdditiveGroup.total in
    let before = c.loop.sums.items in
    one_put (times g.C.AdditiveGroup.group (2 ^ c.args.doublings)) (map total before)
    (map total c.push.new.self.items) (total c.loop.last) (total c.doubled-last.result) c.args.count c.loop.counter _
    (omega arith) (ap (map total) c.in_ok-push.ensures.items ∙ map-append total before (c.loop.last ∷ []))
    c.doubled-last.ensures c.loop.invariant

pub returns-clause-made : goal.returns-clause-made
returns-clause-made g c =
    let total = g.C.AdditiveGroup.total in
    IfOk-weaker c.from_sums.result _ _ (λ list made. made ∙ ap (map total) c.deref.ensures.value
    ∙ all_put (times g.C.AdditiveGroup.group (2 ^ c.args.doublings)) (map total c.loop.sums.items) (total c.loop.last)
    c.args.count c.loop.counter _ (omega arith) c.loop.invariant) c.from_sums.ensures.made

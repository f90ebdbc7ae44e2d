use Rattle.std.proofs.Common.{◌≡◌, ◌<◌, ◌∙◌, [], length, map, get_or, Ok, ap, sym, refl}
use Rattle.std.proofs.lemmas.List.{get_or-map, map_push, take_all, take_more}
use Rattle.ark_base.specs.Laws.Steps.{done_injective}
use Rattle.ark_paths.specs.Index.{neighbour}
use Rattle.ark_merkle.proofs.tree.multi_proof.digests_at_neighbours.Goals as goal

pub bounds-leaves-neighbour_of : goal.bounds-leaves-neighbour_of
bounds-leaves-neighbour_of g c = rw c.neighbour_of.ensures (c.requires c.loop-index.index-index 0
    c.loop-index-test.true)

pub loop-index-preserved : goal.loop-index-preserved
loop-index-preserved g c =
    let numbers = g.D.Numbered.numbers in
    let indexes = c.args.indexes.now in
    let at = c.loop-index.index-index in
    let digest = c.index-leaves-neighbour_of.result in
    let copy = c.in_ok-duplicate.field-0 in
    let copied = (g.met.D.DigestItem.seen_alike digest copy).0 (done_injective _ _ c.in_ok-duplicate.ensures) in
    let within : c.neighbour_of.result < length c.args.leaves.now =
    rw c.neighbour_of.ensures (c.requires at 0 c.loop-index-test.true) in
    let read : get_or (map numbers c.args.leaves.now) (neighbour (get_or indexes at 0)) [] ≡ numbers copy =
    rw (← c.neighbour_of.ensures) (get_or-map numbers c.args.leaves.now c.neighbour_of.result digest [] within
    ∙ ap numbers (sym c.index-leaves-neighbour_of.is) ∙ copied) in
    rw (c.in_ok-push.ensures.items, map_push, c.loop-index.invariant, take_more indexes at 0 c.loop-index-test.true)
    (rw (map_push, read) refl)

pub returns : goal.returns
returns g c =
    let all = take_all c.loop-index.index-index c.args.indexes.now c.loop-index-test.false in
    ap Ok (sym (rw all at c.loop-index.invariant))

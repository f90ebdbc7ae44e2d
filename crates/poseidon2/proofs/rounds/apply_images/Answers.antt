use Rattle.std.proofs.Common.{◌+◌, ◌%◌, ◌<◌, ◌≤◌, length, map, take, ap, sym, ◌∙◌, arith}
use Rattle.std.proofs.lemmas.List.{length-map, map-set, take_all}
use Rattle.ark_sponge.proofs.Rows.{read}
use Rattle.poseidon2.proofs.Ones.{combined, combined-nil, combined-more, combined-images}
use Rattle.poseidon2.proofs.rounds.apply_images.Goals as goal

pub loop-i-init : goal.loop-i-init
loop-i-init g c = sym (combined-nil _ _)

pub loop-i-preserved : goal.loop-i-preserved
loop-i-preserved g c =
    let f = g.F.Valued.value in
    let p = g.F.Field.MODULUS in
    let image = g.S.SBox.image c.args.alpha in
    let row = c.args.row.now in
    let i = c.loop-i.i in
    let in_row : i < length row = omega arith in
    let within : i < length c.args.state.now = omega arith in
    let x = read f c.loop-i.state i c.index-state-i.result (omega arith) c.index-state-i.is in
    let k = read f row i c.index-row-i.result in_row c.index-row-i.is in
    rw (map-set f c.loop-i.state i c.apply.result, c.apply.ensures, c.add.ensures, x, k, c.loop-i.invariant)
    (combined-more (λ x k. image ((x + k) % p)) (map f c.args.state.now) (map f row) i (rw length-map within)
    (rw length-map in_row))

pub returns : goal.returns
returns g c =
    let f = g.F.Valued.value in
    let p = g.F.Field.MODULUS in
    let image = g.S.SBox.image c.args.alpha in
    let xs = map f c.args.state.now in
    let row = map f c.args.row.now in
    let end : length c.args.row.now ≤ c.loop-i.i = omega arith in
    let long = length-map c.args.row.now f ∙ c.requires ∙ sym (length-map c.args.state.now f) in
    let by = combined (λ x k. image ((x + k) % p)) xs in
    let whole = ap by (take_all c.loop-i.i row (rw length-map end)) in
    ◌∙◌ {b = by (take c.loop-i.i row)} c.loop-i.invariant (◌∙◌ {b = by row} whole (combined-images p image xs row long))

use Rattle.std.proofs.Common.{◌+◌, ◌*◌, ◌%◌, ◌<◌, ◌≤◌, length, map, take, ap, sym, ◌∙◌, arith}
use Rattle.std.proofs.lemmas.List.{length-map, map-set, take_all}
use Rattle.ark_sponge.proofs.Rows.{read}
use Rattle.poseidon2.proofs.Ones.{combined, combined-nil, combined-more, internal-by-sums}
use Rattle.poseidon2.proofs.layers.multiply_diagonal.Goals as goal

pub loop-i-init : goal.loop-i-init
loop-i-init g c = sym (combined-nil _ _)

pub loop-i-preserved : goal.loop-i-preserved
loop-i-preserved g c =
    let f = g.F.Valued.value in
    let p = g.F.Field.MODULUS in
    let all = f c.total-all.result in
    let ds = c.args.diagonal.now in
    let i = c.loop-i.i in
    let in_ds : i < length ds = omega arith in
    let within : i < length c.args.state.now = omega arith in
    let x = read f c.loop-i.state i c.index-state-i.result (omega arith) c.index-state-i.is in
    let d = read f ds i c.index-diagonal-i.result in_ds c.index-diagonal-i.is in
    rw (map-set f c.loop-i.state i c.add.result, c.add.ensures, c.mul.ensures, x, d, c.loop-i.invariant)
    (combined-more (λ x d. (x * d % p + all) % p) (map f c.args.state.now) (map f ds) i (rw length-map within)
    (rw length-map in_ds))

pub returns : goal.returns
returns g c =
    let f = g.F.Valued.value in
    let p = g.F.Field.MODULUS in
    let all = f c.total-all.result in
    let xs = map f c.args.state.now in
    let ds = map f c.args.diagonal.now in
    let end : length c.args.diagonal.now ≤ c.loop-i.i = omega arith in
    let long = length-map c.args.diagonal.now f ∙ c.requires ∙ sym (length-map c.args.state.now f) in
    let by = combined (λ x d. (x * d % p + all) % p) xs in
    let whole = ap by (take_all c.loop-i.i ds (rw length-map end)) in
    let product = internal-by-sums p all ds xs long c.total-all.ensures in
    ◌∙◌ {b = by (take c.loop-i.i ds)} c.loop-i.invariant (◌∙◌ {b = by ds} whole product)

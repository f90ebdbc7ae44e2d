use Rattle.std.proofs.Common.{◌≡◌, ℕ, List, ◌+◌, ◌*◌, ◌%◌, ◌<◌, ◌≤◌, length, get_or, map, take, replicate, ap, sym, ◌∙◌, arith}
use Rattle.std.proofs.lemmas.List.{length-map, map-set, take_all, get_or-replicate}
use Rattle.ark_sponge.proofs.Rows.{read}
use Rattle.poseidon2.proofs.Ones.{combined, combined-nil, combined-more, total-by-sums, length-ones}
use Rattle.poseidon2.proofs.layers.add_total.Goals as goal

pub loop-i-init : goal.loop-i-init
loop-i-init g c = sym (combined-nil _ _)

pub loop-i-preserved : goal.loop-i-preserved
loop-i-preserved g c =
    let f = g.F.Valued.value in
    let p = g.F.Field.MODULUS in
    let all = f c.total-all.result in
    let width = length c.args.state.now in
    let i = c.loop-i.i in
    let within : i < width = omega arith in
    let ones : List ℕ = replicate width 1 in
    let x = f c.index-state-i.result in
    let once : x + all ≡ x * 1 + all = omega arith in
    let one : 1 ≡ get_or ones i 0 = sym (get_or-replicate width i 1 0 within) in
    let times : x + all ≡ x * get_or ones i 0 + all = once ∙ ap (λ d. x * d + all) one in
    let sum = ◌∙◌ {b = (x + all) % p} c.add.ensures (ap (λ m. m % p) times) in
    let is = read f c.loop-i.state i c.index-state-i.result (omega arith) c.index-state-i.is in
    rw (map-set f c.loop-i.state i c.add.result, sum, is, c.loop-i.invariant)
    (combined-more (λ x d. (x * d + all) % p) (map f c.args.state.now) ones i (rw length-map within)
    (rw (length-ones width) within))

pub returns : goal.returns
returns g c =
    let f = g.F.Valued.value in
    let p = g.F.Field.MODULUS in
    let all = f c.total-all.result in
    let width = length c.args.state.now in
    let xs = map f c.args.state.now in
    let ones : List ℕ = replicate width 1 in
    let end : width ≤ c.loop-i.i = omega arith in
    let by = combined (λ x d. (x * d + all) % p) xs in
    let whole = ap by (take_all c.loop-i.i ones (rw (length-ones width) end)) in
    let product = total-by-sums p all width xs (sym (length-map c.args.state.now f)) c.total-all.ensures in
    ◌∙◌ {b = by (take c.loop-i.i ones)} c.loop-i.invariant (◌∙◌ {b = by ones} whole product)

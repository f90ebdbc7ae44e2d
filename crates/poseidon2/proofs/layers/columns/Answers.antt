use Rattle.std.proofs.Common.{◌≡◌, ℕ, ◌+◌, ◌*◌, ◌≤◌, length, get_or, map, ap, sym, ◌∙◌, arith}
use Rattle.std.proofs.Math.Nat.{zero-mod}
use Rattle.std.proofs.lemmas.List.{length-map}
use Rattle.poseidon2.proofs.BlockSums.{column-more}
use Rattle.poseidon2.proofs.layers.columns.Goals as goal

pub loop-b-init : goal.loop-b-init
loop-b-init g c =
    let none = c.zero-zero.ensures ∙ sym (zero-mod g.F.Field.MODULUS) in
    (none, none, none, none)

pub loop-b-preserved : goal.loop-b-preserved
loop-b-preserved g c =
    let f = g.F.Valued.value in
    let xs = map f c.args.state.now in
    let b = c.loop-b.b in
    let within : 4 * b ≤ length c.args.state.now = omega arith in
    let fits : 4 * b ≤ length xs = rw length-map within in
    let front : get_or xs (4 * b) 0 ≡ get_or xs (4 * b + 0) 0 = ap (λ m. get_or xs m 0) (omega arith) in
    let read = c.block_at.ensures in
    let so_far = c.loop-b.invariant in
    let sums = c.sum_of_blocks-all.ensures in
    let p = g.F.Field.MODULUS in
    let more = λ (k : ℕ). column-more p k b xs fits in (
      rw (sums.w0, so_far.0, read.w0, front) (more 0),
      rw (sums.w1, so_far.1, read.w1) (more 1),
      rw (sums.w2, so_far.2, read.w2) (more 2),
      rw (sums.w3, so_far.3, read.w3) (more 3),
    )

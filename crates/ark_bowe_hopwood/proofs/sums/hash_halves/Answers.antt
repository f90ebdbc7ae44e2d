use Rattle.std.proofs.Common.{◌≡◌, ℕ, ◌*◌, ◌-◌, ◌/◌, ◌≤◌, ◌++◌, Ok, length, sym, ap, ◌∙◌, refl, arith}
use Rattle.std.specs.Int.{div_ceil}
use Rattle.ark_base.specs.Outcome.{Outcome}
use Rattle.ark_base.specs.Reading.{IsBytes}
use Rattle.ark_pedersen.specs.Pedersen.{window_bits, lists_in, full_halves}
use Rattle.ark_pedersen.proofs.Halves.{length-full_halves, of_halves-full}
use Rattle.ark_pedersen.proofs.ByteLists.{IsBytes-append}
use Rattle.ark_bowe_hopwood.specs.BoweHopwood.{bowe_hopwood_hash}
use Rattle.ark_bowe_hopwood.proofs.Hashes.{hash_of_text}
use Rattle.ark_bowe_hopwood.proofs.sums.hash_halves.Goals as goal

pub returns : goal.returns
returns g c =
    let windows = g.W.Window in
    let left = c.args.left.now in
    let right = c.args.right.now in
    let half = window_bits windows / 2 in
    let lists = lists_in c.args.generators.now in
    let same = c.if-left-right.false in
    let short = rw (c.WINDOW_SIZE.ensures, c.NUM_WINDOWS.ensures) at c.if-left-WINDOW_SIZE.false in
    let whole = full_halves half left right in
    let long = length-full_halves half left right same short in
    let bits : 8 * (c.WINDOW_SIZE-2.result * c.NUM_WINDOWS-2.result / 8) ≡ 8 * length whole =
    rw (c.WINDOW_SIZE-2.ensures, c.NUM_WINDOWS-2.ensures) (omega (arith, long)) in
    let count : c.div_ceil-chunks.result ≡ div_ceil (8 * length whole) 3 =
    c.div_ceil-chunks.ensures ∙ ap (λ (n : ℕ). div_ceil n 3) bits in
    let fits : 8 * length whole ≤ 3 * (windows.WINDOW_SIZE * windows.NUM_WINDOWS) = omega (arith, long) in
    let bytes : IsBytes (left ++ right) = IsBytes-append left right (λ k. omega (arith, c.type_inv.left k))
    (λ k. omega (arith, c.type_inv.right k)) in
    ap (λ (n : ℕ). let o : Outcome ℕ = Ok n in o) c.x.ensures
    ∙ hash_of_text g.G.AdditiveGroup.group g.G.TECoordinates.x windows lists (left ++ right) whole
    (2 * half / 8 - length
    (left ++ right)) c.div_ceil-chunks.result c.sum_of_text.result bytes refl fits (sym c.if-not-has_shape.ensures)
    count c.sum_of_text.ensures
    ∙ sym (of_halves-full windows (bowe_hopwood_hash g.G.AdditiveGroup.group g.G.TECoordinates.x windows lists) left
    right
    same short)

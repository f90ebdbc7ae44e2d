use Rattle.std.proofs.Common.{ℕ, ◌*◌, ◌≤◌, ◌++◌, [], Ok, length, sym, ap, ◌∙◌, arith}
use Rattle.std.proofs.lemmas.List.{append-nil}
use Rattle.ark_base.specs.Outcome.{Outcome}
use Rattle.ark_base.specs.Reading.{IsBytes}
use Rattle.ark_pedersen.specs.Pedersen.{lists_in}
use Rattle.ark_pedersen.proofs.ByteLists.{IsBytes-append}
use Rattle.ark_bowe_hopwood.proofs.Hashes.{hash_of_text}
use Rattle.ark_bowe_hopwood.proofs.sums.hash_bytes.Goals as goal

pub returns : goal.returns
returns g c =
    let windows = g.W.Window in
    let input = c.args.input.now in
    let short = rw (c.WINDOW_SIZE.ensures, c.NUM_WINDOWS.ensures) at c.if-input-WINDOW_SIZE.false in
    let fits : 8 * length input ≤ 3 * (windows.WINDOW_SIZE * windows.NUM_WINDOWS) = omega (arith, short) in
    let bytes : IsBytes (input ++ []) = IsBytes-append input [] (λ k. omega (arith, c.type_inv.input k))
    (λ k. omega arith) in
    ap (λ (n : ℕ). let o : Outcome ℕ = Ok n in o) c.x.ensures
    ∙ hash_of_text g.G.AdditiveGroup.group g.G.TECoordinates.x windows (lists_in c.args.generators.now)
    (input ++ []) input
    0 c.div_ceil-chunks.result c.sum_of_text.result bytes (sym (append-nil (input ++ []) ∙ append-nil input)) fits
    (sym c.if-not-has_shape.ensures) c.div_ceil-chunks.ensures c.sum_of_text.ensures

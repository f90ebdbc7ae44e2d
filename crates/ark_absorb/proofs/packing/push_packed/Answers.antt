use Rattle.std.proofs.Common.{◌≡◌, ℕ, ◌+◌, ◌<◌, ◌≤◌, ◌++◌, ◌*◌, ◌-◌, ◌/◌, ◌∙◌, List, ap, sym, min, subst, refl, arith, length, take, Ok}
use Rattle.std.proofs.lemmas.Grind.{div_ceil_times}
use Rattle.std.specs.Int.{w64, to_le_bytes, div_ceil}
use Rattle.ark_groups.specs.Laws.Field.{at_most_256_bits}
use Rattle.ark_absorb.specs.Appending.{StandBehind}
use Rattle.ark_absorb.specs.Elements.{piece_numbers, text_bytes}
use Rattle.ark_absorb.proofs.Pieces.{StandBehind-packed}
use Rattle.ark_absorb.proofs.packing.push_packed.Goals as goal

pub write_at-requires-2 : goal.write_at-requires-2
write_at-requires-2 g c =
    let f = g.F.Field in
    let size = (c.MODULUS_BIT_SIZE.result - 1) / 8 in
    let some : 0 < size = omega (arith, c.requires, c.MODULUS_BIT_SIZE.ensures) in
    let most : c.MODULUS_BIT_SIZE.result ≤ 256 =
    omega (arith, c.MODULUS_BIT_SIZE.ensures, at_most_256_bits f.MODULUS f.MODULUS_BIT_SIZE f.modulus_laws) in
    let reach : c.div_ceil.result * size < 8 + size = subst (λ (k : ℕ). k * size < 8 + size) (sym c.div_ceil.ensures)
    (div_ceil_times 8 size some).1 in
    omega (arith, most, reach, c.min.ensures, c.split_at.ensures.front_len, c.write_at.ensures.length)

pub returns : goal.returns
returns g c =
    let bits = c.MODULUS_BIT_SIZE.result in
    let size = (bits - 1) / 8 in
    let some : 0 < size = omega (arith, c.requires, c.MODULUS_BIT_SIZE.ensures) in
    let text = c.args.text.now in
    let front = c.split_at.result.0.now in
    let value = g.F.Valued.value in
    let modulus = g.F.Field.MODULUS in
    let old = c.args.dest.now.items in
    let new = c.push_pieces-2.new.dest.items in
    let head = take (8 + length front) c.write_at-2.new.list in
    let word_is : take 8 c.write_at.new.list ≡ to_le_bytes w64 (length text) =
    subst (λ (w : List ℕ). take (0 + length w) c.write_at.new.list ≡ w) c.to_le_bytes.ensures
    c.write_at.ensures.front in
    let head_is : head ≡ to_le_bytes w64 (length text) ++ front =
    c.write_at-2.ensures.front ∙ ap (λ w. w ++ front) word_is in
    let cut_is = c.min.ensures ∙ ap (λ k. min (k * size - 8) (length text)) c.div_ceil.ensures in
    let whole =
    StandBehind-packed value modulus size (div_ceil 8 size) c.min.result (to_le_bytes w64 (length text)) text front
    c.split_at.result.1.now head old
    c.push_pieces.new.dest.items new some refl (omega (arith, div_ceil_times 8 size some)) cut_is
    c.split_at.ensures.front c.split_at.ensures.back head_is
    c.in_ok-push_pieces.ensures c.in_default.ensures in
    subst (λ b. StandBehind value (Ok (piece_numbers modulus ((b - 1) / 8) (text_bytes text))) old new)
    c.MODULUS_BIT_SIZE.ensures whole

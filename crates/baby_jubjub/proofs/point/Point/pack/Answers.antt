use Rattle.std.proofs.Common.{◌+◌, ◌*◌, ◌^◌, ◌∙◌, ap, ap₂}
use Rattle.std.specs.Int.{from_bool}
use Rattle.ark_base.specs.Digits.{bytes_of_number}
use Rattle.ark_groups.specs.Words.{number}
use Rattle.ark_wide_fields.specs.Laws.Fp256.{wide_below}
use Rattle.baby_jubjub.specs.Packed.{packed_bytes, sign}
use Rattle.baby_jubjub.specs.Values.{value}
use Rattle.baby_jubjub.proofs.PackedFacts.{with_bit, sign_below}
use Rattle.baby_jubjub.proofs.point.Point.pack.Goals as goal

pub returns : goal.returns
unfolding packed_bytes
returns c =
    let y = value c.y.result in
    let x = value c.x.result in
    c.write_bytes.ensures ∙ ap (bytes_of_number 32)
    (with_bit (number c.plus.result.0) (from_bool c.plus.result.1) y (number c.sign_of.result) (sign x)
    (c.plus.ensures.sum ∙ ap (λ n. n + number c.sign_of.result) c.words.ensures) c.sign_of.ensures (sign_below x)
    (wide_below c.y.result)
    ∙ ap₂ (λ m n. m + 2 ^ 255 * sign n) c.y.ensures c.x.ensures)

use Rattle.std.proofs.Common.{◌%◌, ◌/◌, ◌^◌, ◌<◌, ◌∙◌, ap, arith}
use Rattle.ark_base.specs.Digits.{number_of_bytes}
use Rattle.ark_base.proofs.Numerals.{number_of_bytes-lt}
use Rattle.ark_groups.specs.Words.{number}
use Rattle.baby_jubjub.specs.Packed.{second_in, sign_in}
use Rattle.baby_jubjub.proofs.PackedFacts.{highest_bit}
use Rattle.baby_jubjub.proofs.packed.told.Goals as goal

pub returns-clause-y : goal.returns-clause-y
unfolding second_in
returns-clause-y c = c.low_bits.ensures ∙ ap (λ n. n % 2 ^ 255) c.words_of-words.ensures

pub returns-clause-sign : goal.returns-clause-sign
unfolding sign_in
returns-clause-sign c =
    let below : number_of_bytes c.args.bytes.now < 256 ^ 32 =
    number_of_bytes-lt c.args.bytes.now 32 c.fits-bytes (omega (arith, c.told-bytes)) in
    highest_bit c.is_below-negative.result (number c.words_of-words.result) c.is_below-negative.ensures
    (omega (arith, below, c.words_of-words.ensures)) ∙ ap (λ n. n / 2 ^ 255) c.words_of-words.ensures

use Rattle.std.proofs.Common.{◌%◌, ◌/◌, ◌^◌, ◌<◌, ◌∙◌, ap, arith}
use Rattle.ark_base.specs.Digits.{number_of_bytes}
use Rattle.ark_base.proofs.Numerals.{number_of_bytes-lt}
use Rattle.ark_groups.specs.Words.{number}
use Rattle.jubjub.specs.Compressed.{y_in, parity_in}
use Rattle.jubjub.proofs.CompressedFacts.{highest_bit}
use Rattle.jubjub.proofs.compressed.told.Goals as goal

pub returns-clause-y : goal.returns-clause-y
unfolding y_in
returns-clause-y c = c.low_bits.ensures ∙ ap (λ n. n % 2 ^ 255) c.words_of-words.ensures

pub returns-clause-parity : goal.returns-clause-parity
unfolding parity_in
returns-clause-parity c =
    let below : number_of_bytes c.args.bytes.now < 256 ^ 32 =
    number_of_bytes-lt c.args.bytes.now 32 c.fits-bytes (omega (arith, c.told-bytes)) in
    highest_bit c.is_below-odd.result (number c.words_of-words.result) c.is_below-odd.ensures
    (omega (arith, below, c.words_of-words.ensures)) ∙ ap (λ n. n / 2 ^ 255) c.words_of-words.ensures

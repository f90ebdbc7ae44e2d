use Rattle.std.proofs.Common.{◌≡◌, ltb, false}
use Rattle.std.proofs.lemmas.Bool.{le-ltb}
use Rattle.ark_paths.proofs.BitLemmas.{bit_at-past}
use Rattle.ark_paths.proofs.index.is_bit_set.Goals as goal

pub returns-else-bit-lt64 : goal.returns-else-bit-lt64
returns-else-bit-lt64 c =
    let past : ltb c.args.bit 64 ≡ false = le-ltb _ _ c.if-bit-lt64.false in
    rw (bit_at-past c.args.n c.args.bit c.ranges.n.fits c.if-bit-lt64.false) past

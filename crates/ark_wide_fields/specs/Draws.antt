-- Elements that are drawn from a stream.
use Rattle.rand_core.specs.Stream.{Stream, fill_bytes}
use Rattle.ark_base.specs.Digits.{number_of_bytes}
use Rattle.ark_wide_fields.specs.declared.modulus.WideModulus.{Ghosts}
use Rattle.ark_wide_fields.specs.declared.fp256.Fp256.{Fp256}
use Rattle.ark_wide_fields.specs.Laws.Fp256.{wide_of}

-- the element that the next 48 bytes of a stream are, modulo the modulus, and the stream that is left
abbrev pub wide_draw : {M : Type 0} {g : Ghosts M} → Stream → Fp256 M g × Stream
wide_draw {M} {g} stream = let drawn = fill_bytes 48 stream in (wide_of (number_of_bytes drawn.0), drawn.1)

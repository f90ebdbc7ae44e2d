-- Elements that are drawn from a stream.
use Rattle.std.specs.Prelude.{ℕ, zero, suc}
use Rattle.std.specs.Option.{option_map_or}
use Rattle.rand_core.specs.Stream.{Stream}
use Rattle.ark_wide_fields.specs.Draws.{wide_draw}
use Rattle.jubjub.specs.declared.element.Jubjub.{Jubjub}
use Rattle.jubjub.specs.Values.{Fr, value}
use Rattle.jubjub.specs.Elements.{jubjub}
use Rattle.jubjub.specs.Decoding.{cleared_over}

-- The first element that is found, and the stream behind it. Each try takes 48 bytes, the number that they are modulo
-- p as y, and 8 times the point over y with an even x. After the given count of tries without an element it is zero.
unfoldable pub element_found : ℕ → Stream → Jubjub × Stream
element_found zero stream = (jubjub.identity, stream)
element_found (suc tries) stream =
    let y : Fr × Stream = wide_draw stream in
    option_map_or (λ e. (e, y.1)) (cleared_over (value y.0) 0) (element_found tries y.1)

-- the first element of 128 tries
abbrev pub element_draw : Stream → Jubjub × Stream
element_draw = element_found 128

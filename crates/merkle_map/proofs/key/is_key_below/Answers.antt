use Rattle.std.proofs.Common.{◌≡◌, ◌<◌, Bool, not, true, false, arith, refl, sym, ◌∙◌}
use mathlib.Core.Bool.{beq}
use Rattle.merkle_map.specs.Map.{bit_of}
use Rattle.merkle_map.proofs.Ordered.{bits-alike, not_both}
use Rattle.merkle_map.proofs.key.is_key_below.Goals as goal

differs : (x y : Bool) → not (beq x y) ≡ true → y ≡ false → x ≡ true
differs true y is low = refl
differs false true is low = absurd cc
differs false false is low = absurd cc

pub returns-then-bit_of-bit-clause-above : goal.returns-then-bit_of-bit-clause-above
returns-then-bit_of-bit-clause-above c = λ low below.
    let other : bit_of c.bits.level c.args.a.now ≡ true =
    sym c.bit_of.ensures ∙ differs c.bit_of.result c.bit_of-bit.result c.if-bit_of-bit.true low in
    let inside = c.bits-test.true in
    not_both c.args.a.now c.args.b.now below (record {
      level = c.bits.level;
      inside = inside;
      alike = sym c.bits.invariant;
      low = sym c.bit_of-bit.ensures ∙ low;
      high = other;
    })

pub returns-clause-above : goal.returns-clause-above
returns-clause-above c = λ low below.
    let last = c.bits-test.false in
    let short : below.level < 256 = below.inside in
    let alike = bits-alike c.bits.level below.level c.args.a.now c.args.b.now c.bits.invariant
    (omega (arith, last, short)) in
    let no = below.low in let yes = below.high in absurd cc

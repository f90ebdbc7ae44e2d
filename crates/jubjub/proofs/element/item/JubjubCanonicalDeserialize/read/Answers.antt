use Rattle.std.proofs.Common.{◌≤◌, length, inr, refl, ap, arith}
use Rattle.ark_base.specs.Reading.{IsBytes, reading_outcome}
use Rattle.jubjub.proofs.ItemBytes.{too_short, found, refused}
use Rattle.jubjub.proofs.element.item.JubjubCanonicalDeserialize.read.Goals as goal

pub returns-then-bytes-lt64 : goal.returns-then-bytes-lt64
returns-then-bytes-lt64 c =
    record { answer = inr (ap reading_outcome (too_short c.args.bytes.now c.if-bytes-lt64.true)); within = tt }

pub returns-in-Some : goal.returns-in-Some
returns-in-Some c =
    let enough : 64 ≤ length c.args.bytes.now = omega (arith, c.if-bytes-lt64.false) in
    record {
      answer = ap reading_outcome (found c.args.bytes.now c.in-Some.element enough c.in-Some.ensures.some);
      within = enough;
    }

pub returns-in-None : goal.returns-in-None
returns-in-None c =
    let fits : IsBytes c.args.bytes.now = λ i. omega (arith, c.type_inv.bytes i) in
    record {
      answer = inr (ap reading_outcome (refused c.args.bytes.now (omega (arith, c.if-bytes-lt64.false)) fits
          (c.in-None.ensures.none refl)));
      within = tt;
    }

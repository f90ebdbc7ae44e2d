use Rattle.std.proofs.Common.{ap, inr}
use Rattle.std.proofs.lemmas.Result.{IfOk-from_err}
use Rattle.ark_base.specs.Reading.{reading_outcome}
use Rattle.ark_base.proofs.Refusals.{passed_on}
use Rattle.poseidon2.proofs.ConfigBytes.{parameters_read, parameters_unfit, parameters_fault, list_numbers, rows_numbers}
use Rattle.poseidon2.proofs.config.bytes.Poseidon2ConfigCanonicalDeserialize.read.Goals as goal

pub returns-in_err-fields : goal.returns-in_err-fields
returns-in_err-fields g c =
    let f = g.F.Field in
    let canonical = g.F.Canonical in
    let result = c.from_residual.result in
    record {
      answer = passed_on _ _ result c.in_err-fields.field-0.0 c.from_residual.ensures.1 c.in_err-fields.ensures.answer
          (parameters_fault f.MODULUS f.MODULUS_BIT_SIZE canonical.view canonical.reads g.F.Valued.value
          g.met.F.Field.reads_numbers c.args.bytes.now c.in_err-fields.field-0.0);
      within = IfOk-from_err result _ c.from_residual.ensures.0;
    }

pub returns-in-Ok : goal.returns-in-Ok
returns-in-Ok g c =
    let f = g.F.Field in
    let canonical = g.F.Canonical in
    let is = g.met.F.Field.reads_numbers in
    let x = c.in_ok-fields.fields in
    let first = rows_numbers f.MODULUS f.MODULUS_BIT_SIZE canonical.view canonical.reads g.F.Valued.value is
    (λ row. row.items) x.1.0.items in
    let partial = list_numbers f.MODULUS f.MODULUS_BIT_SIZE canonical.view canonical.reads g.F.Valued.value is
    x.1.1.0.items in
    let last = rows_numbers f.MODULUS f.MODULUS_BIT_SIZE canonical.view canonical.reads g.F.Valued.value is
    (λ row. row.items) x.1.1.1.0.items in
    let diagonal = list_numbers f.MODULUS f.MODULUS_BIT_SIZE canonical.view canonical.reads g.F.Valued.value is
    x.1.1.1.1.items in
    let read = c.in_ok-fields.ensures in
    record {
      answer = ap reading_outcome (parameters_read f.MODULUS f.MODULUS_BIT_SIZE canonical.view canonical.reads
          g.F.Valued.value is c.args.bytes.now _ _ c.in-Ok.parameters read.answer
          (rw (first, partial, last, diagonal, ← c.new.ensures) c.in-Ok.is));
      within = read.within;
    }

pub returns-in-Err : goal.returns-in-Err
returns-in-Err g c =
    let f = g.F.Field in
    let canonical = g.F.Canonical in
    let is = g.met.F.Field.reads_numbers in
    let x = c.in_ok-fields.fields in
    let first = rows_numbers f.MODULUS f.MODULUS_BIT_SIZE canonical.view canonical.reads g.F.Valued.value is
    (λ row. row.items) x.1.0.items in
    let partial = list_numbers f.MODULUS f.MODULUS_BIT_SIZE canonical.view canonical.reads g.F.Valued.value is
    x.1.1.0.items in
    let last = rows_numbers f.MODULUS f.MODULUS_BIT_SIZE canonical.view canonical.reads g.F.Valued.value is
    (λ row. row.items) x.1.1.1.0.items in
    let diagonal = list_numbers f.MODULUS f.MODULUS_BIT_SIZE canonical.view canonical.reads g.F.Valued.value is
    x.1.1.1.1.items in
    let read = c.in_ok-fields.ensures in
    record {
      answer = inr (ap reading_outcome (parameters_unfit f.MODULUS f.MODULUS_BIT_SIZE canonical.view canonical.reads
          g.F.Valued.value is c.args.bytes.now _ _ c.in-Err.field-0 read.answer
          (rw (first, partial, last, diagonal, ← c.new.ensures) c.in-Err.is)));
      within = tt;
    }

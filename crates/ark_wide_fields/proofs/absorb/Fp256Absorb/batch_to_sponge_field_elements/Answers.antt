use Rattle.std.proofs.Common.{subst}
use Rattle.ark_absorb.specs.Appending.{AppendsElements}
use Rattle.ark_absorb.proofs.Appended.{batch_by_item-own}
use Rattle.ark_groups.specs.Words.{number}
use Rattle.ark_wide_fields.specs.declared.fp256.Fp256.{Fp256}
use Rattle.ark_wide_fields.specs.Moduli.{from_form}
use Rattle.ark_wide_fields.proofs.absorb.Fp256Absorb.batch_to_sponge_field_elements.Goals as goal

pub returns : goal.returns
returns g c =
    let m = g.M.WideModulus in
    let own = number m.P in
    let modulus = g.F.Field.MODULUS in
    let same = c.is_same_field.ensures.0 c.if-not-is_same_field.false in
    let by_item = batch_by_item-own (λ (x : Fp256 g.row.M.Denot m). from_form own m.INVERSE (number x.form)) own modulus
    g.F.Field.MODULUS_BIT_SIZE c.args.batch.now same in
    subst (λ e. AppendsElements g.F.Valued.value e c.args.dest.now.items c.push_elements_by_item.new.dest.items
    c.push_elements_by_item.result) by_item c.push_elements_by_item.ensures

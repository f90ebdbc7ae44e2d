use Rattle.std.proofs.Common.{Ok, sym, ap}
use Rattle.std.proofs.lemmas.List.Elements.{same_from_all_zip}
use Rattle.ark_sponge.proofs.Matrices.{rows-same}
use Rattle.poseidon2.proofs.config.bytes.copy_of_rows.Goals as goal

pub returns : goal.returns
returns g c =
    let clones = g.met.F.Field.clones in
    ap Ok (rows-same g.F.Valued.value (λ row. row.items) _ (λ v w alike. sym (same_from_all_zip g.F.Clone.is_clone
    v.items w.items alike.0 (λ x y clone. sym (clones x y clone)))) c.args.rows.now.items c.in_ok-clone.field-0.items
    c.in_ok-clone.ensures.cases.0)

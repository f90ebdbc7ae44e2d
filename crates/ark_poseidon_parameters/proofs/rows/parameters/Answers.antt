use Rattle.std.proofs.Common.{◌≡◌, ◌+◌, get_or, map, sym, subst, ◌∙◌, IfErr, arith}
use Rattle.ark_base.specs.declared.error.Error.TheVariants.{OutOfMemory}
use Rattle.ark_sponge.proofs.Matrices.{is_matrix-true, lawful_parameters-Ok}
use Rattle.ark_poseidon_parameters.proofs.rows.parameters.Goals as goal

pub returns-clause-refused : goal.returns-clause-refused
returns-clause-refused g c =
    let value = g.F.Valued.value in
    let a = c.args in
    let ark = c.in_ok-ark.ark in
    let mds = c.in_ok-mds.mds in
    let constants = is_matrix-true value (λ row. row.items) (8 + a.partial_rounds) (a.rate + 1) ark.items
    (omega (arith, ark.ok.0, c.in_ok-ark.ensures.count))
    (λ k d within. omega (arith, (get_or ark.items k d).ok.0, c.in_ok-ark.ensures.widths k d within)) in
    let matrix = is_matrix-true value (λ row. row.items) (a.rate + 1) (a.rate + 1) mds.items
    (omega (arith, mds.ok.0, c.in_ok-mds.ensures.count))
    (λ k d within. omega (arith, (get_or mds.items k d).ok.0, c.in_ok-mds.ensures.widths k d within)) in
    let lawful = lawful_parameters-Ok g.F.Field.MODULUS_BIT_SIZE (record {
      full_rounds = 8;
      partial_rounds = a.partial_rounds;
      alpha = a.alpha;
      mds = map (λ row. map value row.items) mds.items;
      ark = map (λ row. map value row.items) ark.items;
      rate = a.rate;
      capacity = 1;
    }) c.requires.field c.requires.some constants matrix in
    subst (λ r. IfErr r (λ error. error ≡ OutOfMemory)) (sym (c.new.ensures ∙ lawful)) tt

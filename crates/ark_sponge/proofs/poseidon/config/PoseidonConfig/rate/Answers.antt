use Rattle.std.proofs.Common.{◌+◌, get_or, map, arith}
use Rattle.ark_sponge.proofs.Matrices.{is_matrix-true, lawful_parameters-Ok}
use Rattle.ark_sponge.proofs.poseidon.config.PoseidonConfig.rate.Goals as goal

pub returns-clause-lawful : goal.returns-clause-lawful
returns-clause-lawful g c =
    let f = g.F.Field in
    let i = c.self.inside in
    let kept = c.self.invariant in
    rw (← c.self.view_is) (lawful_parameters-Ok f.MODULUS_BIT_SIZE
    (record {
      full_rounds = i.full_rounds;
      partial_rounds = i.partial_rounds;
      alpha = i.alpha;
      mds = map
          (λ row. map g.F.Valued.value row.items) i.mds.items;
      ark = map (λ row. map g.F.Valued.value row.items)
          i.ark.items;
      rate = i.rate;
      capacity = i.capacity;
    })
    (omega (arith, kept.7, g.met.F.Field.bits_are)) kept.0
    (is_matrix-true g.F.Valued.value (λ row. row.items) (i.full_rounds + i.partial_rounds) (i.rate + i.capacity)
    i.ark.items (omega (arith, i.ark.ok.0, kept.5)) (λ k d within. omega (
      arith,
      (get_or i.ark.items k d).ok.0,
      kept.6 k d within,
    )))
    (is_matrix-true g.F.Valued.value (λ row. row.items) (i.rate + i.capacity) (i.rate + i.capacity) i.mds.items
    (omega (arith, i.mds.ok.0, kept.3)) (λ k d within. omega (
      arith,
      (get_or i.mds.items k d).ok.0,
      kept.4 k d within,
    ))))

pub returns-clause-wide : goal.returns-clause-wide
returns-clause-wide g c = omega (arith, c.self.invariant.7, g.met.F.Field.bits_are)

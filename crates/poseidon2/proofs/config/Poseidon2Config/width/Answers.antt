use Rattle.std.proofs.Common.{length, map, sym, arith, get_or}
use Rattle.std.specs.Vec.{vec_len}
use Rattle.std.proofs.lemmas.List.{length-map}
use Rattle.poseidon2.proofs.Shapes.{lawful-Ok, wide-true}
use Rattle.poseidon2.proofs.Widths.{width-two}
use Rattle.poseidon2.proofs.config.Poseidon2Config.width.Goals as goal

pub returns-clause-lawful : goal.returns-clause-lawful
returns-clause-lawful g c =
    let f = g.F.Valued.value in
    let i = c.self.inside in
    let kept = c.self.invariant in
    let n = length i.diagonal.items in
    rw (← c.self.view_is) (lawful-Ok (record {
      alpha = i.alpha;
      first = map (λ row. map f row.items) i.first.items;
      partial = map f i.partial.items;
      last = map (λ row. map f row.items) i.last.items;
      diagonal = map f i.diagonal.items;
    }) n (sym (length-map i.diagonal.items f)) (rw (← i.diagonal.ok.0) kept.0)
    (wide-true f (λ row. row.items) n i.first.items (λ k d within. omega (
      arith,
      (get_or i.first.items k d).ok.0,
      i.diagonal.ok.0,
      kept.1 k d within,
    )))
    (wide-true f (λ row. row.items) n i.last.items (λ k d within. omega (
      arith,
      (get_or i.last.items k d).ok.0,
      i.diagonal.ok.0,
      kept.2 k d within,
    ))))

pub returns-clause-two : goal.returns-clause-two
returns-clause-two g c =
    omega (arith, width-two (vec_len c.self.inside.diagonal) c.self.invariant.0, c.len.ensures)

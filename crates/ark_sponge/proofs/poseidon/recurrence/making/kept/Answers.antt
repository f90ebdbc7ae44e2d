use Rattle.std.proofs.Common.{◌≡◌, suc, length, map, refl, ap, arith}
use Rattle.std.proofs.lemmas.List.{length-map}
use Rattle.ark_sponge.specs.Recurrence.{ShortRounds}
use Rattle.ark_sponge.proofs.Recurrences.{are_rounds}
use Rattle.ark_sponge.proofs.poseidon.recurrence.making.kept.Goals as goal

pub returns : goal.returns
returns g c =
    let f = g.F.Valued.value in
    let p = g.F.Field.MODULUS in
    let found = c.args.found in
    let mds = c.args.mds.now in
    let r : ShortRounds = record {
      output = map f found.output.items;
      feedback = map f found.feedback.items;
      into = map (λ row. map f row.items) found.into.items;
      back = map (λ row. map f row.items) found.back.items;
      constants = map f c.args.constants.items;
      offset = map f c.args.offset.items;
    } in
    let count = c.if-not-is_matrix.ensures.count refl in
    let many : length mds ≡ suc (length found.into.items) = omega (
      arith,
      count,
      ap length c.deref.ensures.value,
      c.requires.some,
    ) in
    let takes = rw (c.deref-2.ensures.value, c.deref-3.ensures.value) at (c.if-not-takes_back.ensures refl) in
    let turns = rw (
      c.deref-else-not-takes_back.ensures.value,
      c.deref-else-not-takes_back-2.ensures.value,
      c.deref-else-not-takes_back-3.ensures.value,
    ) at (c.if-not-turns_alike.ensures refl) in
    are_rounds p (length found.into.items) (map (λ row. map f row.items) mds)
    (map (λ row. map f row.items) c.args.rows.now) r
    (omega (arith, g.F.Field.modulus_laws.at_least_two))
    (rw length-map many)
    (omega (arith, length-map found.output.items f, length-map mds (λ row. map f row.items), found.output.ok.0))
    takes turns c.requires.moved

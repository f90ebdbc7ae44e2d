use Rattle.std.proofs.Common.{◌≡◌, ◌-◌, length, map, vec_len, refl, sym, arith}
use Rattle.std.proofs.lemmas.List.{length-map}
use Rattle.ark_sponge.specs.Recurrence.{ShortRounds}
use Rattle.ark_sponge.proofs.TableRows.{HasLengths, is_listed, list_of, put_all, put_one, rows_read}
use Rattle.ark_sponge.proofs.poseidon.recurrence.Recurrence.push_to.Goals as goal

pub returns : goal.returns
returns g c =
    let f = g.F.Valued.value in
    let i = c.self.inside in
    let r : ShortRounds = record {
      output = map f i.output.items;
      feedback = map f i.feedback.items;
      into = map (λ row. map f row.items) i.into.items;
      back = map (λ row. map f row.items) i.back.items;
      constants = map f i.constants.items;
      offset = map f i.offset.items;
    } in
    let own = c.self.invariant in
    let long : length r.output ≡ vec_len i.output = rw length-map (sym (omega (arith, i.output.ok.0))) in
    let has : HasLengths r = record {
      feedback = rw (length-map, length-map) (omega (arith, own.1, i.feedback.ok.0, i.output.ok.0));
      into = rw long (rows_read f (λ row. row.items) vec_len (vec_len i.output - 1) (vec_len i.output - 1) i.into.items
          (λ row. omega (arith, row.ok.0)) (omega (arith, own.2, i.into.ok.0)) own.3);
      back = rw long (rows_read f (λ row. row.items) vec_len (vec_len i.output - 1) (vec_len i.output - 1) i.back.items
          (λ row. omega (arith, row.ok.0)) (omega (arith, own.4, i.back.ok.0)) own.5);
      offset = rw (length-map, length-map) (omega (arith, own.6, i.offset.ok.0, i.output.ok.0));
    } in
    let into = rw c.deref.ensures.value at c.in_ok-push_rows.ensures in
    let back = rw c.deref-2.ensures.value at c.in_ok-push_rows-2.ensures in
    let output = rw c.deref-3.ensures.value at c.in_ok-extend_from_slice.ensures.items in
    let feedback = rw c.deref-4.ensures.value at c.in_ok-extend_from_slice-2.ensures.items in
    let offset = rw c.deref-5.ensures.value at c.in_ok-extend_from_slice-3.ensures.items in
    let constants = rw c.deref-6.ensures.value at c.in_ok-extend_from_slice-4.ensures.items in
    rw (← c.self.view_is) (
      list_of r,
      is_listed r has,
      put_all r _ _ _ _ _ _ _ into back (put_one f _ _ i.output.items _ output refl)
          (put_one f _ _ i.feedback.items _ feedback refl) (put_one f _ _ i.offset.items _ offset refl)
          (put_one f _ _ i.constants.items _ constants refl),
    )

use Rattle.std.proofs.Common.{◌+◌, ◌/◌, ◌∙◌, ◌++◌, ◌<◌, take, drop, map, slice_range, vec_len, ap, sym, subst, arith}
use Rattle.std.specs.List.{flat_map}
use Rattle.ark_base.specs.Digits.{itself}
use Rattle.ark_sponge.specs.Permutation.{Parameters}
use Rattle.ark_sponge.specs.Recurrence.{AreRounds}
use Rattle.ark_sponge.specs.Table.{IsTable}
use Rattle.ark_sponge.proofs.Rows.{slice_range-map}
use Rattle.ark_sponge.proofs.TableRows.{first_part, is_table, last_part, put_table, rows_read}
use Rattle.ark_sponge.proofs.poseidon.config.PoseidonConfig.table.Goals as goal

pub returns-clause-made : goal.returns-clause-made
returns-clause-made g c =
    let f = g.F.Valued.value in
    let p = g.F.Field.MODULUS in
    let i = c.self.inside in
    let own = c.self.invariant in
    let w = i.rate + i.capacity in
    let half = i.full_rounds / 2 in
    let middle = half + i.partial_rounds in
    let parameters : Parameters = record {
      full_rounds = i.full_rounds;
      partial_rounds = i.partial_rounds;
      alpha = i.alpha;
      mds = map (λ row. map f row.items) i.mds.items;
      ark = map (λ row. map f row.items) i.ark.items;
      rate = i.rate;
      capacity = i.capacity;
    } in
    let square = rows_read f (λ row. row.items) vec_len w w i.mds.items (λ row. omega (arith, row.ok.0))
    (omega (arith, own.3, i.mds.ok.0)) own.4 in
    let rows = rows_read f (λ row. row.items) vec_len w (i.full_rounds + i.partial_rounds) i.ark.items
    (λ row. omega (arith, row.ok.0)) (omega (arith, own.5, i.ark.ok.0)) own.6 in
    let of_field = rw c.in-Some.is at own.8 in
    let are : AreRounds p parameters.mds (slice_range parameters.ark half middle) c.in-Some.recurrence =
    subst (λ rounds. AreRounds p parameters.mds rounds c.in-Some.recurrence)
    (slice_range-map (λ row. map f row.items) i.ark.items half middle) (of_field p g.met.F.Field.laws) in
    let first = c.in_ok-push_rows.ensures
    ∙ ap (λ t. map f c.new-table.result.items ++ flat_map itself t) (first_part (λ row. map f row.items) i.ark.items _
    half c.deref.ensures.value) in
    let mds = rw c.deref-2.ensures.value at c.in_ok-push_rows-2.ensures in
    let last = c.in_ok-push_rows-3.ensures
    ∙ ap (λ t. map f c.push_rows-2.new.list.items ++ flat_map itself t) (last_part (λ row. map f row.items) i.ark.items
    _ middle c.deref-3.ensures.value) in
    let rest = c.in_ok-push_to.ensures in
    let some : 0 < p = omega (arith, g.F.Field.modulus_laws.at_least_two) in
    let table = is_table p parameters c.in-Some.recurrence rest.0 some square rows are rest.1 in
    let list = put_table (take half parameters.ark) parameters.mds (drop middle parameters.ark) rest.0 _ _ _ _ _
    (ap (map f) c.new-table.ensures.items) first mds last rest.2 in
    rw (← c.self.view_is) (subst (IsTable p parameters) (sym list) table)

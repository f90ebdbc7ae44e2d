use Rattle.std.proofs.Common.{◌*◌, map, refl, sym, ap, ◌∙◌}
use Rattle.ark_sponge.specs.Table.{parts_in, recurrence_in, rows_of}
use Rattle.ark_sponge.proofs.TableRows.{behind_read}
use Rattle.ark_sponge.proofs.poseidon.table.ShortPermutation.of_table.Goals as goal

pub invariant_of-result : goal.invariant_of-result
invariant_of-result g c =
    let mds = c.in_ok-rows_of.ensures in (
      λ k d within. mds.widths k d within ∙ sym mds.count,
      λ k d within. c.in_ok-rows_of-2.ensures.widths k d within ∙ sym mds.count,
      c.in_ok-of_list.ensures.wide ∙ sym mds.count,
      λ k d within. c.in_ok-rows_of-3.ensures.widths k d within ∙ sym mds.count,
    )

pub returns-clause-value : goal.returns-clause-value
unfolding parts_in
returns-clause-value g c =
    let f = g.F.Valued.value in
    let w = c.args.shape.width in
    let mds = behind_read f (c.args.shape.before * w) _ _ (map f c.args.table.now) c.split_at.ensures.back refl in
    let last = behind_read f (w * w) _ _ _ c.split_at-2.ensures.back mds in
    let partial = behind_read f (c.args.shape.behind * w) _ _ _ c.split_at-3.ensures.back last in
    let is_mds = c.in_ok-rows_of.ensures.rows ∙ ap (rows_of w w) mds in
    let is_last = c.in_ok-rows_of-3.ensures.rows ∙ ap (rows_of w c.args.shape.behind) last in
    let is_partial = c.in_ok-of_list.ensures.value ∙ ap (recurrence_in w) partial in
    λ i. record {
      alpha = c.args.shape.alpha;
      mds = is_mds i;
      first = c.in_ok-rows_of-2.ensures.rows i;
      partial = is_partial i;
      last = is_last i;
    }

use Rattle.std.proofs.Common.{◌-◌, ◌*◌, map, refl, ap, ◌∙◌}
use Rattle.ark_sponge.specs.Table.{recurrence_in, rows_of}
use Rattle.ark_sponge.proofs.TableRows.{part_read, behind_read}
use Rattle.ark_sponge.proofs.poseidon.recurrence.Recurrence.of_list.Goals as goal

pub returns-clause-value : goal.returns-clause-value
unfolding recurrence_in
returns-clause-value g c =
    let f = g.F.Valued.value in
    let w = c.args.width in
    let n = w - 1 in
    let back = behind_read f (n * n) _ _ (map f c.args.list.now) c.split_at.ensures.back refl in
    let output = behind_read f (n * n) _ _ _ c.split_at-2.ensures.back back in
    let feedback = behind_read f w _ _ _ c.split_at-3.ensures.back output in
    let offset = behind_read f n _ _ _ c.split_at-4.ensures.back feedback in
    let constants = behind_read f w _ _ _ c.split_at-5.ensures.back offset in
    let is_output = part_read f w _ _ _ (c.in_ok-output.ensures.items ∙ c.split_at-3.ensures.front) output in
    let is_feedback = part_read f n _ _ _ (c.in_ok-feedback.ensures.items ∙ c.split_at-4.ensures.front) feedback in
    let is_offset = part_read f w _ _ _ (c.in_ok-offset.ensures.items ∙ c.split_at-5.ensures.front) offset in
    let is_back = c.in_ok-back.ensures.rows ∙ ap (rows_of n n) back in
    let is_constants = ap (map f) c.in_ok-constants.ensures.items ∙ constants in
    λ i. record {
      output = is_output i;
      feedback = is_feedback i;
      into = c.in_ok-into.ensures.rows i;
      back = is_back i;
      constants = is_constants i;
      offset = is_offset i;
    }

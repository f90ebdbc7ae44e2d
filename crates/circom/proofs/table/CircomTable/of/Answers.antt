use Rattle.std.proofs.Common.{◌*◌, length, take, inl, inr, refl, ap, ap₂, sym, subst, ◌≤◌, ◌∙◌}
use Rattle.std.proofs.lemmas.List.{length-map}
use Rattle.ark_sponge.specs.Table.{parts_in, table_length}
use Rattle.poseidon_grain.specs.Defaults.{circom_rounds}
use Rattle.circom.specs.Frame.{shape_for, table_count}
use Rattle.circom.specs.Hash.{IsTableOf}
use Rattle.circom.proofs.Frames.{no-fault}
use Rattle.circom.proofs.Tables.{at_least, first_is, framed, numbers-long, numbers-spelled, ok_same, only_memory, rest_is, table_is}
use Rattle.circom.proofs.table.CircomTable.of.Goals as goal

pub of_table-requires-clause-long : goal.of_table-requires-clause-long
of_table-requires-clause-long c =
    let inputs = c.in-Ok.inputs in
    let found = c.in-Ok-read_forms.ensures.found in
    let long = numbers-long inputs c.count_for.result c.args.bytes.now c.split_at.result.1.now c.split_at-2.result.0.now
    found.0 c.in-Ok.ensures.frame c.count_for.ensures.count c.split_at.ensures.back c.split_at-2.ensures.front
    found.3 in
    let count = ap length c.deref.ensures.value ∙ sym (ap length found.2 ∙ length-map _ _) ∙ long in
    subst (λ shape. table_length shape ≤ length c.deref.result.now) (sym c.shape_for.ensures)
    (at_least (table_length (shape_for inputs)) (circom_rounds inputs) (length c.deref.result.now) count)

-- ---- a table that is spelled

pub returns-in-Err-clause-spelled : goal.returns-in-Err-clause-spelled
returns-in-Err-clause-spelled c = λ inputs parameters spells.
    absurd (no-fault inputs c.args.bytes.now (framed inputs parameters c.args.bytes.now spells) c.in-Err.error
    c.in-Err.ensures.refused)

pub returns-in-Err-read_forms-clause-spelled : goal.returns-in-Err-read_forms-clause-spelled
returns-in-Err-read_forms-clause-spelled c = λ inputs parameters spells.
    let first = sym c.in-Ok.ensures.frame.first ∙ first_is inputs parameters c.args.bytes.now spells in
    let front = c.split_at-2.ensures.front
    ∙ ap (λ n. take (32 * n) c.split_at.result.1.now) (c.count_for.ensures.count ∙ ap table_count first) in
    let bytes = rest_is inputs parameters c.args.bytes.now spells _ _ c.split_at.ensures.back front in
    only_memory spells.numbers _ c.in-Err-read_forms.error refl
    (c.in-Err-read_forms.ensures.read spells.numbers spells.below bytes)

pub returns-clause-spelled : goal.returns-clause-spelled
returns-clause-spelled c = λ inputs parameters spells.
    let first = sym c.in-Ok.ensures.frame.first ∙ first_is inputs parameters c.args.bytes.now spells in
    let front = c.split_at-2.ensures.front
    ∙ ap (λ n. take (32 * n) c.split_at.result.1.now) (c.count_for.ensures.count ∙ ap table_count first) in
    let bytes = rest_is inputs parameters c.args.bytes.now spells _ _ c.split_at.ensures.back front in
    let same = sym (ok_same _ _ _ refl (c.in-Ok-read_forms.ensures.read spells.numbers spells.below bytes)) in
    let shape = c.shape_for.ensures ∙ ap shape_for first in
    let parts = rw c.deref.ensures.value at c.in_ok-short.ensures.value in (
      first,
      subst (λ n. IsTableOf parameters (record { inputs = n; parts = c.in_ok-short.short })) (sym first)
          (table_is inputs parameters c.args.bytes.now spells _ c.in_ok-short.short _ same shape parts),
    )

-- ---- any bytes

pub returns-clause-found : goal.returns-clause-found
returns-clause-found c =
    let inputs = c.in-Ok.inputs in
    let frame = c.in-Ok.ensures.frame in
    let found = c.in-Ok-read_forms.ensures.found in
    let parts = rw c.deref.ensures.value at c.in_ok-short.ensures.value in
    record {
      some = frame.some;
      few = frame.few;
      numbers = found.0;
      count = numbers-long inputs c.count_for.result c.args.bytes.now c.split_at.result.1.now
          c.split_at-2.result.0.now found.0 frame c.count_for.ensures.count c.split_at.ensures.back
          c.split_at-2.ensures.front found.3;
      below = found.1;
      spelled = numbers-spelled inputs c.count_for.result c.args.bytes.now c.split_at.result.1.now
          c.split_at-2.result.0.now found.0 frame c.count_for.ensures.count c.split_at.ensures.back
          c.split_at-2.ensures.front found.3;
      parts = parts ∙ ap₂ parts_in c.shape_for.ensures (sym found.2);
    }

-- ---- bytes that are no table

pub returns-in-Err-clause-refused : goal.returns-in-Err-clause-refused
returns-in-Err-clause-refused c = inr (inl c.in-Err.ensures.refused)

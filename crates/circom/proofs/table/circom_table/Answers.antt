use Rattle.std.proofs.Common.{◌*◌, ◌∷◌, ◌++◌, ap, length, sym, subst, ◌∙◌, arith}
use Rattle.std.proofs.lemmas.List.{length-map}
use Rattle.ark_sponge.specs.Table.{IsTable}
use Rattle.circom.specs.Elements.{form_bytes}
use Rattle.circom.specs.Frame.{table_count, table_end, with_sum}
use Rattle.circom.specs.Hash.{modulus}
use Rattle.circom.proofs.Reading.{length-form_bytes}
use Rattle.circom.proofs.Frames.{length-behind, summed-long}
use Rattle.circom.proofs.Tables.{made_is}
use Rattle.circom.proofs.table.circom_table.Goals as goal

pub returns-clause-made : goal.returns-clause-made
returns-clause-made c =
    let put = c.in_ok-put_forms.ensures in
    let same = rw c.deref.ensures.value at put.2 in
    let front = rw c.new-bytes.ensures.items at c.in_ok-push.ensures.items in (
      c.in_ok-parameters.parameters,
      made_is c.args.inputs c.in_ok-parameters.parameters put.0 _ (omega arith) (omega arith)
          c.in_ok-parameters.ensures.made (ap length same ∙ length-map _ _ ∙ c.in_ok-table.ensures.count) put.1
          (subst (IsTable modulus c.in_ok-parameters.parameters) (sym same) c.in_ok-table.ensures.table)
          (c.in_ok-put_sum.ensures ∙ ap with_sum (put.3 ∙ ap (λ t. t ++ form_bytes modulus put.0) front)),
    )

pub returns-clause-long : goal.returns-clause-long
returns-clause-long c =
    let put = c.in_ok-put_forms.ensures in
    let same = rw c.deref.ensures.value at put.2 in
    let front = rw c.new-bytes.ensures.items at c.in_ok-push.ensures.items in
    let count = ap length same ∙ length-map _ _ ∙ c.in_ok-table.ensures.count in
    let inputs = c.args.inputs in
    let body = form_bytes modulus put.0 in
    summed-long (table_end inputs) (inputs ∷ body) c.put_sum.new.bytes.items
    (length-behind inputs (32 * table_count inputs) body (length-form_bytes modulus put.0 ∙ ap (λ n. 32 * n) count))
    (c.in_ok-put_sum.ensures ∙ ap with_sum (put.3 ∙ ap (λ t. t ++ body) front))

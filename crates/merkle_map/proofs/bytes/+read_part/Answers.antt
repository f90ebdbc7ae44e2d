use Rattle.std.proofs.Common.{◌+◌, ◌-◌, Ok, drop, ap, ◌∙◌, arith, rules}
use Rattle.ark_base.proofs.Refusals.{passed_on}
use Rattle.ark_base.specs.Outcome.{◌>>=◌}
use Rattle.merkle_map.specs.Bytes.{itself, tree_read}
use Rattle.merkle_map.specs.Parts.{shape}
use Rattle.merkle_map.specs.Tree.{One, Fork}
use Rattle.merkle_map.proofs.Reading.{fork-read, entry-read, left-read, strings-read, strings-within, drops}
use Rattle.merkle_map.proofs.bytes.+read_part.Goals as goal

pub returns-in_err-left-in-1-clause-answer : goal.returns-in_err-left-in-1-clause-answer
returns-in_err-left-in-1-clause-answer t c =
    passed_on _ _ c.from_residual-in_err-left-in-1.result c.in_err-left-in-1.field-0.0
    c.from_residual-in_err-left-in-1.ensures.1 c.in_err-left-in-1.ensures.answer (λ why.
    fork-read c.args.bytes.now (search rules) c.args.level _ (omega arith) c.in-1.is c.from_index-rest.ensures
    ∙ ap (λ o. o >>= λ left. tree_read (256 - (c.args.level + 1)) left.1 >>= λ right. Ok
    (Fork left.0 right.0, right.1)) why)

pub returns-in_err-right-in-1-clause-answer : goal.returns-in_err-right-in-1-clause-answer
returns-in_err-right-in-1-clause-answer t c =
    passed_on _ _ c.from_residual-in_err-right-in-1.result c.in_err-right-in-1.field-0.0
    c.from_residual-in_err-right-in-1.ensures.1 c.in_err-right-in-1.ensures.answer (λ why.
    fork-read c.args.bytes.now (search rules) c.args.level _ (omega arith) c.in-1.is c.from_index-rest.ensures
    ∙ left-read _ _ _ _ _ c.in_ok-left-in-1.ensures.answer c.from_index-in-1.ensures
    ∙ ap (λ o. o >>= λ right. Ok (Fork (shape itself c.in_ok-left-in-1.left) right.0, right.1)) why)

pub returns-in_ok-tree-in-1-clause-answer : goal.returns-in_ok-tree-in-1-clause-answer
returns-in_ok-tree-in-1-clause-answer t c =
    let bytes = c.args.bytes.now in
    let a = c.in_ok-left-in-1.on_left in
    let b = c.in_ok-right-in-1.on_right in
    let l = shape itself c.in_ok-left-in-1.left in
    let r = shape itself c.in_ok-right-in-1.right in
    fork-read bytes (search rules) c.args.level _ (omega arith) c.in-1.is c.from_index-rest.ensures
    ∙ left-read _ _ _ _ _ c.in_ok-left-in-1.ensures.answer c.from_index-in-1.ensures
    ∙ ap (λ o. o >>= λ right. Ok (Fork l right.0, right.1)) c.in_ok-right-in-1.ensures.answer
    ∙ ap (λ s. Ok (Fork l r, drop b s)) (c.from_index-in-1.ensures ∙ ap (drop a) c.from_index-rest.ensures)
    ∙ ap (λ s. Ok (Fork l r, s)) (drops b a 1 bytes)
    ∙ ap (λ o. o >>= λ s. Ok (s, drop (1 + a + b) bytes)) c.in_ok-tree-in-1.ensures.made

pub returns-in_ok-tree-in-0-clause-within : goal.returns-in_ok-tree-in-0-clause-within
returns-in_ok-tree-in-0-clause-within t c =
    strings-within _ _ _ c.from_index-rest.ensures c.from_index.ensures c.in_ok-key-in-0.ensures.enough
    c.in_ok-value-in-0.ensures.enough

pub returns-in_ok-tree-in-0-clause-answer : goal.returns-in_ok-tree-in-0-clause-answer
returns-in_ok-tree-in-0-clause-answer t c =
    let bytes = c.args.bytes.now in
    entry-read bytes (search rules) (256 - c.args.level) _ c.in-0.is c.from_index-rest.ensures
    ∙ strings-read bytes _ _ c.from_index-rest.ensures c.from_index.ensures
    (λ key value. One (record { key = key; value = value })) c.in_ok-key-in-0.key c.in_ok-value-in-0.value
    c.in_ok-key-in-0.ensures.answer c.in_ok-value-in-0.ensures.answer
    ∙ ap (λ o. o >>= λ s. Ok (s, drop 65 bytes)) c.in_ok-tree-in-0.ensures.made

pub returns-in_ok-tree-in-1-clause-digests : goal.returns-in_ok-tree-in-1-clause-digests
returns-in_ok-tree-in-1-clause-digests t c = λ h.
    c.in_ok-tree-in-1.ensures.kept h (c.in_ok-left-in-1.ensures.digests h) (c.in_ok-right-in-1.ensures.digests h)

use Rattle.std.proofs.Common.{◌+◌, ◌-◌, length, drop, Ok, ap, sym, ◌∙◌, arith, rules, length-drop}
use Rattle.ark_base.proofs.Refusals.{passed_on}
use Rattle.merkle_map.specs.ProofBytes.{given_read, found_behind}
use Rattle.merkle_map.proofs.Answered.{answers_as}
use Rattle.merkle_map.proofs.ProofReading.{given-next, given-clear}
use Rattle.merkle_map.proofs.Reading.{drop-twice}
use Rattle.merkle_map.proofs.proof_bytes.+read_given.Goals as goal

pub returns-in_ok-used-clause-within : goal.returns-in_ok-used-clause-within
returns-in_ok-used-clause-within t c =
    let first = c.in_ok-digest.ensures.enough in
    let second = c.in_ok-used.ensures.within in
    let rest = ap length c.from_index-rest.ensures ∙ length-drop 32 c.args.bytes.now in
    omega (arith, first, second, rest)

pub returns-in_ok-used-clause-answer : goal.returns-in_ok-used-clause-answer
returns-in_ok-used-clause-answer t c =
    given-next c.args.nothing.now c.args.mask.now c.args.count c.args.level (search rules) c.args.bytes.now
    c.args.siblings.now.items _ _ _ (sym c.bit_of.ensures ∙ c.if-bit_of.true) c.in_ok-digest.ensures.answer
    c.in_ok-push.ensures.items c.from_index-rest.ensures
    ∙ c.in_ok-used.ensures.answer
    ∙ ap (λ l. Ok (c.read_given.new.siblings.items, drop c.in_ok-used.used l)) c.from_index-rest.ensures
    ∙ ap (λ l. Ok (c.read_given.new.siblings.items, l)) (drop-twice 32 c.in_ok-used.used c.args.bytes.now)

pub returns-in_err-used-clause-answer : goal.returns-in_err-used-clause-answer
returns-in_err-used-clause-answer t c =
    passed_on _ _ c.from_residual-in_err-used.result c.in_err-used.field-0.0 c.from_residual-in_err-used.ensures.1
    c.in_err-used.ensures.answer (λ why.
    given-next c.args.nothing.now c.args.mask.now c.args.count c.args.level (search rules) c.args.bytes.now
    c.args.siblings.now.items _ _ _ (sym c.bit_of.ensures ∙ c.if-bit_of.true) c.in_ok-digest.ensures.answer
    c.in_ok-push.ensures.items c.from_index-rest.ensures ∙ why)

pub returns-in_ok-push-2-clause-answer : goal.returns-in_ok-push-2-clause-answer
returns-in_ok-push-2-clause-answer t c =
    answers_as _ _ _ c.read_given-else-bit_of.result
    (given-clear c.args.nothing.now c.args.mask.now c.args.count c.args.level (search rules) c.args.bytes.now
    c.args.siblings.now.items (sym c.bit_of.ensures ∙ c.if-bit_of.false)
    ∙ ap (λ l. found_behind l (given_read c.args.nothing.now (c.args.count - 1) (c.args.level + 1) c.args.mask.now
    c.args.bytes.now)) (sym c.in_ok-push-2.ensures.items))
    c.read_given-else-bit_of.ensures.answer

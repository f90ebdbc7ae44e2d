use Rattle.std.proofs.Common.{arith, ◌∙◌, ap, sym, take, ◌+◌, ◌*◌, ◌-◌}
use Rattle.std.proofs.lemmas.List.{take_rest}
use Rattle.merkle_log.specs.Multi.{count_around, count_below}
use Rattle.merkle_log.proofs.MultiCounts.{filled, halves, around-alone, around-both}
use Rattle.merkle_log.proofs.multi_parts.+count_around.Goals as goal

pub count_around-requires : goal.count_around-requires
count_around-requires t c =
    let h = halves c.args.level c.args.place (omega arith) in
    (omega (arith, c.decreases), (omega arith, omega (arith, h.first)))

pub returns-then-bound-size-clause-count : goal.returns-then-bound-size-clause-count
returns-then-bound-size-clause-count t c =
    let some = filled c.args.indexes.now c.is_empty.result c.is_empty.ensures c.if-is_empty.false in
    c.count_around.ensures.count ∙ sym (around-alone c.args.size c.args.place c.args.level c.args.indexes.now
    (omega arith) some (omega arith))

pub returns-then-bound-size-clause-few : goal.returns-then-bound-size-clause-few
returns-then-bound-size-clause-few t c =
    let h = halves c.args.level c.args.place (omega arith) in omega (arith, c.count_around.ensures.few, h.two)

pub returns-then-bound-size-clause-most : goal.returns-then-bound-size-clause-most
returns-then-bound-size-clause-most t c =
    let h = halves c.args.level c.args.place (omega arith) in omega (arith, c.count_around.ensures.most, h.first)

pub returns-clause-count : goal.returns-clause-count
returns-clause-count t c =
    let some = filled c.args.indexes.now c.is_empty.result c.is_empty.ensures c.if-is_empty.false in
    ap (λ n. n + c.count_around-right.result) c.count_around-left.ensures.count
    ∙ ap (λ n. count_around c.args.size (c.args.level - 1) (2 * c.args.place) (take c.count_below-count.result
    c.args.indexes.now) + n) (c.count_around-right.ensures.count ∙ ap (count_around c.args.size (c.args.level - 1)
    (2 * c.args.place + 1)) (take_rest c.args.indexes.now c.count_below-count.result))
    ∙ sym (around-both c.args.size c.args.place c.args.level c.args.indexes.now (omega arith) some (omega arith)
    c.count_below-count.result (c.count_below-count.ensures.count
    ∙ ap (λ n. count_below n c.args.indexes.now) c.middle_of-bound.ensures))

pub returns-clause-few : goal.returns-clause-few
returns-clause-few t c =
    let h = halves c.args.level c.args.place (omega arith) in
    omega (arith, c.count_around-left.ensures.few, c.count_around-right.ensures.few, h.two)

pub returns-clause-most : goal.returns-clause-most
returns-clause-most t c =
    let h = halves c.args.level c.args.place (omega arith) in
    omega (arith, c.count_around-left.ensures.few, c.count_around-right.ensures.most, h.second, h.middle_is)

use Rattle.std.proofs.Common.{arith, sym, ◌∙◌, subst}
use Rattle.merkle_map.specs.Changes.{rejoined}
use Rattle.kept_map.specs.KeptMap.{LaidAt}
use Rattle.kept_map.proofs.Made.{fork-made}
use Rattle.kept_map.proofs.Removing.{forked, made-is, rejoined-both, rejoined-left, rejoined-right}
use Rattle.kept_map.proofs.remove.join.Goals as goal

pub returns-then-stands_alone-clause-made : goal.returns-then-stands_alone-clause-made
returns-then-stands_alone-clause-made c = λ h nothing entries left right on_left on_right.
    let alone = sym (c.stands_alone.ensures h entries c.args.forks.now c.args.count.now right left on_right on_left)
    ∙ c.if-stands_alone.true in
    made-is h entries c.args.forks.now c.args.count.now c.args.right right (rejoined nothing left right) _
    (rejoined-right nothing left right alone) (on_right, omega arith)

pub returns-then-stands_alone-2-clause-made : goal.returns-then-stands_alone-2-clause-made
returns-then-stands_alone-2-clause-made c = λ h nothing entries left right on_left on_right.
    let alone = sym (c.stands_alone-2.ensures h entries c.args.forks.now c.args.count.now left right on_left on_right)
    ∙ c.if-stands_alone-2.true in
    made-is h entries c.args.forks.now c.args.count.now c.args.left left (rejoined nothing left right) _
    (rejoined-left nothing left right alone) (on_left, omega arith)

pub returns-clause-made : goal.returns-clause-made
returns-clause-made c = λ h nothing entries left right on_left on_right.
    let forks = c.args.forks.now in
    let count = c.args.count.now in
    let right_not = sym (c.stands_alone.ensures h entries forks count right left on_right on_left)
    ∙ c.if-stands_alone.false in
    let left_not = sym (c.stands_alone-2.ensures h entries forks count left right on_left on_right)
    ∙ c.if-stands_alone-2.false in
    let made = fork-made h entries forks c.push_fork.new.forks count c.push_fork.result c.push_fork.ensures.before
    c.push_fork.ensures.digest c.push_fork.ensures.number left right
    (subst (λ n. LaidAt h entries forks count n left) (sym c.push_fork.ensures.left) on_left)
    (subst (λ n. LaidAt h entries forks count n right) (sym c.push_fork.ensures.right) on_right) in
    forked h entries c.push_fork.new.forks count c.push_fork.new.count c.push_fork.result left right
    (rejoined nothing left right) (rejoined-both h entries forks count c.args.left c.args.right nothing left right
    on_left
    on_right right_not left_not) c.push_fork.ensures.count made

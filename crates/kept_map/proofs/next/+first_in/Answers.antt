use Rattle.std.proofs.Common.{◌≡◌, ◌+◌, ◌*◌, ◌∷◌, true, false, IfOk, take, arith, ap, sym, ◌∙◌, subst}
use Rattle.kept_map.specs.KeptMap.{LaidAt, left_at, right_at}
use Rattle.kept_map.specs.Order.{IsFirstAt}
use Rattle.kept_map.specs.Parts.{part_number}
use Rattle.kept_map.proofs.Lies.{lies-fork, lies-part, sides-stand}
use Rattle.kept_map.proofs.Nexts.{first-entry, first-on-left, first-on-right, ok-on, right-there}
use Rattle.kept_map.proofs.next.+first_in.Goals as goal

pub returns-in_err-part_of-clause-found : goal.returns-in_err-part_of-clause-found
returns-in_err-part_of-clause-found t c = λ h first tree bits lies stands long some.
    let there = lies-part h c.args.entries.now c.args.forks.now first c.args.count c.args.number tree lies in
    absurd (c.in_err-part_of.ensures.none there.0 there.1 there.2)

pub returns-then-level-ge-LEVELS-clause-found : goal.returns-then-level-ge-LEVELS-clause-found
returns-then-level-ge-LEVELS-clause-found t c = λ h first tree bits lies stands long some.
    let k = c.in-Fork.place in
    let is : c.args.number ≡ 2 * k + 2 = sym c.in_ok-part_of.ensures.number ∙ ap part_number c.in-Fork.is in
    let it = lies-fork h (take first c.args.entries.now) c.args.forks.now c.args.count c.args.number k tree
    is lies in
    let sides = sides-stand c.args.level bits tree it.left it.right long it.is stands in
    let deep = c.if-level-ge-LEVELS.true in
    let short = sides.within in
    absurd (omega (arith, deep, short))

pub returns-in-Entry-clause-first : goal.returns-in-Entry-clause-first
returns-in-Entry-clause-first t c =
    let is : c.args.number ≡ 2 * c.in-Entry.place + 1 = sym c.in_ok-part_of.ensures.number ∙ ap part_number
    c.in-Entry.is in
    first-entry c.args.entries.now c.args.forks.now c.args.number c.in-Entry.place is

pub returns-then-left-eq0-clause-first : goal.returns-then-left-eq0-clause-first
returns-then-left-eq0-clause-first t c =
    let entries = c.args.entries.now in
    let forks = c.args.forks.now in
    let k = c.in-Fork.place in
    let is : c.args.number ≡ 2 * k + 2 = sym c.in_ok-part_of.ensures.number ∙ ap part_number c.in-Fork.is in
    ok-on c.first_in.result (IsFirstAt entries forks (right_at forks k))
    (IsFirstAt entries forks c.args.number)
    (λ place. first-on-right entries forks c.args.number k place is (sym c.left_at-left.ensures ∙ c.if-left-eq0.true))
    (subst (λ n. IfOk c.first_in.result (IsFirstAt entries forks n)) c.right_at.ensures
    c.first_in.ensures.first)

pub returns-else-left-eq0-clause-first : goal.returns-else-left-eq0-clause-first
returns-else-left-eq0-clause-first t c =
    let entries = c.args.entries.now in
    let forks = c.args.forks.now in
    let k = c.in-Fork.place in
    let is : c.args.number ≡ 2 * k + 2 = sym c.in_ok-part_of.ensures.number ∙ ap part_number c.in-Fork.is in
    ok-on c.first_in-else-left-eq0.result (IsFirstAt entries forks (left_at forks k))
    (IsFirstAt entries forks c.args.number)
    (λ place. first-on-left entries forks c.args.number k place is)
    (subst (λ n. IfOk c.first_in-else-left-eq0.result (IsFirstAt entries forks n)) c.left_at-left.ensures
    c.first_in-else-left-eq0.ensures.first)

pub returns-then-left-eq0-clause-found : goal.returns-then-left-eq0-clause-found
returns-then-left-eq0-clause-found t c = λ h first tree bits lies stands long some.
    let entries = c.args.entries.now in
    let forks = c.args.forks.now in
    let k = c.in-Fork.place in
    let is : c.args.number ≡ 2 * k + 2 = sym c.in_ok-part_of.ensures.number ∙ ap part_number c.in-Fork.is in
    let it = lies-fork h (take first entries) forks c.args.count c.args.number k tree
    is lies in
    let sides = sides-stand c.args.level bits tree it.left it.right long it.is stands in
    c.first_in.ensures.found h first it.right (true ∷ bits)
    (subst (λ n. LaidAt h (take first entries) forks k n it.right)
    (sym c.right_at.ensures) it.on_right) sides.on_right (sides.long true)
    (λ none. right-there h (take first entries) forks c.args.count k tree it
    sides.weighs (sym c.left_at-left.ensures ∙ c.if-left-eq0.true) (sym c.right_at.ensures ∙ none))

pub returns-else-left-eq0-clause-found : goal.returns-else-left-eq0-clause-found
returns-else-left-eq0-clause-found t c = λ h first tree bits lies stands long some.
    let entries = c.args.entries.now in
    let forks = c.args.forks.now in
    let k = c.in-Fork.place in
    let is : c.args.number ≡ 2 * k + 2 = sym c.in_ok-part_of.ensures.number ∙ ap part_number c.in-Fork.is in
    let it = lies-fork h (take first entries) forks c.args.count c.args.number k tree
    is lies in
    let sides = sides-stand c.args.level bits tree it.left it.right long it.is stands in
    c.first_in-else-left-eq0.ensures.found h first it.left (false ∷ bits)
    (subst (λ n. LaidAt h (take first entries) forks k n it.left)
    (sym c.left_at-left.ensures) it.on_left) sides.on_left (sides.long false) c.if-left-eq0.false

use Rattle.std.proofs.Common.{◌≡◌, ◌⊎◌, ◌+◌, ◌*◌, ◌∷◌, true, false, is_some, IfOk, take, arith, ap, sym, ◌∙◌, subst, inl, inr}
use Rattle.merkle_map.specs.Map.{bit_of}
use Rattle.merkle_map.specs.Tree.{way}
use Rattle.merkle_map.proofs.Keys.{length-way}
use Rattle.kept_map.specs.KeptMap.{LaidAt, right_at}
use Rattle.merkle_map.specs.Order.{IsKeyBelow}
use Rattle.kept_map.specs.Order.{IsFirstAt, IsNextAt}
use Rattle.kept_map.specs.Parts.{part_number}
use Rattle.kept_map.proofs.Climbing.{side-stands}
use Rattle.kept_map.proofs.Lies.{lies-fork, lies-part, sides-stand}
use Rattle.kept_map.proofs.Nexts.{next-across, next-entry, next-no_entry, next-nothing, next-on-left, next-on-right, ok-on}
use Rattle.kept_map.proofs.next.+next_in.Goals.{then-is_some-via-then-is_some, then-is_some-via-else-is_some+then-right-eq0}
use Rattle.kept_map.proofs.next.+next_in.Goals as goal

pub returns-in_err-part_of-clause-found : goal.returns-in_err-part_of-clause-found
returns-in_err-part_of-clause-found t c = λ h first tree lies stands.
    let there = lies-part h c.args.entries.now c.args.forks.now first c.args.count c.args.number tree lies in
    absurd (c.in_err-part_of.ensures.none there.0 there.1 there.2)

pub returns-in-Nothing-clause-next : goal.returns-in-Nothing-clause-next
returns-in-Nothing-clause-next t c =
    let is : c.args.number ≡ 0 = sym c.in_ok-part_of.ensures.number ∙ ap part_number c.in-Nothing.is in
    next-nothing c.args.entries.now c.args.forks.now c.args.number c.args.level c.args.from.now is

pub returns-then-is_key_below-clause-next : goal.returns-then-is_key_below-clause-next
returns-then-is_key_below-clause-next t c =
    let is : c.args.number ≡ 2 * c.in-Entry.place + 1 = sym c.in_ok-part_of.ensures.number ∙ ap part_number
    c.in-Entry.is in
    next-no_entry c.args.entries.now c.args.forks.now c.args.number c.args.level c.args.from.now c.in-Entry.place is
    (subst (λ k. IsKeyBelow k c.args.from.now) c.key_at.ensures (c.is_key_below.ensures.below c.if-is_key_below.true))

pub returns-else-is_key_below-clause-next : goal.returns-else-is_key_below-clause-next
returns-else-is_key_below-clause-next t c =
    let is : c.args.number ≡ 2 * c.in-Entry.place + 1 = sym c.in_ok-part_of.ensures.number ∙ ap part_number
    c.in-Entry.is in
    next-entry c.args.entries.now c.args.forks.now c.args.number c.args.level c.args.from.now c.in-Entry.place is
    (subst (λ k. ¬ IsKeyBelow k c.args.from.now) c.key_at.ensures (c.is_key_below.ensures.above
    c.if-is_key_below.false))

pub returns-then-level-ge-LEVELS-clause-found : goal.returns-then-level-ge-LEVELS-clause-found
returns-then-level-ge-LEVELS-clause-found t c = λ h first tree lies stands.
    let k = c.in-Fork.place in
    let is : c.args.number ≡ 2 * k + 2 = sym c.in_ok-part_of.ensures.number ∙ ap part_number c.in-Fork.is in
    let it = lies-fork h (take first c.args.entries.now) c.args.forks.now c.args.count c.args.number k tree
    is lies in
    let sides = sides-stand c.args.level (way c.args.level c.args.from.now) tree it.left it.right
    (length-way c.args.level c.args.from.now) it.is stands in
    let deep = c.if-level-ge-LEVELS.true in
    let short = sides.within in
    absurd (omega (arith, deep, short))

pub returns-then-bit_of-clause-next : goal.returns-then-bit_of-clause-next
returns-then-bit_of-clause-next t c =
    let entries = c.args.entries.now in
    let forks = c.args.forks.now in
    let k = c.in-Fork.place in
    let is : c.args.number ≡ 2 * k + 2 = sym c.in_ok-part_of.ensures.number ∙ ap part_number c.in-Fork.is in
    let bit : bit_of c.args.level c.args.from.now ≡ true = sym c.bit_of.ensures ∙ c.if-bit_of.true in
    ok-on c.next_in.result
    (IsNextAt entries forks (right_at forks k) (c.args.level + 1)
    c.args.from.now)
    (IsNextAt entries forks c.args.number c.args.level c.args.from.now)
    (λ found. next-on-right entries forks c.args.number c.args.level c.args.from.now k found is bit)
    (subst (λ n. IfOk c.next_in.result (IsNextAt entries forks n (c.args.level + 1)
    c.args.from.now)) c.right_at-right.ensures c.next_in.ensures.next)

pub returns-then-bit_of-clause-found : goal.returns-then-bit_of-clause-found
returns-then-bit_of-clause-found t c = λ h first tree lies stands.
    let entries = c.args.entries.now in
    let forks = c.args.forks.now in
    let k = c.in-Fork.place in
    let is : c.args.number ≡ 2 * k + 2 = sym c.in_ok-part_of.ensures.number ∙ ap part_number c.in-Fork.is in
    let it = lies-fork h (take first entries) forks c.args.count c.args.number k tree
    is lies in
    let sides = sides-stand c.args.level (way c.args.level c.args.from.now) tree it.left it.right
    (length-way c.args.level c.args.from.now) it.is stands in
    let bit : bit_of c.args.level c.args.from.now ≡ true = sym c.bit_of.ensures ∙ c.if-bit_of.true in
    c.next_in.ensures.found h first it.right
    (subst (λ n. LaidAt h (take first entries) forks k n it.right)
    (sym c.right_at-right.ensures) it.on_right) (side-stands c.args.level c.args.from.now true it.right bit
    sides.on_right)

pub returns-in_err-found-in-Fork-clause-found : goal.returns-in_err-found-in-Fork-clause-found
returns-in_err-found-in-Fork-clause-found t c = λ h first tree lies stands.
    let entries = c.args.entries.now in
    let forks = c.args.forks.now in
    let k = c.in-Fork.place in
    let is : c.args.number ≡ 2 * k + 2 = sym c.in_ok-part_of.ensures.number ∙ ap part_number c.in-Fork.is in
    let it = lies-fork h (take first entries) forks c.args.count c.args.number k tree
    is lies in
    let sides = sides-stand c.args.level (way c.args.level c.args.from.now) tree it.left it.right
    (length-way c.args.level c.args.from.now) it.is stands in
    let bit : bit_of c.args.level c.args.from.now ≡ false = sym c.bit_of.ensures ∙ c.if-bit_of.false in
    let no : false ≡ true = c.in_err-found-in-Fork.ensures.found h first it.left
    (subst (λ n. LaidAt h (take first entries) forks k n it.left)
    (sym c.left_at-left.ensures) it.on_left) (side-stands c.args.level c.args.from.now false it.left bit
    sides.on_left) in
    absurd cc

pub returns-then-is_some-clause-next : goal.returns-then-is_some-clause-next
returns-then-is_some-clause-next t c =
    let entries = c.args.entries.now in
    let forks = c.args.forks.now in
    let k = c.in-Fork.place in
    let is : c.args.number ≡ 2 * k + 2 = sym c.in_ok-part_of.ensures.number ∙ ap part_number c.in-Fork.is in
    let bit : bit_of c.args.level c.args.from.now ≡ false = sym c.bit_of.ensures ∙ c.if-bit_of.false in
    let found = c.in_ok-found-in-Fork.found in
    let enough : (is_some found ≡ true) ⊎ (right_at forks k ≡ 0) =
    elim c.then-is_some.branch [
      | then-is_some-via-then-is_some w ↦ inl (sym c.is_some.ensures ∙ w.if-is_some.true)
      | then-is_some-via-else-is_some+then-right-eq0 w ↦ inr (sym c.right_at-right.ensures ∙ w.if-right-eq0.true)
    ] in
    next-on-left entries forks c.args.number c.args.level c.args.from.now k found is bit enough
    (subst (λ n. IsNextAt entries forks n (c.args.level + 1) c.args.from.now found)
    c.left_at-left.ensures c.in_ok-found-in-Fork.ensures.next)

pub returns-in_err-first-in-Fork-clause-found : goal.returns-in_err-first-in-Fork-clause-found
returns-in_err-first-in-Fork-clause-found t c = λ h first tree lies stands.
    let entries = c.args.entries.now in
    let forks = c.args.forks.now in
    let k = c.in-Fork.place in
    let is : c.args.number ≡ 2 * k + 2 = sym c.in_ok-part_of.ensures.number ∙ ap part_number c.in-Fork.is in
    let it = lies-fork h (take first entries) forks c.args.count c.args.number k tree
    is lies in
    let sides = sides-stand c.args.level (way c.args.level c.args.from.now) tree it.left it.right
    (length-way c.args.level c.args.from.now) it.is stands in
    let no : false ≡ true = c.in_err-first-in-Fork.ensures.found h first it.right
    (true ∷ way c.args.level c.args.from.now)
    (subst (λ n. LaidAt h (take first entries) forks k n it.right)
    (sym c.right_at-right.ensures) it.on_right) sides.on_right (sides.long true) c.if-right-eq0.false in
    absurd cc

pub returns-in_ok-first-in-Fork-clause-next : goal.returns-in_ok-first-in-Fork-clause-next
returns-in_ok-first-in-Fork-clause-next t c =
    let entries = c.args.entries.now in
    let forks = c.args.forks.now in
    let k = c.in-Fork.place in
    let is : c.args.number ≡ 2 * k + 2 = sym c.in_ok-part_of.ensures.number ∙ ap part_number c.in-Fork.is in
    let bit : bit_of c.args.level c.args.from.now ≡ false = sym c.bit_of.ensures ∙ c.if-bit_of.false in
    let found = c.in_ok-found-in-Fork.found in
    let place = c.in_ok-first-in-Fork.first in
    next-across entries forks c.args.number c.args.level c.args.from.now k place found is bit
    (sym c.is_some.ensures ∙ c.if-is_some.false)
    (subst (λ n. IsNextAt entries forks n (c.args.level + 1) c.args.from.now found)
    c.left_at-left.ensures c.in_ok-found-in-Fork.ensures.next)
    (subst (λ n. IsFirstAt entries forks n place) c.right_at-right.ensures
    c.in_ok-first-in-Fork.ensures.first)

use Rattle.std.proofs.Common.{Ok, Err, ◌+◌, refl, ap, sym, ◌∙◌, subst}
use Rattle.merkle_map.specs.Order.{IsNextKnown, IsOnSide, next_seen}
use Rattle.merkle_map.specs.Parts.{shape}
use Rattle.merkle_map.proofs.NextShown.{known-left, known-refused, known-right, looked-for, refused}
use Rattle.merkle_map.proofs.next.+next_shown.Goals as goal

pub returns-in_err-found-in-Fork : goal.returns-in_err-found-in-Fork
returns-in_err-found-in-Fork g t c =
    let seen = shape g.D.Numbered.numbers in
    let own = next_seen (Err c.in_err-found-in-Fork.field-0.0) in
    looked-for c.args.is_outside_all _ _ c.if-is_outside_all.false
    (known-refused c.args.on_first c.args.on_last c.args.level (ap seen c.in-Fork.is) c.args.first.now c.args.last.now
    c.turns-below.result c.turns-above.result c.turns-below.ensures c.turns-above.ensures own
    (next_seen c.from_residual.result)
    (subst (λ s. IsOnSide c.turns-below.result (IsNextKnown c.args.on_first c.turns-above.result (c.args.level + 1)
    c.args.first.now c.args.last.now (seen s.left)) own) c.deref-in-Fork.ensures c.in_err-found-in-Fork.ensures)
    c.in_err-found-in-Fork.field-0.0 refl
    (refused c.from_residual.result c.in_err-found-in-Fork.field-0.0 c.from_residual.ensures.1))

pub returns-then-is_some : goal.returns-then-is_some
returns-then-is_some g t c =
    let seen = shape g.D.Numbered.numbers in
    let own = next_seen (Ok c.in_ok-found-in-Fork.found) in
    looked-for c.args.is_outside_all _ _ c.if-is_outside_all.false
    (known-left c.args.on_first c.args.on_last c.args.level (ap seen c.in-Fork.is) c.args.first.now c.args.last.now
    c.turns-below.result c.turns-above.result c.turns-below.ensures c.turns-above.ensures own
    own
    (subst (λ s. IsOnSide c.turns-below.result (IsNextKnown c.args.on_first c.turns-above.result (c.args.level + 1)
    c.args.first.now c.args.last.now (seen s.left)) own) c.deref-in-Fork.ensures c.in_ok-found-in-Fork.ensures)
    c.in_ok-found-in-Fork.found refl (sym c.is_some.ensures ∙ c.if-is_some.true) refl)

pub returns-else-is_some : goal.returns-else-is_some
returns-else-is_some g t c =
    let seen = shape g.D.Numbered.numbers in
    let own = next_seen (Ok c.in_ok-found-in-Fork.found) in
    looked-for c.args.is_outside_all _ _ c.if-is_outside_all.false
    (known-right c.args.on_first c.args.on_last c.args.level (ap seen c.in-Fork.is) c.args.first.now c.args.last.now
    c.turns-below.result c.turns-above.result c.turns-below.ensures c.turns-above.ensures own
    (next_seen c.next_shown-in-Fork.result)
    (subst (λ s. IsOnSide c.turns-below.result (IsNextKnown c.args.on_first c.turns-above.result (c.args.level + 1)
    c.args.first.now c.args.last.now (seen s.left)) own) c.deref-in-Fork.ensures c.in_ok-found-in-Fork.ensures)
    c.in_ok-found-in-Fork.found refl (sym c.is_some.ensures ∙ c.if-is_some.false)
    (subst (λ s. IsOnSide c.turns-above.result (IsNextKnown c.turns-below.result c.args.on_last (c.args.level + 1)
    c.args.first.now c.args.last.now (seen s.right)) (next_seen c.next_shown-in-Fork.result)) c.deref-in-Fork-2.ensures
    c.next_shown-in-Fork.ensures))

use Rattle.std.proofs.Common.{subst}
use Rattle.merkle_map.specs.Order.{IsKeyBelow}
use Rattle.kept_map.specs.KeptMap.{entry_in}
use Rattle.kept_map.proofs.Differs.{lower-first}
use Rattle.kept_map.proofs.differ.reached.Goals.{then-not-is_on-via-then-not-is_on, then-not-is_on-via-else-not-is_on+then-not-is_key_below}
use Rattle.kept_map.proofs.differ.reached.Goals as goal

pub returns-then-not-is_on-clause-found : goal.returns-then-not-is_on-clause-found
returns-then-not-is_on-clause-found c = λ xs ys apart.
    let lower = (entry_in c.args.entries.now c.args.lower).key in
    let higher = (entry_in c.args.entries.now c.args.higher).key in
    lower-first c.args.is_on c.args.from.now xs ys lower higher apart
    (λ on. elim c.then-not-is_on.branch [
      | then-not-is_on-via-then-not-is_on w ↦ let off = w.if-not-is_on.true in absurd cc
      | then-not-is_on-via-else-not-is_on+then-not-is_key_below w ↦
          subst (λ k. ¬ IsKeyBelow k c.args.from.now) w.key_at.ensures
          (w.is_key_below.ensures.above w.if-not-is_key_below.true)
    ])

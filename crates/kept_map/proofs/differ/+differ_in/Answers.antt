use Rattle.std.proofs.Common.{◌≡◌, ◌+◌, ◌∷◌, true, false, arith, refl, ap, sym, ◌∙◌, subst}
use Rattle.merkle_map.specs.Map.{value_at}
use Rattle.merkle_map.specs.Whole.{entries_of}
use Rattle.kept_map.specs.Differ.{DifferAtBoth, IsFoundAt, few, half_shape}
use Rattle.kept_map.specs.KeptMap.{entry_in}
use Rattle.kept_map.proofs.Differing.{both-halves, few-newer, few-older, fork-both, found-left, found-right, none-there, off-when, part-newer, part-older, same-number}
use Rattle.kept_map.proofs.Nexts.{ok-on}
use Rattle.kept_map.proofs.differ.+differ_in.Goals.{then-is_outside-via-then-is_outside, then-is_outside-via-else-is_outside+then-older-newer, then-level-ge-LEVELS-via-then-level-ge-LEVELS, then-level-ge-LEVELS-via-else-level-ge-LEVELS+then-budget-eq0}
use Rattle.kept_map.proofs.differ.+differ_in.Goals as goal

pub returns-then-is_outside-clause-next : goal.returns-then-is_outside-clause-next
returns-then-is_outside-clause-next depth c = λ inside h bits s t both long on. elim c.then-is_outside.branch [
  | then-is_outside-via-then-is_outside w ↦ let out = w.if-is_outside.true in absurd cc
  | then-is_outside-via-else-is_outside+then-older-newer w ↦
      let same = same-number c.args.entries.now c.args.forks.now h c.args.older c.args.newer bits s t both
      w.if-older-newer.true in
      λ key reached. ap (λ s. value_at key (entries_of s)) same
]

pub returns-in_err-a-clause-found : goal.returns-in_err-a-clause-found
returns-in_err-a-clause-found depth c = λ h bits s t both long few.
    let there = part-older c.args.entries.now c.args.forks.now h c.args.older c.args.newer bits s t both in
    absurd (c.in_err-a.ensures.none there.0 there.1 there.2)

pub returns-in_err-b-clause-found : goal.returns-in_err-b-clause-found
returns-in_err-b-clause-found depth c = λ h bits s t both long few.
    let there = part-newer c.args.entries.now c.args.forks.now h c.args.older c.args.newer bits s t both in
    absurd (c.in_err-b.ensures.none there.0 there.1 there.2)

pub returns-then-level-ge-LEVELS-clause-found : goal.returns-then-level-ge-LEVELS-clause-found
returns-then-level-ge-LEVELS-clause-found depth c = λ h bits s t both long few.
    let fork = fork-both c.args.entries.now c.args.forks.now h c.args.older c.args.newer bits s t both c.args.level
    c.in_ok-a.a c.in_ok-b.b long c.in_ok-a.ensures.number c.in_ok-b.ensures.number c.in-Forks.ensures in
    let short = fork.0 in
    let counts = fork.1 in
    elim c.then-level-ge-LEVELS.branch [
      | then-level-ge-LEVELS-via-then-level-ge-LEVELS w ↦
          let deep = w.if-level-ge-LEVELS.true in absurd (omega (arith, deep, short))
      | then-level-ge-LEVELS-via-else-level-ge-LEVELS+then-budget-eq0 w ↦
          let none = w.if-budget-eq0.true in absurd (omega (arith, none, few, counts))
    ]

pub returns-in_err-found-in-Forks-clause-found : goal.returns-in_err-found-in-Forks-clause-found
returns-in_err-found-in-Forks-clause-found depth c = λ h bits s t both long few.
    let entries = c.args.entries.now in
    let forks = c.args.forks.now in
    let level = c.args.level in
    let fork = fork-both entries forks h c.args.older c.args.newer bits s t both level
    c.in_ok-a.a c.in_ok-b.b long c.in_ok-a.ensures.number c.in_ok-b.ensures.number c.in-Forks.ensures in
    let counts = fork.1 in
    let no : false ≡ true = c.in_err-found-in-Forks.ensures.found h (false ∷ bits) (half_shape false level s)
    (half_shape false level t)
    (both-halves entries forks false c.args.older c.args.newer c.half_of-left.result c.half_of-other.result level h
    bits s
    t c.half_of-left.ensures c.half_of-other.ensures long both) (omega (arith, long)) (omega (arith, few, counts)) in
    absurd cc

pub returns-then-is_some-clause-next : goal.returns-then-is_some-clause-next
returns-then-is_some-clause-next depth c = λ inside.
    let entries = c.args.entries.now in
    let forks = c.args.forks.now in
    let level = c.args.level in
    let deep = c.if-level-ge-LEVELS.false in
    let found = c.in_ok-found-in-Forks.found in
    let some = sym c.is_some.ensures ∙ c.if-is_some.true in
    let off = off-when c.turns-below.result found c.in_ok-found-in-Forks.ensures.none some in
    found-left entries forks c.args.older c.args.newer level (omega (arith, deep)) c.args.is_on c.turns-below.result
    c.args.from.now c.turns-below.ensures c.half_of-left.result c.half_of-other.result c.half_of-left.ensures
    c.half_of-other.ensures found some off (c.in_ok-found-in-Forks.ensures.next off)

pub returns-then-is_some-clause-spent : goal.returns-then-is_some-clause-spent
returns-then-is_some-clause-spent depth c = λ h bits s t both long.
    let entries = c.args.entries.now in
    let forks = c.args.forks.now in
    let level = c.args.level in
    let fork = fork-both entries forks h c.args.older c.args.newer bits s t both level
    c.in_ok-a.a c.in_ok-b.b long c.in_ok-a.ensures.number c.in_ok-b.ensures.number c.in-Forks.ensures in
    let counts = fork.1 in
    let spent = c.in_ok-found-in-Forks.ensures.spent h (false ∷ bits) (half_shape false level s) (half_shape false
    level t)
    (both-halves entries forks false c.args.older c.args.newer c.half_of-left.result c.half_of-other.result level h
    bits s
    t c.half_of-left.ensures c.half_of-other.ensures long both) (omega (arith, long)) in
    omega (arith, counts, spent)

pub returns-in-Alike-clause-next : goal.returns-in-Alike-clause-next
returns-in-Alike-clause-next depth c = λ inside h bits s t both long on key reached.
    let entries = c.args.entries.now in
    let ends = c.in-Alike.ensures in
    let older = few-older entries c.args.forks.now h c.args.older c.args.newer bits s t both c.in_ok-a.a ends.0
    c.in_ok-a.ensures.number in
    let newer = few-newer entries c.args.forks.now h c.args.older c.args.newer bits s t both c.in_ok-b.b ends.1
    c.in_ok-b.ensures.number in
    ap (value_at key) older ∙ ends.2 key ∙ ap (value_at key) (sym newer)

pub returns-in-Apart-clause-next : goal.returns-in-Apart-clause-next
returns-in-Apart-clause-next depth c = λ inside h bits s t both long on.
    let entries = c.args.entries.now in
    let ends = c.in-Apart.ensures in
    let older = few-older entries c.args.forks.now h c.args.older c.args.newer bits s t both c.in_ok-a.a ends.0
    c.in_ok-a.ensures.number in
    let newer = few-newer entries c.args.forks.now h c.args.older c.args.newer bits s t both c.in_ok-b.b ends.1
    c.in_ok-b.ensures.number in
    let lower = (entry_in entries c.in-Apart.lower).key in
    let higher = (entry_in entries c.in-Apart.higher).key in
    c.reached.ensures.found (entries_of s) (entries_of t)
    (subst (λ xs. DifferAtBoth xs (entries_of t) lower higher) (sym older)
    (subst (λ ys. DifferAtBoth (few entries c.in_ok-a.a) ys lower higher) (sym newer) ends.4))

pub returns-else-is_some-clause-next : goal.returns-else-is_some-clause-next
returns-else-is_some-clause-next depth c = λ inside.
    let entries = c.args.entries.now in
    let forks = c.args.forks.now in
    let level = c.args.level in
    let deep = c.if-level-ge-LEVELS.false in
    let found = c.in_ok-found-in-Forks.found in
    let none = none-there found (sym c.is_some.ensures ∙ c.if-is_some.false) in
    let below = c.turns-below.result in
    ok-on c.differ_in-in-Forks.result
    (IsFoundAt entries forks c.half_of-right.result c.half_of-other-in-Forks.result (level + 1) below c.args.from.now)
    (IsFoundAt entries forks c.args.older c.args.newer level c.args.is_on c.args.from.now)
    (λ last is. found-right entries forks c.args.older c.args.newer level (omega (arith, deep)) c.args.is_on below
    c.args.from.now c.turns-below.ensures c.half_of-left.result c.half_of-other.result c.half_of-left.ensures
    c.half_of-other.ensures c.half_of-right.result c.half_of-other-in-Forks.result c.half_of-right.ensures
    c.half_of-other-in-Forks.ensures last
    (λ off. subst (IsFoundAt entries forks c.half_of-left.result c.half_of-other.result (level + 1) c.args.is_on
    c.args.from.now) none (c.in_ok-found-in-Forks.ensures.next off)) is)
    (c.differ_in-in-Forks.ensures.next refl)

pub returns-else-is_some-clause-found : goal.returns-else-is_some-clause-found
returns-else-is_some-clause-found depth c = λ h bits s t both long few.
    let entries = c.args.entries.now in
    let forks = c.args.forks.now in
    let level = c.args.level in
    let fork = fork-both entries forks h c.args.older c.args.newer bits s t both level
    c.in_ok-a.a c.in_ok-b.b long c.in_ok-a.ensures.number c.in_ok-b.ensures.number c.in-Forks.ensures in
    let counts = fork.1 in
    let spent = c.in_ok-found-in-Forks.ensures.spent h (false ∷ bits) (half_shape false level s) (half_shape false
    level t)
    (both-halves entries forks false c.args.older c.args.newer c.half_of-left.result c.half_of-other.result level h
    bits s
    t c.half_of-left.ensures c.half_of-other.ensures long both) (omega (arith, long)) in
    c.differ_in-in-Forks.ensures.found h (true ∷ bits) (half_shape true level s) (half_shape true level t)
    (both-halves entries forks true c.args.older c.args.newer c.half_of-right.result c.half_of-other-in-Forks.result
    level
    h bits s t c.half_of-right.ensures c.half_of-other-in-Forks.ensures long both) (omega (arith, long))
    (omega (arith, few, counts, spent))

pub returns-else-is_some-clause-spent : goal.returns-else-is_some-clause-spent
returns-else-is_some-clause-spent depth c =
    ok-on c.differ_in-in-Forks.result _ _
    (λ last more h bits s t both long.
    let entries = c.args.entries.now in
    let forks = c.args.forks.now in
    let level = c.args.level in
    let fork = fork-both entries forks h c.args.older c.args.newer bits s t both level
    c.in_ok-a.a c.in_ok-b.b long c.in_ok-a.ensures.number c.in_ok-b.ensures.number c.in-Forks.ensures in
    let counts = fork.1 in
    let spent = c.in_ok-found-in-Forks.ensures.spent h (false ∷ bits) (half_shape false level s) (half_shape false
    level t)
    (both-halves entries forks false c.args.older c.args.newer c.half_of-left.result c.half_of-other.result level h
    bits s
    t c.half_of-left.ensures c.half_of-other.ensures long both) (omega (arith, long)) in
    let rest = more h (true ∷ bits) (half_shape true level s) (half_shape true level t)
    (both-halves entries forks true c.args.older c.args.newer c.half_of-right.result c.half_of-other-in-Forks.result
    level
    h bits s t c.half_of-right.ensures c.half_of-other-in-Forks.ensures long both) (omega (arith, long)) in
    omega (arith, counts, spent, rest))
    c.differ_in-in-Forks.ensures.spent

use Rattle.std.proofs.Common.{◌≡◌, MatchOption, true, false, ap, sym, ◌∙◌, subst}
use Rattle.merkle_map.specs.Changes.{entry_of}
use Rattle.merkle_map.specs.Whole.{entries_of}
use Rattle.kept_map.specs.KeptMap.{entry_in}
use Rattle.merkle_map.specs.Order.{HasNoneFrom, IsNextEntry}
use Rattle.kept_map.proofs.UnderHeads.{lies-under}
use Rattle.kept_map.proofs.next.next.Goals as goal

pub returns-in_err-found-clause-found : goal.returns-in_err-found-clause-found
returns-in_err-found-clause-found c = λ h xs keeps.
    let no : false ≡ true = c.in_err-found.ensures.found h c.args.head.now.entries keeps.tree
    (lies-under h c.args.entries.now c.args.forks.now c.args.head.now xs keeps) keeps.is.stands in
    absurd cc

pub returns-in-None-clause-next : goal.returns-in-None-clause-next
returns-in-None-clause-next c = λ h xs keeps.
    let entries = c.args.entries.now in
    subst (HasNoneFrom c.args.from.now) keeps.is.has
    (subst (λ found. MatchOption found (HasNoneFrom c.args.from.now (entries_of keeps.tree))
    (λ place. IsNextEntry c.args.from.now (entries_of keeps.tree) (entry_in entries place))) c.in-None.is
    (c.in_ok-found.ensures.next h c.args.head.now.entries c.args.head.now.forks keeps.tree
    (lies-under h entries c.args.forks.now c.args.head.now xs keeps) keeps.is.stands))

pub returns-in-Some-clause-next : goal.returns-in-Some-clause-next
returns-in-Some-clause-next c = λ h xs keeps.
    let entries = c.args.entries.now in
    let same : entry_in entries c.in-Some.place ≡ entry_of c.key_at.result c.value_at.result =
    ap (λ key. entry_of key (entry_in entries c.in-Some.place).value) (sym c.key_at.ensures)
    ∙ ap (λ value. entry_of c.key_at.result value) (sym c.value_at.ensures) in
    subst (λ xs. IsNextEntry c.args.from.now xs (entry_of c.key_at.result c.value_at.result)) keeps.is.has
    (subst (λ e. IsNextEntry c.args.from.now (entries_of keeps.tree) e) same
    (subst (λ found. MatchOption found (HasNoneFrom c.args.from.now (entries_of keeps.tree))
    (λ place. IsNextEntry c.args.from.now (entries_of keeps.tree) (entry_in entries place))) c.in-Some.is
    (c.in_ok-found.ensures.next h c.args.head.now.entries c.args.head.now.forks keeps.tree
    (lies-under h entries c.args.forks.now c.args.head.now xs keeps) keeps.is.stands)))

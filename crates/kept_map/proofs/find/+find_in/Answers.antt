use Rattle.std.proofs.Common.{Ok, length, true, false, arith, ap, sym, ◌∙◌}
use Rattle.std.proofs.lemmas.Result.{IfOk-weaker, on_err_weaker}
use Rattle.std.specs.Str.{bytes_eq}
use Rattle.merkle_map.specs.Map.{MapHashes}
use Rattle.merkle_map.specs.Tree.{Shape}
use Rattle.kept_map.specs.KeptMap.{entry_in}
use Rattle.kept_map.specs.Lying.{LiesOn}
use Rattle.kept_map.specs.Parts.{part_number}
use Rattle.kept_map.proofs.Descent.{ForkOn, entry-on, fork-on, none-on, nothing-on, on_err}
use Rattle.kept_map.proofs.Finding.{found-nothing, found-own, found-other, found-side}
use Rattle.kept_map.proofs.find.+find_in.Goals.{In-Fork}
use Rattle.kept_map.proofs.find.+find_in.Goals as goal

pub returns-in_err-part_of-clause-sound : goal.returns-in_err-part_of-clause-sound
returns-in_err-part_of-clause-sound t c = on_err c.from_residual.result (λ h tree on.
    none-on h c.args.entries.now c.args.forks.now _ c.args.number c.args.level c.args.key.now tree on
    c.in_err-part_of.ensures.none)

pub returns-in-Nothing-clause-found : goal.returns-in-Nothing-clause-found
returns-in-Nothing-clause-found t c = λ h tree on.
    found-nothing c.args.level c.args.key.now tree (nothing-on h c.args.entries.now c.args.forks.now _ c.args.number
    c.args.level c.args.key.now tree on (ap part_number (sym c.in-Nothing.is) ∙ c.in_ok-part_of.ensures.number))

pub returns-then-are_same_keys-clause-found : goal.returns-then-are_same_keys-clause-found
returns-then-are_same_keys-clause-found t c = λ h tree on.
    let at = entry-on h c.args.entries.now c.args.forks.now _ c.args.number c.args.level c.args.key.now tree on
    c.in-Entry.place (ap part_number (sym c.in-Entry.is) ∙ c.in_ok-part_of.ensures.number) in
    found-own c.args.level c.args.key.now tree (entry_in c.args.entries.now c.in-Entry.place) c.value_at.result at
    (ap (λ k. bytes_eq k c.args.key.now) (sym c.key_at.ensures) ∙ sym c.are_same_keys.ensures
    ∙ c.if-are_same_keys.true) c.value_at.ensures

pub returns-else-are_same_keys-clause-found : goal.returns-else-are_same_keys-clause-found
returns-else-are_same_keys-clause-found t c = λ h tree on.
    let at = entry-on h c.args.entries.now c.args.forks.now _ c.args.number c.args.level c.args.key.now tree on
    c.in-Entry.place (ap part_number (sym c.in-Entry.is) ∙ c.in_ok-part_of.ensures.number) in
    found-other c.args.level c.args.key.now tree (entry_in c.args.entries.now c.in-Entry.place) at
    (ap (λ k. bytes_eq k c.args.key.now) (sym c.key_at.ensures) ∙ sym c.are_same_keys.ensures
    ∙ c.if-are_same_keys.false)

-- the fork at the number
forked : (t : _) (c : In-Fork t) (h : MapHashes) (tree : Shape)
    → LiesOn h c.args.entries.now c.args.forks.now (length c.args.forks.now) c.args.number c.args.level c.args.key.now
    tree → ForkOn h c.args.entries.now c.args.forks.now (length c.args.forks.now) c.in-Fork.place c.args.level
    c.args.key.now tree
forked t c h tree on = fork-on h c.args.entries.now c.args.forks.now _ c.args.number c.args.level c.args.key.now tree on
    c.in-Fork.place (ap part_number (sym c.in-Fork.is) ∙ c.in_ok-part_of.ensures.number)

pub returns-then-level-ge256-clause-sound : goal.returns-then-level-ge256-clause-sound
returns-then-level-ge256-clause-sound t c = λ h tree on.
    let below = (forked t (goal.at.returns-then-level-ge256-clause-sound t c).In-Fork h tree on).below in
    omega (arith, below)

pub returns-then-bit_of-clause-found : goal.returns-then-bit_of-clause-found
returns-then-bit_of-clause-found t c = IfOk-weaker c.find_in.result _ _ (λ found below. λ h tree on.
    let fork = forked t (goal.at.returns-then-bit_of-clause-found t c).In-Fork h tree on in
    let here = sym c.bit_of.ensures ∙ c.if-bit_of.true in
    found-side h c.args.entries.now c.args.forks.now _ c.in-Fork.place c.args.level c.args.key.now tree fork true here
    (Ok found) (below h _ (fork.side true here c.right_at.result c.right_at.ensures))) c.find_in.ensures.found

pub returns-then-bit_of-clause-sound : goal.returns-then-bit_of-clause-sound
returns-then-bit_of-clause-sound t c = on_err_weaker c.find_in.result (λ none. λ h tree on.
    let fork = forked t (goal.at.returns-then-bit_of-clause-sound t c).In-Fork h tree on in
    none h _ (fork.side true (sym c.bit_of.ensures ∙ c.if-bit_of.true) c.right_at.result c.right_at.ensures))
    c.find_in.ensures.sound

pub returns-else-bit_of-clause-found : goal.returns-else-bit_of-clause-found
returns-else-bit_of-clause-found t c = IfOk-weaker c.find_in-else-bit_of.result _ _ (λ found below. λ h tree on.
    let fork = forked t (goal.at.returns-else-bit_of-clause-found t c).In-Fork h tree on in
    let here = sym c.bit_of.ensures ∙ c.if-bit_of.false in
    found-side h c.args.entries.now c.args.forks.now _ c.in-Fork.place c.args.level c.args.key.now tree fork false here
    (Ok found) (below h _ (fork.side false here c.left_at.result c.left_at.ensures)))
    c.find_in-else-bit_of.ensures.found

pub returns-else-bit_of-clause-sound : goal.returns-else-bit_of-clause-sound
returns-else-bit_of-clause-sound t c = on_err_weaker c.find_in-else-bit_of.result (λ none. λ h tree on.
    let fork = forked t (goal.at.returns-else-bit_of-clause-sound t c).In-Fork h tree on in
    none h _ (fork.side false (sym c.bit_of.ensures ∙ c.if-bit_of.false) c.left_at.result c.left_at.ensures))
    c.find_in-else-bit_of.ensures.sound

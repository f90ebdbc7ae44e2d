use Rattle.std.proofs.Common.{Bor, Ok, ap, sym, ◌∙◌}
use Rattle.ark_merkle.proofs.LastLeaves.{rise-unseen, entered-again, entered-new}
use Rattle.ark_merkle.proofs.tree.batch.enter.Goals as goal

-- the leaf behind a reference
abbrev leaf_of : {A : Type 0} → Bor A → A
leaf_of leaf = leaf.now

pub returns-then-contains_key : goal.returns-then-contains_key
returns-then-contains_key g c = ap Ok (sym (entered-again leaf_of c.args.index c.args.leaf 0 c.args.last.now.entries
    (rise-unseen leaf_of 0 _ c.requires) (sym c.contains_key.ensures ∙ c.if-contains_key.true)))

pub returns : goal.returns
returns g c = rw c.in_ok-insert.ensures.entries (ap Ok (sym (entered-new leaf_of c.args.index c.args.leaf
    c.args.last.now.entries (sym c.contains_key.ensures ∙ c.if-contains_key.false))))

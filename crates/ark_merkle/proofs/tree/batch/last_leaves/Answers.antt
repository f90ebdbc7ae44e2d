use Rattle.std.proofs.Common.{Ok, ap, sym, ◌∙◌}
use Rattle.std.proofs.lemmas.List.{take_all}
use Rattle.ark_merkle.proofs.LastLeaves.{last-rising}
use Rattle.ark_merkle.proofs.tree.batch.last_leaves.Goals as goal

pub returns-then-are_rising : goal.returns-then-are_rising
returns-then-are_rising g c =
    let rising = rw c.if-are_rising.true at c.are_rising.ensures in
    ap Ok (last-rising 0 c.args.changes.now rising
    ∙ sym (c.each.invariant ∙ take_all c.each.n c.args.changes.now c.each-test.false))

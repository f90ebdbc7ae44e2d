use Rattle.std.proofs.lemmas.List.{length-map}
use Rattle.ark_base.proofs.Refusals.{passed_on}
use Rattle.ark_paths.proofs.Tables.{IsServed-kept, IsServed-anew, answer-kept, answer-anew, asked-as, counted-most}
use Rattle.ark_paths.proofs.multi_path.table.ask_upper.Goals as goal

pub find-requires-clause-entries : goal.find-requires-clause-entries
find-requires-clause-entries g c = λ place entry at.
    rw (c.deref.ensures.value, ← length-map c.args.made.now.items g.D.Numbered.numbers)
    (c.requires.made.all place entry at).own

pub returns-in-Some-clause-answer : goal.returns-in-Some-clause-answer
returns-in-Some-clause-answer g c =
    answer-kept _ _ c.args.made.now.items c.args.place c.args.pair c.requires.made
    (rw c.deref.ensures.value at c.in-Some.ensures)

pub returns-in-Some-clause-served : goal.returns-in-Some-clause-served
returns-in-Some-clause-served g c =
    IsServed-kept _ _ c.args.made.now.items c.args.place c.args.pair c.requires.made
    (rw c.deref.ensures.value at c.in-Some.ensures)

pub returns-in_err-digest-clause-answer : goal.returns-in_err-digest-clause-answer
returns-in_err-digest-clause-answer g c =
    passed_on _ _ c.from_residual.result c.in_err-digest.field-0.0 c.from_residual.ensures.1
    c.in_err-digest.ensures.answer
    (asked-as g.D.Numbered.numbers (g.T.PairHasher.pair c.args.hasher.now).upper c.args.made.now.items c.args.pair
    c.requires.own c.index.ensures c.in_order.ensures)

pub returns-in_err-digest-clause-most : goal.returns-in_err-digest-clause-most
returns-in_err-digest-clause-most g c = counted-most _ _ c.upper.ensures.counts

pub returns-in_err-number-clause-most : goal.returns-in_err-number-clause-most
returns-in_err-number-clause-most g c = counted-most _ _ c.upper.ensures.counts

pub returns-clause-most : goal.returns-clause-most
returns-clause-most g c = counted-most _ _ c.upper.ensures.counts

pub returns-clause-answer : goal.returns-clause-answer
returns-clause-answer g c =
    answer-anew _ _ c.args.made.now.items c.args.place c.args.pair c.requires.made c.requires.own c.index.ensures
    c.in_order.ensures _ c.in_ok-digest.ensures.answer c.in_ok-number.ensures.made c.in_ok-number.ensures.number

pub returns-clause-served : goal.returns-clause-served
returns-clause-served g c =
    IsServed-anew _ _ c.args.made.now.items c.args.place c.args.pair c.requires.made c.requires.own c.index.ensures
    c.in_order.ensures _ c.in_ok-digest.ensures.answer c.in_ok-number.ensures.made c.in_ok-number.ensures.number
    (_, c.in_ok-number.ensures.made) c.in_ok-number.ensures.kept c.in_ok-number.ensures.entries
    (rw c.deref.ensures.value at c.in_default.ensures) c.upper.ensures.counts

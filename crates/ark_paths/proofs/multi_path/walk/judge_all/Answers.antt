use Rattle.std.proofs.Common.{◌≡◌, ◌∙◌, Bor, rules, length, true, false, sym, refl, arith, inr}
use Rattle.std.proofs.lemmas.Bool.{eqb-true, eqb-false}
use Rattle.std.proofs.lemmas.List.{length-map}
use Rattle.ark_paths.proofs.MultiWalks.{decided_at_once, AtPlace-first, AtPlace-end, AtPlace-untaken, AtPlace-refused, AtPlace-rejected, AtPlace-accepted}
use Rattle.ark_paths.proofs.CountSteps.{Decoded-first, Decoded-next, most-all, most-next, most-there, Counted-all, Counted-first, Counted-next, RisesBy-more}
use Rattle.ark_paths.proofs.multi_path.walk.judge_all.Goals as goal

pub returns-then-is_empty-clause-answer : goal.returns-then-is_empty-clause-answer
returns-then-is_empty-clause-answer g c =
    let none = eqb-true (length c.args.indexes.now) 0 (sym c.is_empty.ensures ∙ c.if-is_empty.true) in
    decided_at_once (λ more. inr (rw none refl))

pub loop-place-init : goal.loop-place-init
loop-place-init g c =
    let some = eqb-false (length c.args.indexes.now) 0 (sym c.is_empty.ensures ∙ c.if-is_empty.false) in
    record {
      can = c.requires.leaves;
      at = rw c.requires.above (AtPlace-first (omega (arith, some)));
      decoded = rw c.requires.above (Decoded-first _);
      table = c.requires.made (g.T.PairHasher.pair c.args.hasher.now);
      counted = Counted-first c.requires.none c.requires.holds;
      same = refl;
      rises = rw c.requires.none (omega arith);
      most = omega arith;
    }

pub returns-in_err-next-clause-answer : goal.returns-in_err-next-clause-answer
returns-in_err-next-clause-answer g c =
    AtPlace-untaken c.loop-place.invariant.at c.loop-place-test.true c.next_place.new.leaves c.from_residual.result
    c.in_err-next.field-0.0 c.from_residual.ensures.1 c.in_err-next.ensures.next

pub returns-in_err-next-clause-most : goal.returns-in_err-next-clause-most
returns-in_err-next-clause-most g c =
    most-all _ _ c.loop-place.place (length c.args.indexes.now) _ (omega arith) c.loop-place.invariant.most

pub returns-in_err-accepted-clause-answer : goal.returns-in_err-accepted-clause-answer
returns-in_err-accepted-clause-answer g c =
    AtPlace-refused c.loop-place.invariant.at c.loop-place-test.true c.in_ok-next.ensures.next.0
    c.in_ok-next.ensures.next.1 c.from_residual-in_err-accepted.result c.in_err-accepted.field-0.0
    c.from_residual-in_err-accepted.ensures.1
    (rw (c.loop-place.invariant.same, c.deref.ensures.value) at c.in_err-accepted.ensures.answer)

pub returns-in_err-accepted-clause-most : goal.returns-in_err-accepted-clause-most
returns-in_err-accepted-clause-most g c =
    most-next c.loop-place.invariant.decoded c.loop-place-test.true c.in_ok-next.ensures.next.1
    _ _ _ _ (length-map c.next_place.new.above.items (λ (x : Bor _). g.D.Numbered.numbers x.now))
    c.loop-place.invariant.most (rw c.deref.ensures.value at c.judge.ensures.most)

pub returns-then-not-accepted-clause-answer : goal.returns-then-not-accepted-clause-answer
returns-then-not-accepted-clause-answer g c =
    let no : c.in_ok-accepted.accepted ≡ false = search rules in
    AtPlace-rejected c.loop-place.invariant.at c.loop-place-test.true c.in_ok-next.ensures.next.0
    c.in_ok-next.ensures.next.1
    (rw (c.loop-place.invariant.same, c.deref.ensures.value, no) at c.in_ok-accepted.ensures.answer)

pub returns-then-not-accepted-clause-most : goal.returns-then-not-accepted-clause-most
returns-then-not-accepted-clause-most g c =
    most-next c.loop-place.invariant.decoded c.loop-place-test.true c.in_ok-next.ensures.next.1
    _ _ _ _ (length-map c.next_place.new.above.items (λ (x : Bor _). g.D.Numbered.numbers x.now))
    c.loop-place.invariant.most (rw c.deref.ensures.value at c.judge.ensures.most)

pub loop-place-preserved : goal.loop-place-preserved
loop-place-preserved g c =
    let (step, fit) = c.in_ok-next.ensures.next in
    let before = c.loop-place.invariant in
    let below = c.loop-place-test.true in
    let yes : c.in_ok-accepted.accepted ≡ true = search rules in
    let walked = rw (before.same, c.deref.ensures.value) at c.in_ok-accepted.ensures.walked in
    record {
      can = c.in_ok-next.ensures.can;
      at = AtPlace-accepted before.at below step fit
          (rw (before.same, c.deref.ensures.value, yes) at c.in_ok-accepted.ensures.answer);
      decoded = Decoded-next before.decoded below fit;
      table = walked.table;
      counted = Counted-next before.decoded below fit before.counted step walked;
      same = c.judge.ensures.same ∙ before.same;
      rises = RisesBy-more _ _ _ _ _ walked.grows before.rises walked.rises;
      most = most-there before.decoded below fit _ _ _ _ (length-map c.next_place.new.above.items (λ (x : Bor _).
          g.D.Numbered.numbers x.now)) before.most (rw c.deref.ensures.value at c.judge.ensures.most);
    }

pub returns-clause-answer : goal.returns-clause-answer
returns-clause-answer g c = AtPlace-end c.loop-place.invariant.at (omega (arith, c.loop-place-test.false))

pub returns-clause-exact : goal.returns-clause-exact
returns-clause-exact g c = λ yes.
    Counted-all _ _ c.loop-place.invariant.counted (omega (arith, c.loop-place-test.false)) c.loop-place.invariant.rises

pub returns-clause-most : goal.returns-clause-most
returns-clause-most g c = most-all _ _ c.loop-place.place (length c.args.indexes.now) _
    (omega (arith, c.loop-place-test.false)) c.loop-place.invariant.most

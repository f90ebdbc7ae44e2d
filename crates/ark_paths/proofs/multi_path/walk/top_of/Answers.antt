use Rattle.std.proofs.Common.{◌-◌, ◌≡◌, length, map, ◌∙◌, arith, refl, Bor, add-one}
use Rattle.std.proofs.lemmas.List.{length-map}
use Rattle.ark_base.proofs.Refusals.{passed_on}
use Rattle.ark_paths.specs.PathBytes.{way_of}
use Rattle.ark_paths.proofs.Tables.{AllMade-more, Extends-itself, Extends-push}
use Rattle.ark_paths.proofs.TableWalks.{Climbed-lowest, Climbed-upper, Climbed-refused, Climbed-top, lowest-refused, seen-lowest, seen-upper}
use Rattle.ark_paths.proofs.multi_path.walk.top_of.Goals as goal

pub ask_lowest-requires-clause-made : goal.ask_lowest-requires-clause-made
ask_lowest-requires-clause-made g c = rw c.deref.ensures.value (AllMade-more (Extends-push g.L.Numbered.numbers
    c.args.table.now.leaves.items _ c.args.digest c.in_ok-push.ensures.items) (Extends-itself _) c.requires.lowest)

pub loop-below-init : goal.loop-below-init
loop-below-init g c = record {
  climbed = Climbed-lowest c.requires (Extends-push g.L.Numbered.numbers c.args.table.now.leaves.items _ c.args.digest
      c.in_ok-push.ensures.items) refl
      (rw (c.deref.ensures.value, c.place_above-place.ensures) at c.in_ok-own.ensures.served)
      (seen-lowest g.L.Numbered.numbers _ _ _ c.len-own.result _ _ _ c.in_ok-push.ensures.items (omega arith)
      c.is_bit_set.ensures) (rw c.deref.ensures.value at c.in_ok-own.ensures.answer) c.ask_lowest.ensures.most;
  same = c.ask_lowest.ensures.same;
}

pub returns-in_err-own-clause-answer : goal.returns-in_err-own-clause-answer
returns-in_err-own-clause-answer g c =
    passed_on _ _ c.from_residual-in_err-own.result c.in_err-own.field-0.0 c.from_residual-in_err-own.ensures.1
    c.in_err-own.ensures.answer
    (lowest-refused (g.T.PairHasher.pair c.args.hasher.now) (way_of g.L.Numbered.numbers
    (λ (x : Bor _). g.D.Numbered.numbers x.now) (c.args.sibling.now, (c.args.above.now, c.args.index)))
    (g.L.Numbered.numbers c.args.digest) (seen-lowest g.L.Numbered.numbers _ _ _ c.len-own.result _ _ _
    (c.deref.ensures.value ∙ c.in_ok-push.ensures.items) (omega arith) c.is_bit_set.ensures) c.in_err-own.field-0.0)

pub ask_upper-requires-clause-made : goal.ask_upper-requires-clause-made
ask_upper-requires-clause-made g c = rw c.loop-below.invariant.same c.loop-below.invariant.climbed.table.upper

pub loop-below-preserved : goal.loop-below-preserved
loop-below-preserved g c =
    let same = c.loop-below.invariant.same in
    let step = add-one c.loop-below.below in
    record {
      climbed = rw step (Climbed-upper c.loop-below.invariant.climbed (rw length-map c.loop-below-test.true) refl refl
          (rw (same, c.place_above-place-in-loop-below.ensures, step) at c.in_ok-own-2.ensures.served)
          (seen-upper (λ (x : Bor _). g.D.Numbered.numbers x.now) c.args.above.now _ _ _ _ _ _ c.loop-below-test.true
          (omega arith) c.index-above-above.is c.is_bit_set-in-loop-below.ensures)
          (rw same at c.in_ok-own-2.ensures.answer) c.ask_upper.ensures.most);
      same = c.ask_upper.ensures.same ∙ same;
    }

pub returns-in_err-own-2-clause-answer : goal.returns-in_err-own-2-clause-answer
returns-in_err-own-2-clause-answer g c =
    passed_on _ _ c.from_residual-in_err-own-2.result c.in_err-own-2.field-0.0 c.from_residual-in_err-own-2.ensures.1
    (rw c.loop-below.invariant.same at c.in_err-own-2.ensures.answer)
    (Climbed-refused c.in_err-own-2.field-0.0 c.loop-below.invariant.climbed (rw length-map c.loop-below-test.true)
    (seen-upper (λ (x : Bor _). g.D.Numbered.numbers x.now) c.args.above.now _ _ _ _ _ _ c.loop-below-test.true
    (omega arith) c.index-above-above.is c.is_bit_set-in-loop-below.ensures))

pub returns-clause-walked : goal.returns-clause-walked
returns-clause-walked g c = (
  c.loop-below.invariant.climbed.number,
  Climbed-top c.loop-below.invariant.climbed (rw length-map (omega (arith, c.loop-below-test.false))),
)

pub returns-clause-answer : goal.returns-clause-answer
returns-clause-answer g c =
    let view = λ (x : Bor _). g.D.Numbered.numbers x.now in
    let none : length (map view c.args.above.now) - c.loop-below.below ≡ 0 =
    omega (arith, c.loop-below-test.false, length-map c.args.above.now view) in
    rw none at c.loop-below.invariant.climbed.so_far

pub returns-clause-most : goal.returns-clause-most
returns-clause-most g c = omega (arith, c.loop-below-test.false, c.loop-below.invariant.climbed.most)

pub returns-in_err-own-2-clause-most : goal.returns-in_err-own-2-clause-most
returns-in_err-own-2-clause-most g c =
    omega (arith, c.loop-below-test.true, c.loop-below.invariant.climbed.most, c.ask_upper.ensures.most)

pub returns-in_err-own-clause-most : goal.returns-in_err-own-clause-most
returns-in_err-own-clause-most g c = omega (arith, c.ask_lowest.ensures.most)

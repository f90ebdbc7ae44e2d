use Rattle.std.proofs.Common.{◌≡◌, inr, refl, append-nil, suc, ◌+◌, ◌-◌, ◌/◌, ◌≤◌, ◌++◌, [], ◌∷◌, length, map, Ok, sym, ap, ◌∙◌, arith}
use Rattle.std.proofs.lemmas.List.{map-append, nil_from_length, take_all}
use Rattle.ark_groups.specs.Words.{number}
use Rattle.ark_wide_fields.specs.Moduli.{value_of}
use Rattle.ark_sponge.proofs.Permuting.{numbers-below}
use Rattle.ark_wide_fields.specs.Laws.Moduli.{at_least_two}
use Rattle.ark_wide_fields.specs.Laws.Montgomery.{form_below}
use Rattle.circom.specs.Elements.{AreNoForms, form_bytes}
use Rattle.circom.proofs.Reading.{forms_further, length-form_bytes, next_form}
use Rattle.circom.proofs.forms.read_forms.Goals as goal

pub split_at-requires : goal.split_at-requires
split_at-requires g c =
    omega (arith, c.loop.invariant.room (suc (length c.args.bytes.now / 32 - (c.loop.counter + 1))) (omega arith))

pub loop-preserved : goal.loop-preserved
loop-preserved g c =
    let m = g.M.WideModulus in
    let items = c.loop.elements.items in
    let rest = c.loop.rest.now in
    let numbers = map (λ x. value_of m.P m.INVERSE x.form) items in
    record {
      read = λ xs below spelled.
          let so_far = c.loop.invariant.read xs below spelled in
          let room : 32 ≤ length rest = omega (
            arith,
            c.loop.invariant.room (suc (length c.args.bytes.now / 32 - (c.loop.counter + 1))) (omega arith),
          ) in
          let next = next_form (number m.P) c.loop.counter xs rest numbers below room so_far.0 so_far.1 in
          let is = c.in-Ok.ensures.form next.next next.below (c.split_at.ensures.front ∙ next.part) in (
            c.split_at.ensures.back ∙ next.behind,
            ap (map (λ x. value_of m.P m.INVERSE x.form)) c.in_ok-push-in-Ok.ensures.items
                ∙ map-append (λ x. value_of m.P m.INVERSE x.form) items (c.in-Ok.element ∷ [])
                ∙ ap (λ n. numbers ++ n ∷ []) is ∙ next.more,
          );
      front = forms_further (number m.P) c.args.bytes.now rest c.split_at.result.0.now c.split_at.result.1.now numbers _
          (value_of m.P m.INVERSE c.in-Ok.element.form) c.loop.invariant.front c.split_at.ensures.front
          c.split_at.ensures.back c.in-Ok.ensures.found
          (ap (map (λ x. value_of m.P m.INVERSE x.form)) c.in_ok-push-in-Ok.ensures.items
          ∙ map-append (λ x. value_of m.P m.INVERSE x.form) items (c.in-Ok.element ∷ []));
      left = omega (
        arith,
        c.loop.invariant.left,
        c.loop.invariant.whole,
        c.split_at.ensures.back_len,
        c.split_at.ensures.front_len,
      );
      room = λ k e. omega (arith, e, c.loop.invariant.room (suc k) (omega (arith, e)), c.split_at.ensures.back_len);
      whole = c.loop.invariant.whole;
    }

pub returns-in-Err-clause-read : goal.returns-in-Err-clause-read
returns-in-Err-clause-read g c = λ xs below spelled.
    let m = g.M.WideModulus in
    let rest = c.loop.rest.now in
    let so_far = c.loop.invariant.read xs below spelled in
    let room : 32 ≤ length rest = omega (
      arith,
      c.loop.invariant.room (suc (length c.args.bytes.now / 32 - (c.loop.counter + 1))) (omega arith),
    ) in
    let next = next_form (number m.P) c.loop.counter xs rest _ below room so_far.0 so_far.1 in
    absurd (c.in-Err.ensures.form next.next next.below (c.split_at.ensures.front ∙ next.part))

pub returns-clause-read : goal.returns-clause-read
returns-clause-read g c = λ xs below spelled.
    let m = g.M.WideModulus in
    let so_far = c.loop.invariant.read xs below spelled in
    let count = length-form_bytes (number m.P) xs in
    let all : length xs ≤ c.loop.counter = omega (arith, c.loop.invariant.whole, ap length spelled, count) in
    ap Ok (sym (so_far.1 ∙ take_all c.loop.counter xs all))

pub returns-then-bytes-ne0-clause-read : goal.returns-then-bytes-ne0-clause-read
returns-then-bytes-ne0-clause-read g c = λ xs below spelled.
    let count = length-form_bytes (number g.M.WideModulus.P) xs in
    absurd (omega (arith, c.if-bytes-ne0.true, ap length spelled, count))

pub returns-in-Err-clause-refused : goal.returns-in-Err-clause-refused
returns-in-Err-clause-refused g c = λ whole.
    let m = g.M.WideModulus in
    let rest = c.loop.rest.now in
    let none : AreNoForms (number m.P) c.args.bytes.now = λ xs below spelled.
    let so_far = c.loop.invariant.read xs below spelled in
    let room : 32 ≤ length rest = omega (
      arith,
      c.loop.invariant.room (suc (length c.args.bytes.now / 32 - (c.loop.counter + 1))) (omega arith),
    ) in
    let next = next_form (number m.P) c.loop.counter xs rest _ below room so_far.0 so_far.1 in
    c.in-Err.ensures.form next.next next.below (c.split_at.ensures.front ∙ next.part) in
    inr (none, c.in-Err.ensures.refused)

pub returns-clause-found : goal.returns-clause-found
returns-clause-found g c =
    let m = g.M.WideModulus in
    let items = c.loop.elements.items in
    let none : length c.loop.rest.now ≡ 0 = omega (arith, c.loop.invariant.left, c.loop.invariant.whole) in (
      map (λ x. value_of m.P m.INVERSE x.form) items,
      numbers-below (λ x. value_of m.P m.INVERSE x.form) (number m.P) items
          (λ x. form_below (number m.P) m.INVERSE (at_least_two m.laws) m.laws.turned (number x.form)),
      refl,
      c.loop.invariant.front
          ∙ ap (λ t. form_bytes (number m.P) (map (λ x. value_of m.P m.INVERSE x.form) items) ++ t)
          (nil_from_length c.loop.rest.now none)
          ∙ append-nil (form_bytes (number m.P) (map (λ x. value_of m.P m.INVERSE x.form) items)),
    )

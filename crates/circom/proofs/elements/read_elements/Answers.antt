use Rattle.std.proofs.Common.{suc, ◌+◌, ◌-◌, [], ◌∷◌, length, map, take, Ok, sym, ap, ◌∙◌, arith}
use Rattle.std.proofs.lemmas.List.{map-append, take_all, take_more_set}
use Rattle.circom.specs.Elements.{elements_of_bytes}
use Rattle.circom.proofs.Reading.{behind, read_all, read_one, read_refused}
use Rattle.circom.proofs.elements.read_elements.Goals as goal

pub split_at-requires : goal.split_at-requires
split_at-requires g c =
    omega (arith, c.loop-i.invariant.room (suc (length c.args.out.now - (c.loop-i.i + 1))) (omega arith))

pub loop-i-preserved : goal.loop-i-preserved
loop-i-preserved g c =
    let f = g.F.Valued.value in
    let p = g.F.Field.MODULUS in
    let i = c.loop-i.i in
    let out = c.loop-i.out in
    let x = c.in-Ok.element in
    let others = c.split_at.result.1.now in
    let more = ap (map f) (take_more_set out i x (omega arith)) ∙ map-append f (take i out) (x ∷ []) in
    record {
      same = λ k e. read_one p k c.args.order _ (map f (take i out)) c.loop-i.rest.now _ others (f x)
          (c.loop-i.invariant.same (suc k) (omega (arith, e))) c.split_at.ensures.front c.split_at.ensures.back
          c.in-Ok.ensures
          ∙ ap (λ t. behind t (elements_of_bytes p c.args.order k others)) (sym more);
      room = λ k e. omega (arith, e, c.loop-i.invariant.room (suc k) (omega (arith, e)), c.split_at.ensures.back_len);
    }

pub returns : goal.returns
returns g c =
    let f = g.F.Valued.value in
    read_all g.F.Field.MODULUS c.args.order _ _ c.loop-i.rest.now (c.loop-i.invariant.same 0 (omega arith))
    ∙ ap (λ t. Ok (map f t)) (take_all c.loop-i.i c.loop-i.out (omega arith))

pub returns-in-Err : goal.returns-in-Err
returns-in-Err g c =
    let k = length c.args.out.now - (c.loop-i.i + 1) in
    read_refused g.F.Field.MODULUS k c.args.order _ _ c.loop-i.rest.now _ c.in-Err.error
    (c.loop-i.invariant.same (suc k) (omega arith)) c.split_at.ensures.front c.in-Err.ensures

use Rattle.std.proofs.Common.{◌<◌, ◌∷◌, [], ◌++◌, ◌-◌, length, map, take, drop, ap, sym, subst, ◌∙◌, arith}
use Rattle.std.specs.Vec.{vec_len}
use Rattle.std.proofs.lemmas.Bool.{not-false}
use Rattle.ark_sponge.specs.Recurrence.{IsCombination, IsProduct}
use Rattle.ark_sponge.proofs.Loops.{split_slice}
use Rattle.ark_sponge.proofs.Recurrences.{turns_from}
use Rattle.ark_sponge.proofs.poseidon.recurrence.making.turns_alike.Goals as goal

pub returns : goal.returns
returns g c same =
    let f = g.F.Valued.value in
    let p = g.F.Field.MODULUS in
    let mds = c.args.mds.now in
    let output = c.args.output.now in
    let top = c.as_slice-top.result.now in
    let into = map (λ row. map f row.items) c.args.into.now in
    let others = map (λ row. map f row.items) (take (length mds - 1) (drop 1 mds)) in
    let behind = map f (take (length top - 1) (drop 1 top)) in
    let coefficients = map f (take (length output - 1) (drop 1 output)) in
    let row = c.index-mds-0.result in
    let in_mds : 0 < length mds = omega (arith, c.requires.some) in
    let in_top : 0 < length top = omega (
      arith,
      c.as_slice-top.ensures.len,
      ap vec_len c.index-mds-0.is,
      c.requires.mds 0 row in_mds,
      in_mds,
    ) in
    let x = c.index-output-0.result in
    let y = c.index-top-0.result in
    let corner = (g.met.F.Field.equal_if_same x y).0 (not-false _ (sym c.ne.ensures ∙ c.if-ne.false)) in
    let is_first = sym (ap (map f) c.deref-2.ensures.value) ∙ c.is_same.ensures c.if-not-is_same.false in
    let is_next = sym (ap (map (λ row. map f row.items)) c.deref-3.ensures.value) ∙ c.are_same.ensures same
    ∙ ap (map (λ row. map f row.items)) c.deref-4.ensures.value ∙ c.in-Ok-moved_up.ensures
    ∙ ap (λ last. map (λ row. 0 ∷ row) (drop 1 into) ++ (1 ∷ map f last) ∷ []) c.deref.ensures.value in
    turns_from p (map (λ row. map f row.items) mds) into (map f output) (map f c.args.feedback.now) (map f top) others
    (f y) behind coefficients (map f c.in-Ok-combination.last.items)
    (split_slice (λ row. map f row.items) mds row in_mds c.index-mds-0.is
    ∙ ap (λ t. map f t ∷ others) (sym c.as_slice-top.ensures.value))
    (split_slice f top y in_top c.index-top-0.is)
    (split_slice f output x (omega (arith, c.requires.output, in_mds)) c.index-output-0.is
    ∙ ap (λ n. n ∷ coefficients) corner)
    (subst (λ r. IsCombination p coefficients into r) is_first c.in-Ok-combination-2.ensures.value)
    c.in-Ok-combination.ensures.value
    (subst (λ r. IsProduct p into others r) is_next c.in-Ok.ensures)

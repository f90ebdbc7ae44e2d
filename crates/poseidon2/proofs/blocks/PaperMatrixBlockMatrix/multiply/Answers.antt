use Rattle.std.proofs.Common.{◌≡◌, ℕ, ◌+◌, ◌*◌, ◌%◌, ◌∙◌, ap, refl, arith}
use Rattle.poseidon2.proofs.Fours.{sum-Is, double-Is, last-Is}
use Rattle.poseidon2.proofs.blocks.PaperMatrixBlockMatrix.multiply.Goals as goal

pub returns : goal.returns
returns g c =
    let p = g.F.Field.MODULUS in
    let x0 = g.F.Valued.value c.args.x.w0 in
    let x1 = g.F.Valued.value c.args.x.w1 in
    let x2 = g.F.Valued.value c.args.x.w2 in
    let x3 = g.F.Valued.value c.args.x.w3 in
    let t0 = sum-Is p _ x0 x1 x0 x1 c.add-t0.ensures refl refl in
    let t1 = sum-Is p _ x2 x3 x2 x3 c.add-t1.ensures refl refl in
    let twice1 = double-Is p _ x1 x1 c.double-twice1.ensures refl in
    let twice3 = double-Is p _ x3 x3 c.double-twice3.ensures refl in
    let t2 = sum-Is p _ _ _ (x1 + x1) (x2 + x3) c.add-t2.ensures twice1 t1 in
    let t3 = sum-Is p _ _ _ (x3 + x3) (x0 + x1) c.add-t3.ensures twice3 t0 in
    let double1 = double-Is p _ _ (x2 + x3) c.double-double1.ensures t1 in
    let double0 = double-Is p _ _ (x0 + x1) c.double-double0.ensures t0 in
    let n1 = x2 + x3 + (x2 + x3) in
    let n0 = x0 + x1 + (x0 + x1) in
    let four1 = double-Is p _ _ n1 c.double-four1.ensures double1 in
    let four0 = double-Is p _ _ n0 c.double-four0.ensures double0 in
    let n3 = n1 + n1 + (x3 + x3 + (x0 + x1)) in
    let n2 = n0 + n0 + (x1 + x1 + (x2 + x3)) in
    let w3 = sum-Is p _ _ _ (n1 + n1) (x3 + x3 + (x0 + x1)) c.add-w3.ensures four1 t3 in
    let w1 = sum-Is p _ _ _ (n0 + n0) (x1 + x1 + (x2 + x3)) c.add-w1.ensures four0 t2 in
    let row0 : x3 + x3 + (x0 + x1) + n2 ≡ 5 * x0 + (7 * x1 + (1 * x2 + (3 * x3 + 0))) = omega arith in
    let row1 : n2 ≡ 4 * x0 + (6 * x1 + (1 * x2 + (1 * x3 + 0))) = omega arith in
    let row2 : x1 + x1 + (x2 + x3) + n3 ≡ 1 * x0 + (3 * x1 + (5 * x2 + (7 * x3 + 0))) = omega arith in
    let row3 : n3 ≡ 1 * x0 + (1 * x1 + (4 * x2 + (6 * x3 + 0))) = omega arith in
    let reduced = λ (n : ℕ). n % p in
    record {
      w0 = last-Is p _ _ _ (x3 + x3 + (x0 + x1)) n2 c.add-w0.ensures t3 w1 ∙ ap reduced row0;
      w1 = last-Is p _ _ _ (n0 + n0) (x1 + x1 + (x2 + x3)) c.add-w1.ensures four0 t2 ∙ ap reduced row1;
      w2 = last-Is p _ _ _ (x1 + x1 + (x2 + x3)) n3 c.add-w2.ensures t2 w3 ∙ ap reduced row2;
      w3 = last-Is p _ _ _ (n1 + n1) (x3 + x3 + (x0 + x1)) c.add-w3.ensures four1 t3 ∙ ap reduced row3;
    }

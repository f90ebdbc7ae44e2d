use Rattle.std.proofs.Common.{◌≡◌, ℕ, ◌+◌, ◌*◌, ◌%◌, ◌∙◌, ap, refl, arith}
use Rattle.poseidon2.proofs.Fours.{sum-Is, double-Is, last-Is}
use Rattle.poseidon2.proofs.blocks.CirculantMatrixBlockMatrix.multiply.Goals as goal

pub returns : goal.returns
returns g c =
    let p = g.F.Field.MODULUS in
    let x0 = g.F.Valued.value c.args.x.w0 in
    let x1 = g.F.Valued.value c.args.x.w1 in
    let x2 = g.F.Valued.value c.args.x.w2 in
    let x3 = g.F.Valued.value c.args.x.w3 in
    let front = sum-Is p _ x0 x1 x0 x1 c.add-front.ensures refl refl in
    let back = sum-Is p _ x2 x3 x2 x3 c.add-back.ensures refl refl in
    let n = x0 + x1 + (x2 + x3) in
    let all = sum-Is p _ _ _ (x0 + x1) (x2 + x3) c.add-all.ensures front back in
    let all1 = sum-Is p _ _ x1 n x1 c.add-all1.ensures all refl in
    let all3 = sum-Is p _ _ x3 n x3 c.add-all3.ensures all refl in
    let twice0 = double-Is p _ x0 x0 c.double-twice0.ensures refl in
    let twice2 = double-Is p _ x2 x2 c.double-twice2.ensures refl in
    let row0 : n + x1 + (x0 + x1) ≡ 2 * x0 + (3 * x1 + (1 * x2 + (1 * x3 + 0))) = omega arith in
    let row1 : n + x1 + (x2 + x2) ≡ 1 * x0 + (2 * x1 + (3 * x2 + (1 * x3 + 0))) = omega arith in
    let row2 : n + x3 + (x2 + x3) ≡ 1 * x0 + (1 * x1 + (2 * x2 + (3 * x3 + 0))) = omega arith in
    let row3 : n + x3 + (x0 + x0) ≡ 3 * x0 + (1 * x1 + (1 * x2 + (2 * x3 + 0))) = omega arith in
    let reduced = λ (n : ℕ). n % p in
    record {
      w0 = last-Is p _ _ _ (n + x1) (x0 + x1) c.add-w0.ensures all1 front ∙ ap reduced row0;
      w1 = last-Is p _ _ _ (n + x1) (x2 + x2) c.add-w1.ensures all1 twice2 ∙ ap reduced row1;
      w2 = last-Is p _ _ _ (n + x3) (x2 + x3) c.add-w2.ensures all3 back ∙ ap reduced row2;
      w3 = last-Is p _ _ _ (n + x3) (x0 + x0) c.add-w3.ensures all3 twice0 ∙ ap reduced row3;
    }

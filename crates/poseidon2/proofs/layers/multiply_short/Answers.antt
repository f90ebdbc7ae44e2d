use Rattle.std.proofs.Common.{ℕ, get_or, map, refl, arith}
use Rattle.ark_sponge.proofs.Rows.{read}
use Rattle.poseidon2.proofs.Short.{short_images, short-layer}
use Rattle.poseidon2.proofs.layers.multiply_short.Goals as goal

pub returns : goal.returns
returns g c =
    let f = g.F.Valued.value in
    let s = c.args.state.now in
    let x = read f s 0 _ (omega (arith, c.requires)) c.index-state-0.is in
    let y = read f s 1 _ (omega (arith, c.requires)) c.index-state-1.is in
    let z = read f s 2 _ (omega (arith, c.requires)) c.index-state-2.is in
    let p = g.F.Field.MODULUS in
    let at = λ (i : ℕ). get_or (map f s) i 0 in
    short-layer f p s c.add-first.result c.add-second.result c.add-third.result c.requires
    (rw (
      c.add-first.ensures,
      c.add-second.ensures,
      c.add-third.ensures,
      c.add-all.ensures,
      c.add-both.ensures,
      c.double-twice.ensures,
      x,
      y,
      z,
    ) (refl {a = short_images p (at 0) (at 1) (at 2)}))

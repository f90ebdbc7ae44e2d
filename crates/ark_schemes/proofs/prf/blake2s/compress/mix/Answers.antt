use Rattle.std.proofs.Common.{ℕ, ◌+◌, ◌%◌, ◌^◌, refl}
use Rattle.ark_schemes.specs.Blake2s.{mixture, rotation}
use Rattle.ark_schemes.proofs.Mixing.{wrapped_twice}
use Rattle.ark_schemes.proofs.prf.blake2s.compress.mix.Goals as goal

pub returns : goal.returns
unfolding mixture
returns c =
    let a1 : ℕ = (c.args.a + c.args.b + c.args.x) % 2 ^ 32 in
    let c1 : ℕ = (c.args.c + rotation 16 c.args.d a1) % 2 ^ 32 in
    rw (
      c.rotate_right-b-2.ensures,
      c.rotate_right-d-2.ensures,
      c.rotate_right-b.ensures,
      c.rotate_right-d.ensures,
      wrapped_twice c.args.a c.args.b c.args.x,
      wrapped_twice a1 (rotation 12 c.args.b c1) c.args.y,
    )
    refl

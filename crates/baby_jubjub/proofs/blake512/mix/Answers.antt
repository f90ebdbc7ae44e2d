use Rattle.std.proofs.Common.{ℕ, ◌+◌, ◌%◌, ◌^◌, refl}
use Rattle.baby_jubjub.specs.Blake512.{blake_mixture, word_turned}
use Rattle.baby_jubjub.proofs.Mixing.{wrapped_twice}
use Rattle.baby_jubjub.proofs.blake512.mix.Goals as goal

pub returns : goal.returns
unfolding blake_mixture
returns c =
    let a1 : ℕ = (c.args.a + c.args.b + c.args.x) % 2 ^ 64 in
    let c1 : ℕ = (c.args.c + word_turned 32 c.args.d a1) % 2 ^ 64 in
    rw (
      c.rotate_right-b-2.ensures,
      c.rotate_right-d-2.ensures,
      c.rotate_right-b.ensures,
      c.rotate_right-d.ensures,
      wrapped_twice c.args.a c.args.b c.args.x,
      wrapped_twice a1 (word_turned 25 c.args.b c1) c.args.y,
    )
    refl

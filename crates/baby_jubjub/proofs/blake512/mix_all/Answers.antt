use Rattle.std.proofs.Common.{rules, ◌≡◌, ◌∙◌, List, ℕ, length, ap, refl}
use Rattle.baby_jubjub.specs.Blake512.{blake_round}
use Rattle.baby_jubjub.proofs.Mixing.{vector_words}
use Rattle.baby_jubjub.proofs.blake512.mix_all.Goals as goal

pub returns : goal.returns
unfolding blake_round
returns c =
    let size : length c.args.v ≡ 16 = search rules in
    rw (
      c.mix-8.ensures,
      c.mix-7.ensures,
      c.mix-6.ensures,
      c.mix-5.ensures,
      c.mix-4.ensures,
      c.mix-3.ensures,
      c.mix-2.ensures,
      c.mix.ensures,
    ) refl
    ∙ ap (λ (v : List ℕ). blake_round v c.args.s) (vector_words c.args.v size)

use Rattle.std.proofs.Common.{ℕ, ◌+◌, ◌*◌, ◌/◌, ◌%◌, ◌^◌, List, take, length, ◌∙◌, ap, arith}
use Rattle.std.proofs.lemmas.List.{length-take}
use Rattle.ark_base.specs.Digits.{number_of_bytes}
use Rattle.ed25519.proofs.signing.expanded.Goals as goal

pub words_of-requires : goal.words_of-requires
words_of-requires c =
    omega (arith, ap (λ (s : List ℕ). length s) c.split_at.ensures.front, length-take 32 c.as_slice.result.now)

pub returns-clause-scalar : goal.returns-clause-scalar
returns-clause-scalar c =
    c.clamped.ensures ∙ ap (λ n. 2 ^ 254 + 8 * (n / 8 % 2 ^ 251)) (c.words_of.ensures
    ∙ ap number_of_bytes (c.split_at.ensures.front
    ∙ ap (take 32) (c.as_slice.ensures ∙ c.seed_hash-digest.ensures)))

pub returns-clause-below : goal.returns-clause-below
returns-clause-below c = omega (arith, c.clamped.ensures)

use Rattle.std.proofs.Common.{◌≡◌, ℕ, ◌-◌, List, Option}
use Rattle.ark_base.specs.Outcome.{Outcome}
use Rattle.ark_groups.specs.Group.{times}
use Rattle.ark_signatures.specs.Schnorr.{challenge_text, challenge_of, first_nonce}
use Rattle.ark_signatures.proofs.signature.schnorr.challenge.draw_nonce.Given.{Over}
use Rattle.ark_signatures.proofs.signature.schnorr.challenge.draw_nonce.Given as goal

-- the challenge of a point
abbrev pub challenge_at : (g : Over) → List ℕ → List ℕ → g.row.C.Denot → Outcome (Option ℕ)
challenge_at g salt message point =
    let field = g.C.ScalarField.Field in
    challenge_of field.MODULUS field.MODULUS_BIT_SIZE
    (g.D.ByteDigest.meaning (challenge_text salt (g.C.Canonical.spelling (g.C.Canonical.view point)) message))

-- that of a multiple of the generator
abbrev pub challenge_times : (g : Over) → List ℕ → List ℕ → g.row.C.Denot → ℕ → Outcome (Option ℕ)
challenge_times g salt message generator k = challenge_at g salt message (times g.C.AdditiveGroup.group k generator)

-- what is found from here on is what is found from the start
abbrev pub invariant-loop : goal.invariant-loop
invariant-loop g l =
    let field = g.C.ScalarField in
    let found = first_nonce field.UniformRand.draw field.Valued.value
    (challenge_times g (g.P.GeneratorMultiples.salt l.pp) l.message
    (g.P.GeneratorMultiples.generator l.pp)) in
    found (128 - l.counter) (g.R.Rng.stream l.rng) ≡ found 128 (g.R.Rng.stream l.initial.rng)

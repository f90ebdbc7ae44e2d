use Rattle.std.proofs.Common.{inl, inr, refl}
use Rattle.ark_poseidon_parameters.specs.Ready.{AreReady, bls12_381_fr_alpha, bls12_381_fr_rounds, bn254_fr_rounds}
use Rattle.paxidore_calls.proofs.Written.{ready-spelled}
use Rattle.paxidore_calls.specs.Transcript.{SpellReady}
use Rattle.paxidore_c.proofs.transcript.ready_over.Goals as goal

pub returns-in_ok-bls12_381_fr-in-3-clause-ready : goal.returns-in_ok-bls12_381_fr-in-3-clause-ready
returns-in_ok-bls12_381_fr-in-3-clause-ready c =
    let rate = c.args.rate in
    ready-spelled (λ bytes. bytes.items) 255 (AreReady rate (bls12_381_fr_rounds rate) (bls12_381_fr_alpha rate))
    (SpellReady c.args.field rate) c.in_ok-bls12_381_fr-in-3.field-0 c.spelled.result c.spelled.ensures.spelled
    c.spelled.ensures.found c.in_ok-bls12_381_fr-in-3.ensures.ready
    (λ parameters ready bytes is. (parameters, inl (c.in-3.is, ready), rw (c.in-3.is, is) refl))

pub returns-in_ok-bn254_fr-in-4-clause-ready : goal.returns-in_ok-bn254_fr-in-4-clause-ready
returns-in_ok-bn254_fr-in-4-clause-ready c =
    let rate = c.args.rate in
    ready-spelled (λ bytes. bytes.items) 254 (AreReady rate (bn254_fr_rounds rate) 5) (SpellReady c.args.field rate)
    c.in_ok-bn254_fr-in-4.field-0 c.spelled-in-4.result c.spelled-in-4.ensures.spelled c.spelled-in-4.ensures.found
    c.in_ok-bn254_fr-in-4.ensures.ready
    (λ parameters ready bytes is. (parameters, inr (c.in-4.is, ready), rw (c.in-4.is, is) refl))

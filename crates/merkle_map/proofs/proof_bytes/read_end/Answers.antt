use Rattle.std.proofs.Common.{◌∙◌, rules}
use Rattle.merkle_map.specs.KeyProof.{AtOther}
use Rattle.merkle_map.proofs.ProofReading.{other-ended}
use Rattle.merkle_map.proofs.Reading.{strings-read, strings-within}
use Rattle.merkle_map.proofs.proof_bytes.read_end.Goals as goal

pub returns-in_ok-value-in-2-clause-within : goal.returns-in_ok-value-in-2-clause-within
returns-in_ok-value-in-2-clause-within c =
    strings-within _ _ _ c.from_index-rest.ensures c.from_index.ensures c.in_ok-key-in-2.ensures.enough
    c.in_ok-value-in-2.ensures.enough

pub returns-in_ok-value-in-2-clause-answer : goal.returns-in_ok-value-in-2-clause-answer
returns-in_ok-value-in-2-clause-answer c =
    other-ended c.args.bytes.now _ (search rules) c.in-2.is c.from_index-rest.ensures
    ∙ strings-read c.args.bytes.now _ _ c.from_index-rest.ensures c.from_index.ensures
    (λ key value. AtOther (record { key = key; value = value })) c.in_ok-key-in-2.key c.in_ok-value-in-2.value
    c.in_ok-key-in-2.ensures.answer c.in_ok-value-in-2.ensures.answer

use Rattle.std.proofs.Common.{Err, inl, inr, ap, sym, ◌∙◌}
use Rattle.paxidore_c.specs.Poseidon.{hashing_refused, refused_inputs}
use Rattle.paxidore_c.proofs.poseidon.hash_in.Goals as goal

pub returns-in-Err : goal.returns-in-Err
returns-in-Err c = λ count parameters spells.
    inl (c.refused_inputs.ensures ∙ ap refused_inputs (c.in-Err.ensures.spelled count parameters spells))

pub returns-in-Ok-hash : goal.returns-in-Ok-hash
returns-in-Ok-hash c = λ count parameters spells.
    ap hashing_refused (c.in-Ok-hash.ensures parameters (c.in-Ok.ensures.spelled count parameters spells).1)

pub returns : goal.returns
returns c = λ count parameters spells.
    inr (ap hashing_refused (c.in-Err-hash.ensures parameters (c.in-Ok.ensures.spelled count parameters spells).1)
    ∙ ap Err (sym c.refused_inputs-in-Err-hash.ensures))

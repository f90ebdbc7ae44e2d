use Rattle.std.proofs.Common.{[], ap, ◌∙◌}
use Rattle.ark_base.specs.Outcome.{◌>>=◌}
use Rattle.circom.specs.Nodes.{refusal_error}
use Rattle.paxidore_calls.specs.Answer.{refusing}
use Rattle.paxidore_c.specs.PoseidonLog.{elements_given, root_of_elements}
use Rattle.paxidore_c.proofs.TwoInputs.{library-refused, refused-first, refused-next, table-refused, two-given, two-refused}
use Rattle.paxidore_c.proofs.poseidon_log.root_of.Goals as goal

pub returns-in-Err-clause-given : goal.returns-in-Err-clause-given
returns-in-Err-clause-given c = λ inputs parameters spells.
    table-refused inputs _ c.in-Err.refused (c.in-Err.ensures.read inputs parameters spells)

pub returns-in-Err-are_given-clause-given : goal.returns-in-Err-are_given-clause-given
returns-in-Err-are_given-clause-given c = λ inputs parameters spells.
    let table = c.in-Ok.ensures.read inputs parameters spells in
    two-refused inputs _ c.in-Err-are_given.refused table.0 (refused-first (elements_given c.args.elements.now)
    (root_of_elements parameters) c.in-Err-are_given.refused c.in-Err-are_given.ensures.given)

pub returns-in-Ok-root_of_elements-clause-given : goal.returns-in-Ok-root_of_elements-clause-given
returns-in-Ok-root_of_elements-clause-given c = λ inputs parameters spells.
    let table = c.in-Ok.ensures.read inputs parameters spells in
    two-given inputs _ _ table.0 (ap (λ r. r >>= root_of_elements parameters) c.in-Ok-are_given.ensures.given
    ∙ ap refusing (c.in-Ok-root_of_elements.ensures.root parameters table.1 c.in-Ok-are_given.ensures.all []))

pub returns-in-Ok-root_of_elements-clause-root : goal.returns-in-Ok-root_of_elements-clause-root
returns-in-Ok-root_of_elements-clause-root c = λ inputs parameters spells.
    let table = c.in-Ok.ensures.read inputs parameters spells in
    c.in-Ok-root_of_elements.ensures.root parameters table.1 c.in-Ok-are_given.ensures.all []

pub returns-clause-given : goal.returns-clause-given
returns-clause-given c = λ inputs parameters spells.
    let table = c.in-Ok.ensures.read inputs parameters spells in
    two-refused inputs _ c.from.result table.0 (refused-next (elements_given c.args.elements.now)
    (root_of_elements parameters) c.args.elements.now c.from.result c.in-Ok-are_given.ensures.given
    (library-refused _ (refusal_error c.in-Err-root_of_elements.refusal) c.from.result
    (c.in-Err-root_of_elements.ensures.root parameters table.1 c.in-Ok-are_given.ensures.all []) c.from.ensures))

use Rattle.std.proofs.Common.{sym, ◌∙◌, subst}
use Rattle.paxidore_calls.specs.Forms.{HasForm}
use Rattle.paxidore_calls.proofs.Prepared.{read-again}
use Rattle.paxidore_calls.proofs.transcript.parameters.prepared_bytes.Goals as goal

pub returns-clause-same : goal.returns-clause-same
returns-clause-same g c =
    let f = g.F.Field in
    let e = g.E.ElementForm in
    let laws = subst (λ p. HasForm p e.form) g.met.E.ElementForm.same_modulus e.laws in
    let ok = c.in_ok-parameters in
    read-again f.MODULUS f.MODULUS_BIT_SIZE e.form ok.parameters c.in_ok-formed_bytes.field-0.items laws
    ok.ensures.below ok.ensures.lawful c.in_ok-formed_bytes.ensures.spelled ∙ sym ok.ensures.given

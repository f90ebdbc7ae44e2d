use Rattle.std.proofs.Common.{◌∙◌, Ok, ap, sym}
use Rattle.acp_run.proofs.session.proofs.proof_bytes.Goals as goal

pub returns : goal.returns
returns g c = ap Ok (sym (g.met.T.Proof.bytes_are c.args.proof.now) ∙ sym (rw c.in_ok-bytes.ensures.items at
    c.in_ok-serialize.ensures.appended))

use Rattle.std.proofs.lemmas.Result.{IfOk-weaker}
use Rattle.acp_run.proofs.ToyLemmas.{toy_bytes-two}
use Rattle.acp_run.proofs.session.toy.ToyShell.show_root.Goals as goal

pub returns : goal.returns
returns c = IfOk-weaker c.push_hex.result _ _ (λ done is p q. rw (toy_bytes-two c.args.root.now.value) is)
    (rw (c.value-value.ensures) at c.push_hex.ensures)

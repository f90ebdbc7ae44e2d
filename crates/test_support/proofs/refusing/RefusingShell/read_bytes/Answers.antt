use Rattle.std.proofs.lemmas.Result.{IfOk-weaker}
use Rattle.test_support.proofs.refusing.RefusingShell.read_bytes.Goals as goal

pub returns : goal.returns
returns c = IfOk-weaker c.read_bytes.result _ _ (λ x is p q. is tt tt) c.read_bytes.ensures

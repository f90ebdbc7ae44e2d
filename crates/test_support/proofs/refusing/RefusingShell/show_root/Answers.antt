use Rattle.std.proofs.lemmas.Result.{IfOk-weaker}
use Rattle.test_support.proofs.refusing.RefusingShell.show_root.Goals as goal

pub returns : goal.returns
returns c = IfOk-weaker c.show_root.result _ _ (λ done is p q. is tt tt) c.show_root.ensures

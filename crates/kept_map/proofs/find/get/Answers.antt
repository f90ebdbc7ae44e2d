use Rattle.std.proofs.lemmas.Result.{IfOk-weaker, on_err_weaker}
use Rattle.kept_map.proofs.Finding.{found-in}
use Rattle.kept_map.proofs.find.get.Goals as goal

pub returns-clause-found : goal.returns-clause-found
returns-clause-found c = λ h xs keeps.
    found-in h c.args.entries.now c.args.forks.now c.args.head.now xs keeps c.args.key.now c.find_in.result
    (IfOk-weaker c.find_in.result _ _ (λ found below. below h keeps.tree) c.find_in.ensures.found)
    (on_err_weaker c.find_in.result (λ none. none h keeps.tree) c.find_in.ensures.sound)

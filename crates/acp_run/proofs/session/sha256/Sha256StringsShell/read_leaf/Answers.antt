use Rattle.std.proofs.Common.{◌∙◌, Ok, ap}
use Rattle.std.specs.Option.{option_map}
use Rattle.std.proofs.lemmas.Result.{IfOk-weaker}
use Rattle.sha2.specs.Sha256.{sha256}
use Rattle.acp_run.proofs.Values.{option_map-seen}
use Rattle.acp_run.proofs.session.sha256.Sha256StringsShell.read_leaf.Goals as goal

pub returns : goal.returns
returns c = IfOk-weaker c.read_bytes.result _ _ (λ leaf is p q. option_map-seen (λ bytes. bytes.items)
    (λ bytes. Ok (sha256 bytes)) leaf ∙ ap (option_map (λ bytes. Ok (sha256 bytes))) (is p q)) c.read_bytes.ensures

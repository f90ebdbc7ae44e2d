use Rattle.std.proofs.Common.{◌∙◌}
use Rattle.signed_notes.proofs.Cosigning.{decides-cosignature}
use Rattle.signed_notes.proofs.cosignature.is_cosignature.Goals as goal

pub returns-clause-decided : goal.returns-clause-decided
returns-clause-decided c =
    decides-cosignature c.args.key.now c.args.text.now c.args.bytes.now c.as_bytes.result.now _ _ c.time_in.result
    c.verify.result c.if-bytes-ne72.false c.split_at.ensures.front c.split_at.ensures.back c.time_in.ensures
    (c.as_bytes.ensures.value ∙ c.in_ok-message.ensures.text) c.verify.ensures

use Rattle.std.proofs.Common.{◌+◌, ◌-◌, ◌*◌, drop, ◌∙◌, arith}
use Rattle.std.proofs.lemmas.List.{length-drop}
use Rattle.log_file.proofs.Chunks.{chunks-part}
use Rattle.log_file.proofs.file.stored_in.Goals as goal

pub returns-clause-digests : goal.returns-clause-digests
returns-clause-digests c = c.as_chunks.ensures.front ∙ chunks-part c.args.count (96 + 32 * c.args.count - 96)
    (drop 96 c.args.bytes.now) (omega arith) (omega (arith, c.requires, length-drop 96 c.args.bytes.now))

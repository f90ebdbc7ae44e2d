use Rattle.std.proofs.Common.{◌*◌, refl, ◌∙◌}
use Rattle.log_file.proofs.Chunks.{chunks-part}
use Rattle.paxidore_calls.proofs.file_calls.checked.digests_from.Goals as goal

pub returns-clause-digests : goal.returns-clause-digests
returns-clause-digests c = c.as_chunks.ensures.front
    ∙ chunks-part c.args.count (32 * c.args.count) c.args.bytes.now refl c.requires

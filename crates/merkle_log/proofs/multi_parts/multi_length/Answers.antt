use Rattle.std.proofs.Common.{◌∙◌}
use Rattle.merkle_log.proofs.MultiCounts.{around-levels}
use Rattle.merkle_log.proofs.multi_parts.multi_length.Goals as goal

pub returns : goal.returns
returns c =
    c.count_around.ensures.count ∙ around-levels c.args.size c.levels_above.result c.args.indexes.now
    c.levels_above.ensures.covers

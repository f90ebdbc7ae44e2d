use Rattle.std.proofs.Common.{sym, ◌∙◌}
use Rattle.std.proofs.lemmas.List.{length-map}
use Rattle.merkle_log.proofs.Bytes.{length-digests}
use Rattle.merkle_log.proofs.frontier.read_counted_peaks.Goals as goal

pub returns-clause-count : goal.returns-clause-count
returns-clause-count g c =
    sym (length-map c.in_ok-peaks.peaks.items g.D.Numbered.numbers) ∙ length-digests _ _ _ _ _ c.in_ok-peaks.ensures

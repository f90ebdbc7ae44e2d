use Rattle.std.proofs.Common.{◌≡◌, length, ◌∙◌, arith}
use Rattle.std.proofs.lemmas.List.{length-map}
use Rattle.std.proofs.lemmas.Bool.Decides.{nat_tests}
use Rattle.ark_paths.specs.Rows.{digests_of}
use Rattle.merkle_log.proofs.Merging.{empty-root}
use Rattle.merkle_log.proofs.frontier.Frontier.root.Goals as goal

pub returns-then-is_empty : goal.returns-then-is_empty
returns-then-is_empty g c =
    let numbers = g.D.Numbered.numbers in
    let hash = (g.T.TreeHasher.hashes c.self.inside.hasher).pair.upper in
    let peaks = c.self.inside.peaks in
    let long : length (digests_of numbers peaks) ≡ length peaks.items = length-map peaks.items numbers in
    let none : length peaks.items ≡ 0 = grind (arith, nat_tests, c.is_empty.ensures, c.if-is_empty.true, peaks.ok.0) in
    rw (← c.self.view_is) (λ digests own. rw (empty-root hash (numbers c.self.inside.empty) digests c.self.inside.size
    (digests_of numbers peaks) own (long ∙ c.self.invariant) (long ∙ none)) c.copy_of.ensures)

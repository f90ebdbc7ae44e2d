use Rattle.std.proofs.Common.{◌∙◌, map, Ok, ap}
use Rattle.ark_paths.specs.Rows.{digests_of}
use Rattle.merkle_log.proofs.Answered.{answered-each}
use Rattle.merkle_log.proofs.InsertionBound.{insertion-bound}
use Rattle.merkle_log.proofs.insertion.root_after_insertion_bytes.Goals as goal

pub returns-clause-bound : goal.returns-clause-bound
returns-clause-bound g c =
    let numbers = g.D.Numbered.numbers in
    let hash = (g.T.TreeHasher.hashes c.args.hasher.now).pair.upper in
    let digests = digests_of numbers c.in_ok-proof.proof in
    answered-each _ _ c.root_after_insertion.result _ (λ new is root some. (
      digests,
      c.in_ok-proof.ensures,
      insertion-bound hash (numbers c.args.old_root.now) c.args.size digests
          (map numbers c.args.more.now) root (is ∙ ap Ok some),
    ))
    (rw (c.deref.ensures.value) at c.root_after_insertion.ensures.answer)

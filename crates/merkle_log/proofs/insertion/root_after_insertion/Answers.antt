use Rattle.std.proofs.Common.{◌∙◌, map, Ok, ap, subst}
use Rattle.std.proofs.lemmas.List.{length-map}
use Rattle.std.specs.Option.{option_map}
use Rattle.std.specs.Prelude.{Option}
use Rattle.ark_base.specs.Outcome.{AnswersBy, Outcome}
use Rattle.ark_paths.specs.Pair.{Digest}
use Rattle.merkle_log.proofs.Givens.{given-each}
use Rattle.merkle_log.proofs.InsertionBound.{insertion-bound, insertion-own}
use Rattle.merkle_log.proofs.insertion.root_after_insertion.Goals as goal

pub returns-clause-bound : goal.returns-clause-bound
returns-clause-bound g c =
    let numbers = g.D.Numbered.numbers in
    let hash = (g.T.TreeHasher.hashes c.args.hasher.now).pair.upper in
    given-each _ _ _ c.inserted_root.result _ (rw (c.new.ensures.hasher) at c.inserted_root.ensures)
    (λ new is root some. insertion-bound hash (numbers c.args.old_root.now) c.args.size (map numbers c.args.proof.now)
    (map numbers c.args.more.now) root (is ∙ ap Ok some))

pub returns-clause-own : goal.returns-clause-own
returns-clause-own g c = λ empty digests own.
    let numbers = g.D.Numbered.numbers in
    let hash = (g.T.TreeHasher.hashes c.args.hasher.now).pair.upper in
    let more = map numbers c.args.more.now in
    let P : Outcome (Option Digest) → Type 0 = λ o. AnswersBy (option_map numbers) o c.inserted_root.result in
    subst P (insertion-own hash (numbers c.args.old_root.now) c.args.size (map numbers c.args.proof.now) more empty
    digests (record {
      frontier = own.frontier;
      root_is = own.root_is;
      fits = rw (length-map) own.fits;
    })) (rw (c.new.ensures.hasher) at c.inserted_root.ensures)

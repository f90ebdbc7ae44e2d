use Rattle.std.proofs.Common.{◌≡◌, ◌+◌, ◌*◌, [], get_or, Ok, ap, sym, ◌∙◌, arith}
use Rattle.ark_trees.specs.Rfc6962.{node_hash, node_of}
use Rattle.merkle_log.specs.Stored.{row_at}
use Rattle.merkle_log.proofs.KeptRows.{length-up}
use Rattle.merkle_log.proofs.Hashed.{hashed-more, hashed-all, hashed-not, same-says, other-says}
use Rattle.merkle_log.proofs.kept.check.is_hashed.Goals as goal

pub overflow_mul-place : goal.overflow_mul-place
overflow_mul-place c = omega (arith, c.requires.fits, c.places-test.true)

pub at-requires : goal.at-requires
at-requires c = omega (arith, c.requires.count, c.places-test.true, length-up c.args.kept.now c.args.level)

pub overflow_mul-place-in-places : goal.overflow_mul-place-in-places
overflow_mul-place-in-places c = omega (arith, c.requires.fits, c.places-test.true)

pub overflow_add-place : goal.overflow_add-place
overflow_add-place c = omega (arith, c.requires.fits, c.places-test.true)

pub at-requires-in-places : goal.at-requires-in-places
at-requires-in-places c = omega (arith, c.requires.count, c.places-test.true, length-up c.args.kept.now c.args.level)

pub overflow_add-level : goal.overflow_add-level
overflow_add-level c = omega (arith, c.requires.fits, c.places-test.true)

pub places-preserved : goal.places-preserved
places-preserved c =
    let row = row_at c.args.kept.now c.args.level in
    let same = same-says c.node-own.result c.at-in-places-2.result.now c.ne.result c.ne.ensures c.if-ne.false in
    hashed-more node_of row (row_at c.args.kept.now (c.args.level + 1)) c.places.place c.places.invariant
    (ap (λ d. Ok (node_hash d (get_or row (2 * c.places.place + 1) []))) (sym c.at.ensures)
    ∙ ap (λ d. Ok (node_hash c.at.result.now d)) (sym c.at-in-places.ensures)
    ∙ ap Ok (sym c.node-own.ensures ∙ same ∙ c.at-in-places-2.ensures))

pub returns-clause-hashed : goal.returns-clause-hashed
returns-clause-hashed c = λ yes.
    let all : c.places.place ≡ c.args.count = omega (arith, c.places-test.false, c.places.auto.place-end) in
    hashed-all node_of (row_at c.args.kept.now c.args.level) (row_at c.args.kept.now (c.args.level + 1))
    (length-up c.args.kept.now c.args.level) (rw (← c.requires.count, ← all) c.places.invariant)

pub returns-then-ne-clause-damaged : goal.returns-then-ne-clause-damaged
returns-then-ne-clause-damaged c = λ no.
    hashed-not (row_at c.args.kept.now c.args.level) (row_at c.args.kept.now (c.args.level + 1)) c.places.place
    (length-up c.args.kept.now c.args.level)
    (omega (arith, c.requires.count, c.places-test.true)) (λ same. other-says c.node-own.result
    c.at-in-places-2.result.now c.ne.result c.ne.ensures c.if-ne.true
    (c.node-own.ensures ∙ ap (λ d. node_hash d c.at-in-places.result.now) c.at.ensures
    ∙ ap (node_hash (get_or (row_at c.args.kept.now c.args.level) (2 * c.places.place) [])) c.at-in-places.ensures
    ∙ same
    ∙ sym c.at-in-places-2.ensures))

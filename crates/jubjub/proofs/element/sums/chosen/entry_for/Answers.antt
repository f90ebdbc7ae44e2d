use Rattle.std.proofs.Common.{◌+◌, ◌∙◌, ap, arith, get_or, slice_index}
use Rattle.ark_wide_fields.specs.Choices.{mask_for}
use Rattle.edwards.proofs.Couples.{entry_next}
use Rattle.jubjub.specs.Elements.{jubjub}
use Rattle.jubjub.specs.Tables.{element_words}
use Rattle.jubjub.proofs.TableDigits.{entry_read, entry_found, same_number}
use Rattle.jubjub.proofs.element.sums.chosen.entry_for.Goals as goal

pub entries-preserved : goal.entries-preserved
entries-preserved c =
    let xs = c.args.multiples.now in
    let first = c.args.first in
    let j = c.entries.j in
    let within = c.entries-test.true in
    let made = c.entry_under-found in
    entry_next (slice_index c.masks_of-masks.result j) j c.args.size
    (λ j. element_words (get_or xs (first + j) jubjub.identity)) c.entries.found made.result
    (c.masks_of-masks.ensures j within ∙ ap mask_for (same_number j c.args.size within c.requires.size))
    made.ensures.whole
    (λ full none. made.ensures.first full none ∙ c.words_in.ensures
    ∙ ap element_words (entry_read xs first j c.index-multiples-first.result c.requires.inside within
    c.index-multiples-first.is))
    made.ensures.second c.entries.invariant

pub returns-clause-some : goal.returns-clause-some
returns-clause-some c some =
    c.found_entry.ensures ∙ c.entries.invariant.some some (omega (arith, c.requires.size, c.entries-test.false))
    ∙ ap element_words (entry_found c.args.multiples.now c.args.first c.args.size some)

use Rattle.std.proofs.Common.{◌+◌, ◌∙◌, [], arith, get_or, slice_index}
use Rattle.edwards.proofs.Couples.{entry_next, none_found}
use Rattle.ed25519.proofs.base.entry_of_digit.Goals as goal

pub entries-init : goal.entries-init
entries-init c = none_found c.args.digit (λ j. get_or c.args.row.now j [])

pub entries-preserved : goal.entries-preserved
entries-preserved c =
    let j = c.entries.j in
    let made = c.entry_under-found in
    entry_next (slice_index c.args.masks.now (j + 1)) j c.args.digit (λ j. get_or c.args.row.now j []) c.entries.found
    made.result (c.requires.masks (j + 1) (omega (arith, c.entries-test.true))) made.ensures.whole made.ensures.first
    made.ensures.second c.entries.invariant

pub returns-clause-some : goal.returns-clause-some
returns-clause-some c some =
    c.found_entry.ensures ∙ c.entries.invariant.some some (omega (arith, c.requires.digit, c.entries-test.false))

pub returns-clause-none : goal.returns-clause-none
returns-clause-none c zero = c.found_entry.ensures ∙ c.entries.invariant.none zero

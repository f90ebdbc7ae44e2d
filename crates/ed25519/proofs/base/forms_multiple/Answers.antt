use Rattle.std.proofs.Common.{◌-◌, ◌≡◌, ◌∙◌, ap, subst, arith, [], get_or, slice_index}
use Rattle.ark_groups.specs.Group.{times}
use Rattle.ed25519.specs.Edwards25519.{curve}
use Rattle.ed25519.specs.BaseTable.{prepared_words, multiples_row}
use Rattle.ed25519.proofs.BaseRows.{entry_at}
use Rattle.ed25519.proofs.BaseDigits.{forms_found}
use Rattle.ed25519.proofs.base.forms_multiple.Goals as goal

pub returns : goal.returns
returns c b on is =
    let digit = c.args.digit in
    forms_found digit (slice_index c.masks_of-masks.result 0) c.forms_zero.result c.forms_at.result
    c.forms_under.result b
    (c.masks_of-masks.ensures 0 (omega arith)) c.forms_under.ensures.first c.forms_under.ensures.second
    c.forms_zero.ensures
    (λ none. c.forms_at.ensures.blank (c.entry_of_digit-entry.ensures.none none))
    (λ some. c.forms_at.ensures.form (times curve digit b)
    (c.entry_of_digit-entry.ensures.some some ∙ ap (λ r. get_or r (digit - 1) []) is
    ∙ subst (λ k. get_or (multiples_row b) (digit - 1) [] ≡ prepared_words (times curve k b)) (omega (arith, some))
    (entry_at (digit - 1) b on (omega (arith, some, c.requires)) [])))

use Rattle.std.proofs.Common.{◌-◌, refl, inl, inr, ap, ◌∙◌, subst}
use Rattle.std.proofs.lemmas.Bool.{cases_lt, lt-ltb, le-ltb, le-leb, lt-leb}
use Rattle.ark_wide_fields.specs.Choices.{mask_for}
use Rattle.jubjub.specs.Tables.{entry_at, IsChosen}
use Rattle.jubjub.proofs.TableDigits.{negative_chosen, signed_high, signed_low, size_high, size_low}
use Rattle.jubjub.proofs.element.sums.chosen.signed_multiple_at.Goals as goal

pub returns : goal.returns
returns c =
    let xs = c.args.multiples.now in
    let first = c.args.first in
    let digit = c.args.digit in
    let above = c.mask_of-above.ensures.bits in
    let below = c.mask_of-below.ensures.bits in
    let found = c.multiple_at.result in
    elim (cases_lt digit 16) [
      | inl low ↦
          let ones_above = above ∙ ap mask_for (lt-ltb digit 16 low) in
          let none_below = below ∙ ap mask_for (lt-leb 16 digit low) in
          let size = size_low digit c.mask_of-below.result none_below in
          let at = subst (λ n. IsChosen found (entry_at xs first n)) size c.multiple_at.ensures in
          subst (IsChosen _) (signed_low xs first digit low) (record {
            x_is = c.signed_under.ensures.same ones_above none_below ∙ at.x_is;
            y_is = at.y_is;
            crossed_is = c.signed_under-2.ensures.same ones_above none_below ∙ at.crossed_is;
          })
      | inr high ↦
          let none_above = above ∙ ap mask_for (le-ltb digit 16 high) in
          let ones_below = below ∙ ap mask_for (le-leb 16 digit high) in
          let size = size_high digit c.mask_of-below.result high c.requires.digit ones_below in
          let at = subst (λ n. IsChosen found (entry_at xs first n)) size c.multiple_at.ensures in
          subst (IsChosen _) (signed_high xs first digit high)
          (negative_chosen found _ (entry_at xs first (32 - digit))
          (c.signed_under.ensures.negative none_above ones_below) refl
          (c.signed_under-2.ensures.negative none_above ones_below) at)
    ]

use Rattle.std.proofs.Common.{inl, inr, sym, ap, ◌∙◌, arith}
use Rattle.std.proofs.lemmas.Bool.{cases_eq, eq-eqb, ne_eqb}
use Rattle.ark_wide_fields.specs.Choices.{mask_for}
use Rattle.jubjub.specs.Tables.{entry_at}
use Rattle.jubjub.specs.Values.{value}
use Rattle.jubjub.proofs.TableDigits.{is_number, entry_forms, no_forms, zero_at}
use Rattle.jubjub.proofs.element.sums.chosen.multiple_at.Goals as goal

pub chosen_in-requires : goal.chosen_in-requires
chosen_in-requires c =
    let e = entry_at c.args.multiples.now c.args.first c.args.size in
    elim (cases_eq c.args.size 0) [
      | inl none ↦ (0, 0, 0, no_forms c.entry_for.result (c.entry_for.ensures.none none))
      | inr other ↦ (
        value e.x,
        value e.y,
        value e.crossed,
        entry_forms e c.entry_for.result (c.entry_for.ensures.some (omega (arith, other))),
      )
    ]

pub element_under-requires-clause-none : goal.element_under-requires-clause-none
element_under-requires-clause-none c full =
    c.chosen_in.ensures.y 0 0 0 (no_forms c.entry_for.result
    (c.entry_for.ensures.none (is_number 0 c.args.size c.mask_of.result c.mask_of.ensures.bits full)))

pub returns : goal.returns
returns c =
    let e = entry_at c.args.multiples.now c.args.first c.args.size in
    let found = c.chosen_in.ensures in
    elim (cases_eq c.args.size 0) [
      | inl none ↦
          let nothing = no_forms c.entry_for.result (c.entry_for.ensures.none none) in
          let zero = zero_at c.args.multiples.now c.args.first c.args.size none in
          record {
            x_is = found.x 0 0 0 nothing ∙ sym zero.x_is;
            y_is = c.element_under.ensures.first (c.mask_of.ensures.bits ∙ ap mask_for (eq-eqb c.args.size 0 none))
                ∙ c.one.ensures ∙ sym zero.y_is;
            crossed_is = found.crossed 0 0 0 nothing ∙ sym zero.crossed_is;
          }
      | inr other ↦
          let forms = entry_forms e c.entry_for.result (c.entry_for.ensures.some (omega (arith, other))) in
          record {
            x_is = found.x (value e.x) (value e.y) (value e.crossed) forms;
            y_is = c.element_under.ensures.second (c.mask_of.ensures.bits ∙ ap mask_for (ne_eqb c.args.size 0 other))
                ∙ found.y (value e.x) (value e.y) (value e.crossed) forms;
            crossed_is = found.crossed (value e.x) (value e.y) (value e.crossed) forms;
          }
    ]

use Rattle.std.proofs.Common.{◌≡◌, refl, Some, ap, sym, ◌∙◌}
use Rattle.std.specs.List.{slice_get}
use Rattle.std.proofs.lemmas.Option.{slice_get_past, slice_get-get_or}
use Rattle.ark_paths.proofs.Readings.{seen_past, seen_at}
use Rattle.ark_paths.proofs.multi_path.places.part_at.Goals as goal

pub returns-in_err-sibling : goal.returns-in_err-sibling
returns-in_err-sibling g c = λ before index.
    let past = seen_past g.S.Numbered.numbers c.args.siblings.now c.args.place c.in_err-sibling.ensures.lookup.3 in
    rw (c.from_residual.ensures, past) refl

pub returns-in_err-prefix : goal.returns-in_err-prefix
returns-in_err-prefix g c = λ before index.
    let beside = seen_at g.S.Numbered.numbers c.args.siblings.now c.args.place c.in_ok-sibling.sibling.now
    c.in_ok-sibling.ensures.lookup.3.0 c.in_ok-sibling.ensures.lookup.1 in
    let past = slice_get_past c.args.prefixes.now c.args.place c.in_err-prefix.ensures.lookup.3 in
    rw (c.from_residual-in_err-prefix.ensures, beside, past) refl

pub returns-in_err-get : goal.returns-in_err-get
returns-in_err-get g c = λ before index.
    let sibling = c.in_ok-sibling.ensures.lookup in
    let prefix = c.in_ok-prefix.ensures.lookup in
    let at : slice_get c.args.prefixes.now c.args.place ≡ Some c.in_ok-prefix.field-0.now = slice_get-get_or
    c.args.prefixes.now c.args.place c.in_ok-prefix.field-0.now prefix.3.0 ∙ ap Some (sym prefix.1) in
    rw (
      c.from_residual-in_err-get.ensures,
      seen_at g.S.Numbered.numbers c.args.siblings.now c.args.place
          c.in_ok-sibling.sibling.now sibling.3.0 sibling.1,
      at,
      seen_past _ c.args.suffixes.now c.args.place
          c.in_err-get.ensures.lookup.3,
    ) refl

use Rattle.std.proofs.Common.{◌∙◌, Bool, map, Ok, ap, sym, subst}
use Rattle.std.proofs.lemmas.List.{length-map}
use Rattle.ark_base.specs.Outcome.{Answers}
use Rattle.ark_paths.proofs.MultiStrict.{as_long, is_strict-uneven, is_strict-misplaced, is_strict-placed}
use Rattle.ark_paths.proofs.multi_path.strict.is_strict.Goals as goal

pub returns-then-not-are_as_many : goal.returns-then-not-are_as_many
returns-then-not-are_as_many g c =
    ap Ok (is_strict-uneven g.S.Numbered.numbers g.D.Numbered.numbers c.args.siblings.now c.args.prefixes.now
    c.args.suffixes.now c.args.indexes.now (sym c.are_as_many.ensures ∙ c.if-not-are_as_many.true))

pub returns-then-not-are_placed : goal.returns-then-not-are_placed
returns-then-not-are_placed g c =
    ap Ok (is_strict-misplaced g.S.Numbered.numbers g.D.Numbered.numbers c.args.siblings.now c.args.prefixes.now
    c.args.suffixes.now c.args.indexes.now (sym c.are_as_many.ensures ∙ c.if-not-are_as_many.false)
    c.first_length.result c.first_length.ensures (sym c.are_placed.ensures ∙ c.if-not-are_placed.true))

pub are_longest-requires : goal.are_longest-requires
are_longest-requires g c = (as_long g.S.Numbered.numbers g.D.Numbered.numbers c.args.siblings.now c.args.prefixes.now
    c.args.suffixes.now c.args.indexes.now (sym c.are_as_many.ensures ∙ c.if-not-are_as_many.false)).1

pub returns : goal.returns
returns g c =
    let even = sym c.are_as_many.ensures ∙ c.if-not-are_as_many.false in
    let long = as_long g.S.Numbered.numbers g.D.Numbered.numbers c.args.siblings.now c.args.prefixes.now
    c.args.suffixes.now c.args.indexes.now even in
    let same = is_strict-placed g.S.Numbered.numbers g.D.Numbered.numbers c.args.siblings.now c.args.prefixes.now
    c.args.suffixes.now c.args.indexes.now even c.first_length.result c.first_length.ensures
    (sym c.are_placed.ensures ∙ c.if-not-are_placed.false) in
    subst (λ (b : Bool). Answers (Ok b) c.are_longest.result) (sym same) (c.are_longest.ensures
    (map g.S.Numbered.numbers c.args.siblings.now) c.args.indexes.now (length-map c.args.siblings.now
    g.S.Numbered.numbers ∙ long.0) long.2)

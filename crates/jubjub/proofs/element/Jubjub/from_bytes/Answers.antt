use Rattle.std.proofs.Common.{◌≡◌, ℕ, List, length, sym, ◌∙◌, ap, subst, arith}
use Rattle.std.proofs.lemmas.List.{length-take-le}
use Rattle.std.proofs.lemmas.Option.{IfSome_then}
use Rattle.jubjub.specs.Jubjub.{IsInSubgroup}
use Rattle.jubjub.specs.Elements.{coordinates}
use Rattle.jubjub.specs.Spelling.{spelling}
use Rattle.jubjub.specs.Laws.Elements.{coordinates_of}
use Rattle.jubjub.proofs.Spelled.{they_differ, they_agree}
use Rattle.jubjub.specs.Laws.Spelling.{length-spelling, read_back}
use Rattle.jubjub.proofs.element.Jubjub.from_bytes.Goals as goal

pub returns-then-bytes-ne64-clause-none : goal.returns-then-bytes-ne64-clause-none
returns-then-bytes-ne64-clause-none c none e is =
    c.if-bytes-ne64.true (ap (λ (s : List ℕ). length s) is ∙ length-spelling (coordinates e))

pub slice_bounds-from_le_bytes_mod_order-end : goal.slice_bounds-from_le_bytes_mod_order-end
slice_bounds-from_le_bytes_mod_order-end c =
    sym (length-take-le 32 c.args.bytes.now (omega (arith, c.if-bytes-ne64.false)))

pub returns-then-ne-clause-none : goal.returns-then-ne-clause-none
returns-then-ne-clause-none c none e is =
    let a = coordinates_of c.from_le_bytes_mod_order-x.result c.from_le_bytes_mod_order-y.result in
    let same : a ≡ coordinates e =
    read_back c.args.bytes.now (coordinates e) a e.in_subgroup.on_curve is c.from_le_bytes_mod_order-x.ensures
    c.from_le_bytes_mod_order-y.ensures in
    they_differ c.ne.result c.as_slice.result.now c.args.bytes.now c.ne.ensures c.if-ne.true
    (c.as_slice.ensures ∙ c.bytes_of_point.ensures ∙ ap spelling same ∙ sym is)

pub returns-clause-some : goal.returns-clause-some
returns-clause-some c =
    let same = they_agree c.ne.result c.as_slice.result.now c.args.bytes.now c.ne.ensures c.if-ne.false in
    IfSome_then c.from_coordinates.result c.from_coordinates.ensures.some
    (λ e made. sym same ∙ c.as_slice.ensures ∙ c.bytes_of_point.ensures ∙ ap spelling (sym made))

pub returns-clause-none : goal.returns-clause-none
returns-clause-none c none e is =
    let a = coordinates_of c.from_le_bytes_mod_order-x.result c.from_le_bytes_mod_order-y.result in
    let same : a ≡ coordinates e =
    read_back c.args.bytes.now (coordinates e) a e.in_subgroup.on_curve is c.from_le_bytes_mod_order-x.ensures
    c.from_le_bytes_mod_order-y.ensures in
    c.from_coordinates.ensures.none.0 none (subst IsInSubgroup (sym same) e.in_subgroup)

use Rattle.std.proofs.Common.{◌≡◌, ℕ, List, length, sym, ◌∙◌, ap, true≢false}
use Rattle.std.proofs.lemmas.Slice.Eq.{bytes_eq-Decides}
use Rattle.edwards.specs.Laws.CurveLaws.{same_coordinates}
use Rattle.ed25519.specs.Spelling.{spelling}
use Rattle.ed25519.specs.Points.{coordinates_of}
use Rattle.ed25519.specs.Values.{value}
use Rattle.ed25519.proofs.PointBytes.{length-spelling, number_marked}
use Rattle.ed25519.proofs.points.point_of.Goals as goal

pub returns-then-bytes-ne32-clause-none : goal.returns-then-bytes-ne32-clause-none
returns-then-bytes-ne32-clause-none c none a on is =
    c.if-bytes-ne32.true (ap (λ (s : List ℕ). length s) is ∙ length-spelling a)

pub returns-else-eq-clause-none : goal.returns-else-eq-clause-none
returns-else-eq-clause-none c none a on is =
    let mark = c.mark_of-odd.ensures a on is in
    let y_is : value c.unmarked-y.result ≡ a.y =
    c.unmarked-y.ensures a.y on.y_below
    (number_marked c.mark_of-odd.result a on is mark c.from_le_bytes_mod_order.ensures) in
    let x_is : value c.in-Some.x ≡ a.x = c.in-Some.ensures.parity a on (sym y_is) mark in
    let same : coordinates_of c.in-Some.x c.unmarked-y.result ≡ a = same_coordinates _ a x_is y_is in
    true≢false (sym (c.eq.ensures ∙ (bytes_eq-Decides c.as_slice.result.now c.args.bytes.now).1
    (c.as_slice.ensures ∙ c.point_bytes.ensures ∙ ap spelling same ∙ sym is)) ∙ c.if-eq.false)

pub returns-in-None-clause-none : goal.returns-in-None-clause-none
returns-in-None-clause-none c none a on is =
    let mark = c.mark_of-odd.ensures a on is in
    let y_is : value c.unmarked-y.result ≡ a.y =
    c.unmarked-y.ensures a.y on.y_below
    (number_marked c.mark_of-odd.result a on is mark c.from_le_bytes_mod_order.ensures) in
    c.in-None.ensures.none none a on (sym y_is)

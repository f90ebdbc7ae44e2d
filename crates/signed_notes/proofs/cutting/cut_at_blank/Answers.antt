use Rattle.std.proofs.Common.{◌≡◌, ◌<◌, ◌+◌, ◌-◌, suc, drop, None, ap, ◌∙◌, arith}
use Rattle.std.proofs.lemmas.List.{take_rest}
use Rattle.signed_notes.specs.Cutting.{cut_at_blank}
use Rattle.signed_notes.proofs.Cuts.{blank-at}
use Rattle.signed_notes.proofs.cutting.cut_at_blank.Goals as goal

pub returns-then-bytes-at-eq10-2 : goal.returns-then-bytes-at-eq10-2
returns-then-bytes-at-eq10-2 c =
    let bytes = c.args.bytes.now in
    let at = c.places.at - 1 in
    let some : 0 < c.places.at = omega (arith, c.places-test.true) in
    let one : at + 1 ≡ suc at = omega arith in
    let two : at + 2 ≡ suc (suc at) = omega arith in
    let here : suc at ≡ c.places.at = omega arith in
    let none : cut_at_blank (drop (suc at) bytes) ≡ None =
    ap (λ n. cut_at_blank (drop n bytes)) here ∙ c.places.invariant.none in
    rw (take_rest bytes (at + 2)) (rw (one, two) (blank-at bytes at (omega arith) (omega arith)
    (rw one at c.if-bytes-at-eq10-2.true) none))

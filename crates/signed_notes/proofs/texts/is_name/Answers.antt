use Rattle.std.proofs.Common.{◌≡◌, length, sym, ◌∙◌, refl, arith}
use Rattle.std.proofs.lemmas.Bool.{eqb-false, lt-ltb}
use Rattle.std.proofs.lemmas.Str.{is_utf8-from_IsUtf8}
use Rattle.signed_notes.proofs.texts.is_name.Goals as goal

pub returns-then-not-is_empty : goal.returns-then-not-is_empty
returns-then-not-is_empty c =
    let name = c.args.name.now in
    let some : length name ≡ 0 → ⊥ = eqb-false (length name) 0 (sym c.is_empty.ensures ∙ c.if-not-is_empty.true) in
    rw (is_utf8-from_IsUtf8 name c.utf8.name, lt-ltb 0 (length name) (omega (arith, some)), c.are_named.ensures) refl

-- An element is read from the front of bytes.
use Rattle.std.proofs.Common.{◌≡◌, ℕ, ◌<◌, ◌≤◌, true, false, ltb, List, length, take, drop, Ok, Err, refl, sym, ◌∙◌, ap}
use Rattle.std.proofs.lemmas.Bool.{lt-ltb, le-ltb}
use Rattle.std.proofs.lemmas.List.{length-take-le}
use Rattle.ark_base.specs.declared.error.SerializationError.TheVariants.{Truncated, InvalidData}
use Rattle.ark_base.specs.Reading.{IsBytes}
use Rattle.ark_base.specs.Spelling.{fixed_at}
use Rattle.ark_base.specs.Laws.Steps.{IsBytes-take}
use Rattle.jubjub.specs.declared.element.Jubjub.{Jubjub}
use Rattle.jubjub.specs.Elements.{coordinates}
use Rattle.jubjub.specs.Spelling.{spelling, element_of, jubjub_element_at}
use Rattle.jubjub.specs.Laws.Elements.{element, kept}
use Rattle.jubjub.specs.Laws.Spelling.{element_decodes, element_refused}

pub too_short : (bytes : List ℕ) → length bytes < 64 → jubjub_element_at bytes ≡ Err Truncated
unfolding fixed_at
too_short bytes short =
    let told : ltb (length bytes) 64 ≡ true = lt-ltb _ _ short in
    rw told refl

pub found : (bytes : List ℕ) (e : Jubjub) → 64 ≤ length bytes → take 64 bytes ≡ spelling (coordinates e)
    → jubjub_element_at bytes ≡ Ok (coordinates e, drop 64 bytes)
unfolding fixed_at
found bytes e enough is =
    let told : ltb (length bytes) 64 ≡ false = le-ltb _ _ enough in
    let of : element_of (take 64 bytes) ≡ Ok (coordinates e) =
    ap element_of is ∙ element_decodes (coordinates e) e.in_subgroup in
    rw (told, of) refl

pub refused : (bytes : List ℕ) → 64 ≤ length bytes → IsBytes bytes
    → ((e : Jubjub) → take 64 bytes ≡ spelling (coordinates e) → ⊥) → jubjub_element_at bytes ≡ Err InvalidData
unfolding fixed_at
refused bytes enough fits none =
    let told : ltb (length bytes) 64 ≡ false = le-ltb _ _ enough in
    let of : element_of (take 64 bytes) ≡ Err InvalidData =
    element_refused (take 64 bytes) (length-take-le 64 bytes enough) (IsBytes-take 64 bytes fits)
    (λ a s is. none (element a s) (is ∙ ap spelling (sym (kept a s)))) in
    rw (told, of) refl

-- Lists that are seen alike, place by place.
use Rattle.std.proofs.Common.{◌≡◌, List, [], ◌∷◌, map, refl, sym, ap, ◌∙◌}
use Rattle.std.specs.List.{AllZip}
use Rattle.std.specs.declared.vec.Vec.{Vec}
use Rattle.std.proofs.lemmas.List.Elements.{same_from_all_zip}
use Rattle.ark_pedersen.specs.Pedersen.{lists_in}

pub map-seen : {A B : Type 0} (view : A → B) (R : A → A → Type 0) → ((x y : A) → R x y → view x ≡ view y)
    → (xs ys : List A) → AllZip R xs ys → map view xs ≡ map view ys
map-seen view R alike [] [] all = refl
map-seen view R alike [] (y ∷ ys) all = absurd all
map-seen view R alike (x ∷ xs) [] all = absurd all
map-seen {A} {B} view R alike (x ∷ xs) (y ∷ ys) all =
    ap (λ (b : B). b ∷ map view xs) (alike x y all.0) ∙ ap (λ (bs : List B). view y ∷ bs) (map-seen view R alike
    xs ys all.1)

-- lists of copies have the same items
pub copies-same : {G Z : Type 0} (is_clone : G → G → Type 0) → ((x y : G) → is_clone x y → x ≡ y)
    → (R : Vec G Z → Vec G Z → Type 0) → ((v w : Vec G Z) → R v w → AllZip is_clone v.items w.items)
    → (xs ys : List (Vec G Z)) → AllZip R xs ys → lists_in xs ≡ lists_in ys
copies-same is_clone clones R alike xs ys all =
    map-seen (λ list. list.items) R (λ v w copied. sym (same_from_all_zip is_clone v.items w.items (alike v w copied)
    (λ x y clone. sym (clones x y clone)))) xs ys all

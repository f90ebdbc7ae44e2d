-- Elements as digests.
use Rattle.std.proofs.Common.{◌≡◌, ℕ, ◌&&◌, ◌↔◌, List, get_or, sym, ap}
use Rattle.std.specs.Bool.{Decides}
use Rattle.jubjub.specs.declared.element.Jubjub.{Jubjub}
use Rattle.jubjub.specs.Edwards.{Coordinates}
use Rattle.jubjub.specs.Elements.{coordinates}
use Rattle.jubjub.specs.Spelling.{spelling, coordinates_in, numbers_in}
use Rattle.edwards.specs.Laws.CurveLaws.{same_coordinates}
use Rattle.jubjub.specs.Laws.Elements.{same_element}
use Rattle.jubjub.specs.Laws.Group.{words_eq, same_if_equal}
use Rattle.jubjub.specs.Laws.Spelling.{spelled_back}

numbers_alone : (a b : Coordinates) → numbers_in a ≡ numbers_in b → a ≡ b
numbers_alone a b same = same_coordinates a b (ap (λ (numbers : List ℕ). get_or numbers 0 0) same)
    (ap (λ (numbers : List ℕ). get_or numbers 1 0) same)

pub seen_alike : (x y : Jubjub) → (coordinates x ≡ coordinates y)
    ↔ (numbers_in (coordinates x) ≡ numbers_in (coordinates y))
seen_alike x y = (λ same. ap numbers_in same, numbers_alone (coordinates x) (coordinates y))

pub same_digest : (x y : Jubjub) → Decides (words_eq x.x y.x && words_eq x.y y.y)
    (numbers_in (coordinates x) ≡ numbers_in (coordinates y))
same_digest x y =
    let same = same_if_equal x y in (
      λ t. ap (λ (z : Jubjub). numbers_in (coordinates z)) (same.0 t),
      λ e. same.1 (same_element x y (numbers_alone (coordinates x) (coordinates y) e)),
    )

pub numbers_again : (x : Jubjub) → numbers_in (coordinates x) ≡ numbers_in (coordinates_in (spelling (coordinates x)))
numbers_again x = sym (ap numbers_in (spelled_back (coordinates x) x.in_subgroup))

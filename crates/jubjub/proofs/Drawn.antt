-- Elements that a stream gives, one try after another.
use Rattle.std.proofs.Common.{◌≡◌, ℕ, suc, Option, Some, None, refl, sym, ◌∙◌, ap}
use Rattle.std.specs.Option.{option_map_or}
use Rattle.rand_core.specs.Stream.{Stream}
use Rattle.ark_wide_fields.specs.Draws.{wide_draw}
use Rattle.jubjub.specs.declared.element.Jubjub.{Jubjub}
use Rattle.jubjub.specs.Elements.{jubjub}
use Rattle.jubjub.specs.Values.{Fr, value}
use Rattle.jubjub.specs.Decoding.{cleared_over}
use Rattle.jubjub.specs.Draws.{element_found}

-- the element of the field that a stream gives, and what is left
abbrev y_drawn : Stream → Fr × Stream
y_drawn = wide_draw

chosen : (o : Option Jubjub) (e : Jubjub) (t : Stream) (other : Jubjub × Stream) → o ≡ Some e
    → option_map_or (λ x. (x, t)) o other ≡ (e, t)
chosen (Some x) e t other is = ap (λ (z : Jubjub × Stream). z) (ap (λ o. option_map_or (λ x. (x, t)) o other) is)
chosen None e t other is = ap (λ o. option_map_or (λ x. (x, t)) o other) is

left : (o : Option Jubjub) (t : Stream) (other : Jubjub × Stream) → o ≡ None → option_map_or (λ x. (x, t)) o other
    ≡ other
left o t other is = ap (λ o. option_map_or (λ x. (x, t)) o other) is

module _ (n : ℕ) (s t : Stream) (y : Fr) (is : ◌≡◌ {A = Fr × Stream} (y, t) (wide_draw s)) where
  -- a try that finds an element
  pub found_at_once : (e : Jubjub) → cleared_over (value y) 0 ≡ Some e → element_found (suc n) s ≡ (e, t)
  unfolding element_found
  found_at_once e found =
      chosen (cleared_over (value (y_drawn s).0) 0) e (y_drawn s).1 (element_found n (y_drawn s).1)
      (ap (λ (z : Fr × Stream). cleared_over (value z.0) 0) (sym is) ∙ found)
      ∙ ap (λ (z : Fr × Stream). (e, z.1)) (sym is)

  -- and one that finds none
  pub found_later : cleared_over (value y) 0 ≡ None → element_found (suc n) s ≡ element_found n t
  unfolding element_found
  found_later none =
      left (cleared_over (value (y_drawn s).0) 0) (y_drawn s).1 (element_found n (y_drawn s).1)
      (ap (λ (z : Fr × Stream). cleared_over (value z.0) 0) (sym is) ∙ none)
      ∙ ap (λ (z : Fr × Stream). element_found n z.1) (sym is)

-- after the last try it is zero
pub nothing_found : (s : Stream) → element_found 0 s ≡ (jubjub.identity, s)
unfolding element_found
nothing_found s = refl

-- Elements that are found in digests, one last byte after another.
use Rattle.std.proofs.Common.{◌≡◌, ℕ, suc, ◌+◌, ◌-◌, ◌<◌, ◌≤◌, List, [], ◌∷◌, ◌++◌, map, length, Option, Some, None, sym, ◌∙◌, ap, ap₂, arith}
use Rattle.std.specs.Option.{option_map_or}
use Rattle.std.specs.List.{range_with_len}
use Rattle.std.proofs.lemmas.List.{map-append, length-map}
use Rattle.std.proofs.lemmas.List.FromFn.{map-range_with_len_more, length-map-range_with_len}
use Rattle.ark_schemes.specs.GroupHash.{group_digest, first_found, group_hash, AreOfTexts}

one_byte_more : (i : ℕ) → i < 256 → 256 - i ≡ suc (256 - (i + 1))
one_byte_more i l = omega (arith, l)

no_byte_more : (i : ℕ) → 256 ≤ i → 256 - i ≡ 0
no_byte_more i l = omega (arith, l)

module _ {G : Type 0} (find : List ℕ → Option G) (label text : List ℕ) where
  -- what is found from a last byte on is what is found
  abbrev pub IsFoundFrom : ℕ → Type 0
  IsFoundFrom last = group_hash find label text ≡ first_found find label text last (256 - last)

  -- a last byte whose digest gives an element, one whose digest gives none, and no last byte
  pub found_here : (last : ℕ) (o : Option G) (x : G) → last < 256 → o ≡ find (group_digest label text last)
      → o ≡ Some x → IsFoundFrom last → Some x ≡ group_hash find label text
  unfolding first_found
  found_here last o x l e is before =
      let others = first_found find label text (last + 1) (256 - (last + 1)) in
      sym (before ∙ ap (first_found find label text last) (one_byte_more last l)
      ∙ ap (λ p. option_map_or (λ y. Some y) p others) (sym e ∙ is))

  pub found_later : (last : ℕ) (o : Option G) → last < 256 → o ≡ find (group_digest label text last) → o ≡ None
      → IsFoundFrom last → IsFoundFrom (last + 1)
  unfolding first_found
  found_later last o l e is before =
      let others = first_found find label text (last + 1) (256 - (last + 1)) in
      before ∙ ap (first_found find label text last) (one_byte_more last l)
      ∙ ap (λ p. option_map_or (λ y. Some y) p others) (sym e ∙ is)

  pub found_nowhere : (last : ℕ) → 256 ≤ last → IsFoundFrom last → None ≡ group_hash find label text
  unfolding first_found
  found_nowhere last l before = sym (before ∙ ap (first_found find label text last) (no_byte_more last l))

-- one more element of a label
pub one_element_more : {G : Type 0} (f : ℕ → Option G) (front whole : List G) (x : G) (i : ℕ) → whole ≡ front ++ x ∷ []
    → f i ≡ Some x → map (λ y. Some y) front ≡ map f (range_with_len 0 i)
    → map (λ y. Some y) whole ≡ map f (range_with_len 0 (i + 1))
one_element_more f front whole x i is found before =
    ap (map (λ y. Some y)) is ∙ map-append (λ y. Some y) front (x ∷ [])
    ∙ ap₂ (λ s t. s ++ t ∷ []) before (sym found) ∙ sym (map-range_with_len_more f 0 i i (plain i))
  where
    plain : (i : ℕ) → 0 + i ≡ i
    plain i = omega arith

-- the elements of texts are as many as were asked for
pub as_many : {G : Type 0} (find : List ℕ → Option G) (label : List ℕ) (text : ℕ → List ℕ) (count : ℕ)
    (elements : List G) → AreOfTexts find label text count elements → length elements ≡ count
as_many find label text count elements are =
    sym (length-map elements (λ x. Some x)) ∙ ap length are
    ∙ length-map-range_with_len (λ i. group_hash find label (text i)) 0 count

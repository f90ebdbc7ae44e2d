-- Lists of one length, one behind the other.
use Rattle.std.proofs.Common.{◌≡◌, ℕ, zero, suc, ◌+◌, ◌*◌, ◌/◌, ◌%◌, ◌<◌, Bool, true, false, eqb, ◌&&◌, List, [], ◌∷◌, length, map, get_or, refl, sym, ap, ◌∙◌, arith, length-append}
use Rattle.std.specs.List.{list_all}
use Rattle.std.proofs.Math.Nat.{div-lt_iff_lt-mul}
use Rattle.std.proofs.Math.ListN.{get_or-map}
use Rattle.std.proofs.lemmas.List.{length-map}
use Rattle.std.proofs.lemmas.Bool.{eqb-true}
use Rattle.std.proofs.lemmas.Nat.{div-add-mod'}
use Rattle.std.proofs.lemmas.List.{get_or_append_left, get_or-append-add}
use Rattle.ark_pedersen.specs.Pedersen.{concatenation, has_shape}

both_true : (a b : Bool) → (a && b) ≡ true → (a ≡ true) × (b ≡ true)
both_true true b e = (refl, e)
both_true false b e = absurd cc

module _ {G : Type 0} (size : ℕ) where
  abbrev AreLong : List (List G) → Type 0
  AreLong lists = list_all (λ list. eqb (length list) size) lists ≡ true

  length-concatenation : (lists : List (List G)) → AreLong lists → length (concatenation lists) ≡ size * length lists
  length-concatenation [] long = omega arith
  length-concatenation (list ∷ lists) long =
      let h = both_true (eqb (length list) size) (list_all (λ list. eqb (length list) size) lists) long in
      let here = eqb-true _ _ h.0 in
      let behind = length-concatenation lists h.1 in
      let more : size * suc (length lists) ≡ size + size * length lists = grind arith in
      omega (arith, length-append list (concatenation lists))

  long_at : (lists : List (List G)) (i : ℕ) (e : List G) → AreLong lists → i < length lists
      → length (get_or lists i e) ≡ size
  long_at [] i e long within = absurd (omega arith)
  long_at (list ∷ lists) zero e long within =
      eqb-true _ _ (both_true (eqb (length list) size) (list_all (λ list. eqb (length list) size) lists) long).0
  long_at (list ∷ lists) (suc i) e long within = long_at lists i e (both_true (eqb (length list) size)
      (list_all (λ list. eqb (length list) size) lists) long).1 (omega arith)

  concatenation_at : (lists : List (List G)) (i j : ℕ) (e : List G) (d : G) → AreLong lists → i < length lists
      → j < size → get_or (concatenation lists) (i * size + j) d ≡ get_or (get_or lists i e) j d
  concatenation_at [] i j e d long within low = absurd (omega arith)
  concatenation_at (list ∷ lists) zero j e d long within low =
      let here = eqb-true _ _ (both_true (eqb (length list) size) (list_all (λ list. eqb (length list) size)
      lists) long).0 in
      let place : 0 * size + j ≡ j = omega arith in
      rw place (get_or_append_left list (concatenation lists) d j (omega arith))
  concatenation_at (list ∷ lists) (suc i) j e d long within low =
      let h = both_true (eqb (length list) size) (list_all (λ list. eqb (length list) size) lists) long in
      let here = eqb-true _ _ h.0 in
      let more : suc i * size ≡ size + i * size = grind arith in
      let place : suc i * size + j ≡ length list + (i * size + j) = omega arith in
      rw place (get_or-append-add list (concatenation lists) (i * size + j) d ∙ concatenation_at lists i j e d h.1
      (omega arith) low)

-- what lists of the shape are
module _ {G : Type 0} (count size : ℕ) (lists : List (List G)) (shape : has_shape count size lists ≡ true) where
  parts : (length lists ≡ count) × (AreLong size lists)
  parts = let h = both_true (eqb (length lists) count) (list_all (λ list. eqb (length list) size) lists) shape in
      (eqb-true _ _ h.0, h.1)

  pub shape_all : length (concatenation lists) ≡ size * count
  shape_all = length-concatenation size lists parts.1 ∙ ap (λ (n : ℕ). size * n) parts.0

  shape_in : (place : ℕ) → place < size * count → (place / size < length lists) × (place % size < size)
  shape_in place within =
      let some : 0 < size = positive size within in
      let swapped : count * size ≡ size * count = grind arith in
      let i : place / size < count = (div-lt_iff_lt-mul {k = size} {x = place} {y = count} some).1 (omega arith) in
      (omega (arith, parts.0), omega arith)
    where
      positive : (s : ℕ) → place < s * count → 0 < s
      positive zero h = absurd (omega arith)
      positive (suc s) h = omega arith

  shape_at : (place : ℕ) (e : List G) (d : G) → place < size * count → get_or (concatenation lists) place d
      ≡ get_or (get_or lists (place / size) e) (place % size) d
  shape_at place e d within =
      let h = shape_in place within in
      ap (λ (p : ℕ). get_or (concatenation lists) p d) (sym (div-add-mod' place size)) ∙ concatenation_at size lists
      (place / size) (place % size) e d parts.1 h.0 h.1

-- the element at a place, where the lists are those of some values
module _ {G V : Type 0} (count size : ℕ) (items : V → List G) (values : List V) (shape : has_shape count size
    (map items values) ≡ true) (place : ℕ) (within : place < size * count) where
  pub value_in : place / size < length values
  value_in = omega (arith, (shape_in count size (map items values) shape place within).0, length-map values items)

  module _ (v : V) (is : v ≡ get_or values (place / size) v) where
    same : get_or (map items values) (place / size) (items v) ≡ items v
    same = get_or-map items values (place / size) v ∙ ap items (sym is)

    pub element_in : place % size < length (items v)
    element_in =
        let low = (shape_in count size (map items values) shape place within).1 in
        let long = long_at size (map items values) (place / size) (items v) (parts count size (map items values)
        shape).1 (shape_in count size (map items values) shape place within).0 in
        omega (arith, low, long, ap length same)

    pub element_at : (d : G) → get_or (concatenation (map items values)) place d ≡ get_or (items v) (place % size) d
    element_at d = shape_at count size (map items values) shape place (items v) d within
        ∙ ap (λ (list : List G). get_or list (place % size) d) same

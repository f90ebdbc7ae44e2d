-- The laws of the canonical bytes of coordinates.
use Rattle.std.proofs.Common.{◌≡◌, ℕ, ◌+◌, ◌-◌, ◌%◌, ◌^◌, ◌<◌, ◌≤◌, Bool, true, false, not}
use Rattle.std.proofs.Common.{List, ◌++◌, length, take, drop, Ok, Err, refl, sym, ◌∙◌, ap, ap₂, subst, arith}
use Rattle.std.proofs.Common.{mod-eq_of_lt, true≢false}
use Rattle.std.specs.Bool.{Decides}
use Rattle.std.proofs.lemmas.Bool.{and_parts, and_from, ltb-true, lt-ltb, eqb-true, eq-eqb}
use Rattle.std.proofs.lemmas.List.{take_at, drop_at, take_all, take-append-drop, length-append, length-drop}
use Rattle.std.proofs.lemmas.List.{length-take-le}
use Rattle.std.proofs.Math.Seq.{take-append_seam, drop-append_seam}
use Rattle.ark_base.specs.declared.error.SerializationError.TheVariants.{InvalidData}
use Rattle.ark_base.specs.Reading.{IsBytes, IsCanonical}
use Rattle.ark_base.specs.Digits.{number_of_bytes, bytes_of_number}
use Rattle.ark_base.specs.Laws.Digits.{length-bytes_of_number, number_of_bytes-bytes_of_number}
use Rattle.ark_base.specs.Laws.Digits.{bytes_of_number-number_of_bytes}
use Rattle.ark_base.specs.Laws.Parts.{fixed_laws}
use Rattle.ark_base.specs.Laws.Steps.{done_injective, guarded_ok, IsBytes-take, IsBytes-drop}
use Rattle.ark_groups.specs.Group.{times}
use Rattle.jubjub.specs.Edwards.{Coordinates, IsOnCurve, neutral}
use Rattle.jubjub.specs.Jubjub.{p, d, order, curve, IsInSubgroup}
use Rattle.jubjub.specs.Spelling.{spelling, coordinates_in, is_in_subgroup, element_of, jubjub_element_at}
use Rattle.edwards.specs.Laws.CurveLaws.{same_coordinates}

pub length-spelling : (a : Coordinates) → length (spelling a) ≡ 64
length-spelling a = length-append (bytes_of_number 32 a.x) (bytes_of_number 32 a.y)
    ∙ ap₂ (λ m n. m + n) (length-bytes_of_number 32 a.x) (length-bytes_of_number 32 a.y)

-- what the two halves of the spelling of a point are modulo p
pub read_back : (bytes : List ℕ) (a b : Coordinates) → IsOnCurve p d a → bytes ≡ spelling a
    → b.x ≡ number_of_bytes (take 32 bytes) % p
    → b.y ≡ number_of_bytes (take (length bytes - 32) (drop 32 bytes)) % p → b ≡ a
read_back bytes a b on is is_x is_y =
    let first : take 32 (spelling a) ≡ bytes_of_number 32 a.x =
    ap (λ n. take n (spelling a)) (sym (length-bytes_of_number 32 a.x))
    ∙ take-append_seam (bytes_of_number 32 a.x) (bytes_of_number 32 a.y) in
    let second : drop 32 (spelling a) ≡ bytes_of_number 32 a.y =
    ap (λ n. drop n (spelling a)) (sym (length-bytes_of_number 32 a.x))
    ∙ drop-append_seam (bytes_of_number 32 a.x) (bytes_of_number 32 a.y) in
    same_coordinates b a
    (is_x ∙ ap (λ s. number_of_bytes (take 32 s) % p) is ∙ ap (λ s. number_of_bytes s % p) first
    ∙ ap (λ n. n % p) (number_of_bytes-bytes_of_number 32 a.x (fits a.x on.x_below)) ∙ mod-eq_of_lt on.x_below)
    (is_y ∙ ap (λ s. number_of_bytes (take (length s - 32) (drop 32 s)) % p) is
    ∙ ap₂ (λ n s. number_of_bytes (take (n - 32) s) % p) (length-spelling a) second
    ∙ ap (λ s. number_of_bytes s % p) (take_all 32 (bytes_of_number 32 a.y) (short a.y))
    ∙ ap (λ n. n % p) (number_of_bytes-bytes_of_number 32 a.y (fits a.y on.y_below)) ∙ mod-eq_of_lt on.y_below)
  where
    fits : (n : ℕ) → n < p → n < 256 ^ 32
    fits n l = omega (arith, l)

    short : (n : ℕ) → length (bytes_of_number 32 n) ≤ 32
    short n = let long = length-bytes_of_number 32 n in omega (arith, long)

-- ---- the test of the subgroup

pub in_subgroup-Decides : (a : Coordinates) → Decides (is_in_subgroup a) (IsInSubgroup a)
unfolding is_in_subgroup
in_subgroup-Decides a = (
  λ t.
      let x = and_parts _ _ t in
      let y = and_parts _ _ x.1 in
      let on = and_parts _ _ y.1 in
      let zero = and_parts _ _ on.1 in
      record {
        on_curve = record {
          x_below = ltb-true _ _ x.0;
          y_below = ltb-true _ _ y.0;
          equation = eqb-true _ _ on.0;
        };
        of_order = same_coordinates (times curve order a) neutral (eqb-true _ _ zero.0) (eqb-true _ _ zero.1);
      },
  λ s.
      let on = s.on_curve in
      and_from _ _ (lt-ltb _ _ on.x_below) (and_from _ _ (lt-ltb _ _ on.y_below)
      (and_from _ _ (eq-eqb _ _ on.equation)
      (and_from _ _ (eq-eqb _ _ (ap (λ (b : Coordinates). b.x) s.of_order))
      (eq-eqb _ _ (ap (λ (b : Coordinates). b.y) s.of_order))))),
)

-- ---- the bytes of an element

fits_bytes : (n : ℕ) → n < p → n < 256 ^ 32
fits_bytes n l = omega (arith, l)

pub spelled_back : (a : Coordinates) → IsInSubgroup a → coordinates_in (spelling a) ≡ a
spelled_back a s =
    let long = length-bytes_of_number 32 a.x in
    let on = s.on_curve in
    same_coordinates (coordinates_in (spelling a)) a
    (ap (λ (bytes : List ℕ). number_of_bytes bytes) (take_at (bytes_of_number 32 a.x) (bytes_of_number 32 a.y) 32 long)
    ∙ number_of_bytes-bytes_of_number 32 a.x (fits_bytes a.x on.x_below))
    (ap (λ (bytes : List ℕ). number_of_bytes bytes) (drop_at (bytes_of_number 32 a.x) (bytes_of_number 32 a.y) 32 long)
    ∙ number_of_bytes-bytes_of_number 32 a.y (fits_bytes a.y on.y_below))

-- 64 bytes are those of the numbers that they spell
pub bytes_again : (bytes : List ℕ) → length bytes ≡ 64 → IsBytes bytes → bytes ≡ spelling (coordinates_in bytes)
bytes_again bytes long fits =
    let first : length (take 32 bytes) ≡ 32 = length-take-le 32 bytes (omega (arith, long)) in
    let second : length (drop 32 bytes) ≡ 32 = length-drop 32 bytes ∙ ap (λ n. n - 32) long in
    sym (take-append-drop 32 bytes) ∙ ap₂ (λ (s t : List ℕ). s ++ t)
    (sym (bytes_of_number-number_of_bytes (take 32 bytes) (IsBytes-take 32 bytes fits))
    ∙ ap (λ n. bytes_of_number n (number_of_bytes (take 32 bytes))) first)
    (sym (bytes_of_number-number_of_bytes (drop 32 bytes) (IsBytes-drop 32 bytes fits))
    ∙ ap (λ n. bytes_of_number n (number_of_bytes (drop 32 bytes))) second)

pub element_decodes : (a : Coordinates) → IsInSubgroup a → element_of (spelling a) ≡ Ok a
unfolding element_of
element_decodes a s =
    let inside : is_in_subgroup a ≡ true = (in_subgroup-Decides a).1 s in
    rw (spelled_back a s, inside) refl

element_only : (bytes : List ℕ) (a : Coordinates) → length bytes ≡ 64 → IsBytes bytes → element_of bytes ≡ Ok a
    → IsInSubgroup a × (bytes ≡ spelling a)
unfolding element_of
element_only bytes a long fits e =
    let b = coordinates_in bytes in
    let g = guarded_ok (not (is_in_subgroup b)) InvalidData (Ok b) a e in
    let same : b ≡ a = done_injective b a g.1 in
    let inside : IsInSubgroup b = (in_subgroup-Decides b).0 (turned (is_in_subgroup b) g.0) in
    (subst IsInSubgroup same inside, bytes_again bytes long fits ∙ ap spelling same)
  where
    turned : (b : Bool) → not b ≡ false → b ≡ true
    turned true e = refl
    turned false e = absurd (true≢false e)

-- 64 bytes that spell nothing in the subgroup
pub element_refused : (bytes : List ℕ) → length bytes ≡ 64 → IsBytes bytes
    → ((a : Coordinates) → IsInSubgroup a → bytes ≡ spelling a → ⊥) → element_of bytes ≡ Err InvalidData
unfolding element_of
element_refused bytes long fits none =
    let b = coordinates_in bytes in
    let outside : is_in_subgroup b ≡ false =
    refuted (is_in_subgroup b) (λ t. none b ((in_subgroup-Decides b).0 t) (bytes_again bytes long fits)) in
    rw outside refl
  where
    refuted : (b : Bool) → (b ≡ true → ⊥) → b ≡ false
    refuted true never = absurd (never refl)
    refuted false never = refl

pub element_laws : IsCanonical IsInSubgroup spelling jubjub_element_at
element_laws =
    fixed_laws 64 IsInSubgroup spelling element_of (record {
      long = λ a s. length-spelling a;
      decodes = element_decodes;
      only = element_only;
    })

pub element_long : (a : Coordinates) → IsInSubgroup a → 64 ≤ length (spelling a)
element_long a s = omega (arith, length-spelling a)

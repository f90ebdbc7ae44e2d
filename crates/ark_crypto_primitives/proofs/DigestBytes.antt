-- Digests that are numbers of a field, and their canonical bytes.
use Rattle.std.proofs.Common.{◌≡◌, ℕ, zero, suc, ◌*◌, ◌/◌, ◌%◌, ◌<◌, Bool, true, false, cond, List, [], ◌∷◌, length, Ok, arith, refl, ap, ap₂, sym, subst, ◌∙◌}
use Rattle.std.specs.Prelude.{nat_lt, ◌==◌}
use Rattle.std.proofs.lemmas.Bool.{ltb-false, eqb-true}
use Rattle.ark_base.specs.Outcome.{Outcome}
use Rattle.ark_base.specs.Digits.{bytes_for, bytes_of_number}
use Rattle.ark_base.specs.Reading.{IsBytes}
use Rattle.ark_base.specs.Laws.Digits.{length-bytes_of_number}
use Rattle.ark_groups.specs.Field.{HasBits, IsField}
use Rattle.ark_groups.specs.Laws.Fp.{number-alone, alone}
use Rattle.ark_pedersen.specs.Binding.{IsCouple}
use Rattle.ark_paths.specs.Pair.{Digest}
use Rattle.ark_pedersen.specs.Pedersen.{window_bits, of_halves}
use Rattle.ark_pedersen.specs.declared.window.Window.{Ghosts as Windows}
use Rattle.ark_crypto_primitives.specs.TreeRelations.{DigestView}
use Rattle.ark_crypto_primitives.proofs.PathPairs.{AreOf, IsNumbered}

-- a byte in front of bytes, place by place
front-bytes : (b : ℕ) (bytes : List ℕ) → b < 256 → IsBytes bytes → IsBytes (b ∷ bytes)
front-bytes b bytes small are zero = small
front-bytes b bytes small are (suc i) = are i

-- the bytes of a number are bytes
pub bytes_of_number-bytes : (len n : ℕ) → IsBytes (bytes_of_number len n)
unfolding bytes_of_number
bytes_of_number-bytes zero n i = omega arith
bytes_of_number-bytes (suc len) n i =
    front-bytes (n % 256) (bytes_of_number len (n / 256)) (omega arith) (bytes_of_number-bytes len (n / 256)) i

-- two tests that did not fail
two_tests : {A : Type 0} (a b : Bool) (x y z : Outcome A) (w : A)
    → (let o : Outcome A = cond a (cond b y z) x in o ≡ Ok w) → ((k : A) → x ≡ Ok k → ⊥)
    → ((k : A) → y ≡ Ok k → ⊥) → (a ≡ true) × ((b ≡ false) × (z ≡ Ok w))
two_tests true true x y z w e nx ny = absurd (ny w e)
two_tests true false x y z w e nx ny = (refl, (refl, e))
two_tests false b x y z w e nx ny = absurd (nx w e)

-- halves that have a hash are a couple
pub couple_of_halves : {G W : Type 0} (windows : Windows W) (hash : List ℕ → Outcome G) (left right : List ℕ) (x : G)
    → of_halves windows hash left right ≡ Ok x → IsCouple windows (left, right)
couple_of_halves windows hash left right x e =
    let parts = two_tests (length left == length right) (nat_lt (window_bits windows / 2) (8 * length left)) _ _ _ x e
    (λ k h. absurd cc) (λ k h. absurd cc) in
    record {
      as_long = eqb-true (length left) (length right) parts.0;
      within = ltb-false (window_bits windows / 2) (8 * length left) parts.1.0;
    }

-- digests whose canonical bytes are as many for all, and tell them
pub record AreSpelled {D : Type 0} (view : DigestView D) : Type 0 where
  pub width : ℕ
  pub long : (d : D) → length (view.bytes_of (view.numbers d)) ≡ width
  pub bytes : (d : D) → IsBytes (view.bytes_of (view.numbers d))
  pub alone : (d e : D) → view.bytes_of (view.numbers d) ≡ view.bytes_of (view.numbers e)
      → view.numbers d ≡ view.numbers e

module _ {D : Type 0} (view : DigestView D) (are : AreSpelled view) where
  pub bytes-of : (n : Digest) → IsNumbered view.numbers n → IsBytes (view.bytes_of n)
  bytes-of n is = subst (λ m. IsBytes (view.bytes_of m)) is.1 (are.bytes is.0)

  pub long-as : (m n : Digest) → IsNumbered view.numbers m → IsNumbered view.numbers n
      → length (view.bytes_of m) ≡ length (view.bytes_of n)
  long-as m n is_m is_n = long m is_m ∙ sym (long n is_n)
    where
      long : (k : Digest) → IsNumbered view.numbers k → length (view.bytes_of k) ≡ are.width
      long k is = ap (λ t. length (view.bytes_of t)) (sym is.1) ∙ are.long is.0

  alone-as : (m n : Digest) → IsNumbered view.numbers m → IsNumbered view.numbers n
      → view.bytes_of m ≡ view.bytes_of n → m ≡ n
  alone-as m n is_m is_n same =
      sym is_m.1 ∙ are.alone is_m.0 is_n.0 (ap view.bytes_of is_m.1 ∙ same ∙ ap view.bytes_of (sym is_n.1)) ∙ is_n.1

  -- pairs of digests with the same bytes are the same
  pub pair-alone : (left right : Digest × Digest) → AreOf (IsNumbered view.numbers) left
      → AreOf (IsNumbered view.numbers) right → view.bytes_of left.0 ≡ view.bytes_of right.0
      → view.bytes_of left.1 ≡ view.bytes_of right.1 → left ≡ right
  pair-alone left right of_left of_right first second =
      ap₂ (λ (x y : Digest). (x, y)) (alone-as left.0 right.0 of_left.left of_right.left first)
      (alone-as left.1 right.1 of_left.right of_right.right second)

-- What a field of coordinates owes: each coordinate is a number of it and tells its element.
pub record AreCoordinates {G F : Type 0} (p bits : ℕ) (x : G → ℕ) (value : F → ℕ) (view : DigestView F) : Type 0 where
  pub digits : HasBits p bits
  pub field : IsField p value
  pub below : (a : G) → x a < p
  pub told : (a b : G) → x a ≡ x b → a ≡ b
  pub numbers_are : (f : F) → view.numbers f ≡ value f ∷ []
  pub bytes_are : (f : F) → view.bytes_of (view.numbers f) ≡ bytes_of_number (bytes_for bits) (value f)
  pub read : (f : F) → view.numbers f ≡ view.numbers_of (bytes_of_number (bytes_for bits) (value f))

module _ {G F : Type 0} (p bits : ℕ) (x : G → ℕ) (value : F → ℕ) (view : DigestView F)
    (are : AreCoordinates p bits x value view) where
  pub are_spelled : AreSpelled view
  are_spelled = record {
    width = bytes_for bits;
    long = λ f. ap (λ (bytes : List ℕ). length bytes) (are.bytes_are f)
        ∙ length-bytes_of_number (bytes_for bits) (value f);
    bytes = λ f. subst IsBytes (sym (are.bytes_are f)) (bytes_of_number-bytes (bytes_for bits) (value f));
    alone = λ a b same.
        are.numbers_are a ∙ ap (λ (n : ℕ). n ∷ []) (number-alone p bits are.digits (value a) (value b)
        (are.field.below a) (are.field.below b) (sym (are.bytes_are a) ∙ same ∙ are.bytes_are b))
        ∙ sym (are.numbers_are b);
  }

  -- the digest of an element, by its canonical bytes
  abbrev pub image_numbers : G → Digest
  image_numbers a = view.numbers_of (bytes_of_number (bytes_for bits) (x a))

  -- the number of the field that an element's coordinate is
  coordinate : (a : G) → (f : F) × (value f ≡ x a)
  coordinate a = are.field.made (x a) (are.below a)

  pub image-numbered : (a : G) → (f : F) × (view.numbers f ≡ image_numbers a)
  image-numbered a =
      let of = coordinate a in
      (of.0, are.read of.0 ∙ ap (λ n. view.numbers_of (bytes_of_number (bytes_for bits) n)) of.1)

  pub image-alone : (a b : G) → image_numbers a ≡ image_numbers b → a ≡ b
  unfolding image-numbered coordinate
  image-alone a b same =
      let of_a = image-numbered a in
      let of_b = image-numbered b in
      let one : value of_a.0 ≡ value of_b.0 =
      alone (sym (are.numbers_are of_a.0) ∙ of_a.1 ∙ same ∙ sym of_b.1 ∙ are.numbers_are of_b.0) in
      are.told a b (sym (coordinate a).1 ∙ one ∙ (coordinate b).1)

  -- the list of one coordinate is the digest of a number of the field
  pub coordinate-numbered : (a : G) → (f : F) × (view.numbers f ≡ x a ∷ [])
  coordinate-numbered a =
      let of = coordinate a in
      (of.0, are.numbers_are of.0 ∙ ap (λ (n : ℕ). n ∷ []) of.1)

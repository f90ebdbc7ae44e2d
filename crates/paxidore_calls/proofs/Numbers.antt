-- Elements are read and written by their numbers.
use Rattle.std.proofs.Common.{◌≡◌, ℕ, zero, suc, ◌*◌, ◌/◌, ◌<◌, List, [], ◌∷◌, length, map, take, drop, Ok, Err, refl, sym, ap, ◌∙◌, inl, inr, arith}
use Rattle.std.specs.List.{flat_map}
use Rattle.std.proofs.lemmas.List.{length-append, length-take-le}
use Rattle.std.specs.Int.{div_ceil}
use Rattle.std.proofs.lemmas.Grind.{div_ceil_times}
use Rattle.std.proofs.Math.Nat.{suc-mul}
use Rattle.ark_base.specs.declared.error.Error.{Error}
use Rattle.ark_base.specs.declared.error.Error.TheVariants.{SerializationError as OfBytes}
use Rattle.ark_base.specs.Digits.{bytes_of_number, below_at, bytes_for}
use Rattle.ark_base.specs.Outcome.{AnswersBy, Outcome, ◌>>=◌}
use Rattle.ark_base.specs.Reading.{Reading, reading_outcome}
use Rattle.ark_base.specs.Spelling.{items_at, made_at}
use Rattle.ark_groups.specs.Field.{ReadsNumbers}

module _ {F V : Type 0} (p bits : ℕ) (view : F → V) (reads : List ℕ → Reading V) (value : F → ℕ)
    (is : ReadsNumbers p bits view reads value) where
  abbrev numbers_at : List ℕ → Reading ℕ
  numbers_at = below_at p (bytes_for bits)

  -- what was read, its values as numbers
  abbrev numbered : Reading (List V) → Reading (List ℕ)
  numbered reading = reading >>= λ xs. Ok (map is.number xs.0, xs.1)

  abbrev number : Reading V → Reading ℕ
  number reading = reading >>= λ x. Ok (is.number x.0, x.1)

  one : (bytes : List ℕ) → number (reads bytes) ≡ numbers_at bytes
  unfolding made_at
  one bytes = is.reading bytes

  all : (count : ℕ) (bytes : List ℕ) → numbered (items_at reads count bytes) ≡ items_at numbers_at count bytes
  unfolding items_at
  all zero bytes = refl
  all (suc count) bytes = by_first (all count) (reads bytes) ∙ ap (λ
      (r : Reading ℕ). r >>= λ x. items_at numbers_at count x.1 >>=
      λ others. Ok (x.0 ∷ others.0, others.1)) (one bytes)
    where
      by_others : (v : V) (r : Reading (List V)) → numbered (r >>= λ others. Ok (v ∷ others.0, others.1))
          ≡ (numbered r >>= λ others. Ok (is.number v ∷ others.0, others.1))
      by_others v (Ok others) = refl
      by_others v (Err fault) = refl

      by_first : ((bytes : List ℕ) → numbered (items_at reads count bytes) ≡ items_at numbers_at count bytes)
          → (r : Reading V) → numbered (r >>= λ x. items_at reads count x.1 >>= λ others. Ok
          (x.0 ∷ others.0, others.1)) ≡ (number r >>= λ x. items_at numbers_at count x.1 >>=
          λ others. Ok (x.0 ∷ others.0, others.1))
      by_first behind (Ok x) = by_others x.0 (items_at reads count x.1) ∙ ap (λ (r : Reading
          (List ℕ)). r >>= λ others. Ok
          (is.number x.0 ∷ others.0, others.1)) (behind x.1)
      by_first behind (Err fault) = refl

  values : (xs : List F) → map is.number (map view xs) ≡ map value xs
  values [] = refl
  values (x ∷ xs) = rw (is.of_view x, values xs) refl

  -- elements that a call has read, as the reading of their numbers
  pub elements_read : (count : ℕ) (bytes rest : List ℕ) (xs : List F)
      → reading_outcome (items_at reads count bytes) ≡ Ok (map view xs, rest)
      → reading_outcome (items_at numbers_at count bytes) ≡ Ok (map value xs, rest)
  elements_read count bytes rest xs e =
      ap reading_outcome (sym (all count bytes)) ∙ by_reading (items_at reads count bytes) e
    where
      by_reading : (r : Reading (List V)) → reading_outcome r ≡ Ok (map view xs, rest)
          → reading_outcome (numbered r) ≡ Ok (map value xs, rest)
      by_reading (Ok x) h =
          let same : x ≡ (map view xs, rest) = cc in
          ap (λ (x : List V × List ℕ). reading_outcome (numbered (Ok x))) same ∙ rw (values xs) refl
      by_reading (Err fault) h = absurd cc

  -- their fault is that of the numbers
  pub elements_fault : (count : ℕ) (bytes : List ℕ) (error : Error)
      → reading_outcome (items_at reads count bytes) ≡ Err error
      → reading_outcome (items_at numbers_at count bytes) ≡ Err error
  elements_fault count bytes error e =
      ap reading_outcome (sym (all count bytes)) ∙ by_reading (items_at reads count bytes) e
    where
      by_reading : (r : Reading (List V)) → reading_outcome r ≡ Err error → reading_outcome (numbered r) ≡ Err error
      by_reading (Ok x) h = absurd cc
      by_reading (Err fault) h = let same : OfBytes fault ≡ error = cc in ap Err same

  -- what a call answers of elements, it answers of their numbers
  pub elements_answer : {A : Type 0} (count : ℕ) (bytes : List ℕ) (items : A → List F) (result : Outcome (A × ℕ))
      → AnswersBy (λ x. (map view (items x.0), drop x.1 bytes)) (reading_outcome (items_at reads count bytes)) result
      → AnswersBy (λ x. (map value (items x.0), drop x.1 bytes)) (reading_outcome (items_at numbers_at count bytes))
      result
  elements_answer count bytes items (Ok x) is = elements_read count bytes (drop x.1 bytes) (items x.0) is
  elements_answer count bytes items (Err error) (inl memory) = inl memory
  elements_answer count bytes items (Err error) (inr refused) = inr (elements_fault count bytes error refused)

-- the bytes of elements are those of their numbers
pub elements_spelled : {F V : Type 0} (view : F → V) (value : F → ℕ) (spell : V → List ℕ) (of_number : ℕ → List ℕ)
    → ((x : F) → spell (view x) ≡ of_number (value x)) → (xs : List F)
    → flat_map spell (map view xs) ≡ flat_map of_number (map value xs)
elements_spelled view value spell of_number is [] = refl
elements_spelled view value spell of_number is (x ∷ xs) =
    rw (is x, elements_spelled view value spell of_number is xs) refl

-- ---- lengths

length-bytes : (n number : ℕ) → length (bytes_of_number n number) ≡ n
unfolding bytes_of_number
length-bytes zero number = refl
length-bytes (suc n) number = ap suc (length-bytes n (number / 256))

-- so many bytes each
pub length-elements : (n : ℕ) (xs : List ℕ) → length (flat_map (bytes_of_number n) xs) ≡ length xs * n
length-elements n [] = omega arith
length-elements n (x ∷ xs) =
    omega (
      arith,
      length-append (bytes_of_number n x) (flat_map (bytes_of_number n) xs),
      length-bytes n x,
      length-elements n xs,
      suc-mul (length xs) n,
    )

-- of so many bytes a piece, and of as many pieces as hold n bytes, the first n
pub length-first : (n size : ℕ) (xs : List ℕ) → 0 < size → length xs ≡ div_ceil n size
    → length (take n (flat_map (bytes_of_number size) xs)) ≡ n
length-first n size xs some count =
    let whole : length (flat_map (bytes_of_number size) xs) ≡ div_ceil n size * size =
    length-elements size xs ∙ ap (λ (k : ℕ). k * size) count in
    length-take-le n (flat_map (bytes_of_number size) xs)
    (omega (arith, whole, (div_ceil_times n size some).0))

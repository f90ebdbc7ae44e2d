-- Parameters are written and read by way of elements, and their canonical bytes are those of numbers.
use Rattle.std.proofs.Common.{◌≡◌, ℕ, zero, suc, ◌<◌, List, [], ◌∷◌, map, Ok, Err, refl, sym, ap, ◌∙◌}
use Rattle.std.specs.List.{flat_map, AllByRecursion}
use Rattle.std.proofs.lemmas.List.{length-map}
use Rattle.ark_base.specs.declared.error.Error.{Error}
use Rattle.ark_base.specs.declared.error.Error.TheVariants.{SerializationError as OfBytes}
use Rattle.ark_base.specs.declared.error.SerializationError.TheVariants.{InvalidData}
use Rattle.ark_base.specs.Outcome.{◌>>=◌}
use Rattle.ark_base.specs.Reading.{Reading, reading_outcome}
use Rattle.ark_base.specs.Spelling.{word_at, IsCounted, counted_list, items_at, counted_list_at, then_at, both_at, made_at}
use Rattle.ark_base.specs.Digits.{IsBelow, below_at, bytes_for}
use Rattle.ark_groups.specs.Field.{ReadsNumbers}
use Rattle.ark_sponge.specs.ConfigBytes.{let_through, tested_at}
use Rattle.poseidon2.specs.Permutation.{Poseidon2Parameters, lawful_poseidon2}
use Rattle.poseidon2.specs.ConfigBytes.{Poseidon2Fields, of_poseidon2_fields, poseidon2_fields_at, poseidon2_at}

-- ---- readings whose values f turns into others

abbrev turned : {V W : Type 0} → (V → W) → Reading V → Reading W
turned f reading = reading >>= λ v. Ok (f v.0, v.1)

-- one reading is the other, turned
abbrev Turns : {V W : Type 0} → (V → W) → (List ℕ → Reading V) → (List ℕ → Reading W) → Type 0
Turns f reads reads' = (bytes : List ℕ) → turned f (reads bytes) ≡ reads' bytes

turned-same : {V : Type 0} (reading : Reading V) → turned (λ v. v) reading ≡ reading
turned-same (Ok v) = refl
turned-same (Err fault) = refl

-- a pair, each part turned
abbrev pair_of : {A B A' B' : Type 0} → (A → A') → (B → B') → A × B → A' × B'
pair_of f g p = (f p.0, g p.1)

-- a value, and behind it what is read
abbrev beside : {A B : Type 0} → A → Reading B → Reading (A × B)
beside {A} {B} a reading = reading >>= λ b. (let both : A × B = (a, b.0) in Ok (both, b.1))

module _ {A B A' B' : Type 0} (f : A → A') (g : B → B') (first : List ℕ → Reading A) (second : List ℕ → Reading B)
    (first' : List ℕ → Reading A') (second' : List ℕ → Reading B') (turns : Turns f first first')
    (turns' : Turns g second second') where
  both_turned : Turns (pair_of f g) (both_at first second) (both_at first' second')
  unfolding then_at made_at
  both_turned bytes = by_first (first bytes) ∙ ap (λ (r : Reading A'). r >>= λ a. beside a.0 (second' a.1))
      (turns bytes)
    where
      by_second : (a : A) (r : Reading B) → turned (pair_of f g) (beside a r) ≡ beside (f a) (turned g r)
      by_second a (Ok b) = refl
      by_second a (Err fault) = refl

      by_first : (r : Reading A) → turned (pair_of f g) (r >>= λ a. beside a.0 (second a.1))
          ≡ (turned f r >>= λ a. beside a.0 (second' a.1))
      by_first (Ok a) = by_second a.0 (second a.1) ∙ ap (λ (r : Reading B'). beside (f a.0) r) (turns' a.1)
      by_first (Err fault) = refl

module _ {V W : Type 0} (f : V → W) (reads : List ℕ → Reading V) (reads' : List ℕ → Reading W) (turns : Turns f reads
    reads') where
  items_turned : (count : ℕ) → Turns (map f) (items_at reads count) (items_at reads' count)
  unfolding items_at
  items_turned zero bytes = refl
  items_turned (suc count) bytes =
      by_first (items_turned count) (reads bytes) ∙ ap (λ (r : Reading W). r >>= λ x. items_at reads' count x.1 >>=
      λ others. Ok (x.0 ∷ others.0, others.1)) (turns bytes)
    where
      by_others : (v : V) (r : Reading (List V)) → turned (map f) (r >>= λ others. Ok (v ∷ others.0, others.1))
          ≡ (turned (map f) r >>= λ others. Ok (f v ∷ others.0, others.1))
      by_others v (Ok others) = refl
      by_others v (Err fault) = refl

      by_first : Turns (map f) (items_at reads count) (items_at reads' count) → (r : Reading V)
          → turned (map f) (r >>= λ x. items_at reads count x.1 >>= λ others. Ok (x.0 ∷ others.0, others.1))
          ≡ (turned f r >>= λ x. items_at reads' count x.1 >>= λ others. Ok (x.0 ∷ others.0, others.1))
      by_first before (Ok x) = by_others x.0 (items_at reads count x.1) ∙ ap (λ (r : Reading (List W)). r >>= λ others.
          Ok (f x.0 ∷ others.0, others.1)) (before x.1)
      by_first before (Err fault) = refl

  list_turned : Turns (map f) (counted_list_at reads) (counted_list_at reads')
  unfolding then_at
  list_turned bytes = by_count (word_at bytes)
    where
      by_count : (r : Reading ℕ) → turned (map f) (r >>= λ n. items_at reads n.0 n.1)
          ≡ (r >>= λ n. items_at reads' n.0 n.1)
      by_count (Ok n) = items_turned n.0 n.1
      by_count (Err fault) = refl

abbrev fields_turned_by : {V : Type 0} → (V → ℕ) → Poseidon2Fields V → Poseidon2Fields ℕ
fields_turned_by f x =
    (x.0, (map (map f) x.1.0, (map f x.1.1.0, (map (map f) x.1.1.1.0, map f x.1.1.1.1))))

fields_turned : {V : Type 0} (f : V → ℕ) (reads : List ℕ → Reading V) (reads' : List ℕ → Reading ℕ)
    → Turns f reads reads' → Turns (fields_turned_by f) (poseidon2_fields_at reads) (poseidon2_fields_at reads')
fields_turned f reads reads' turns =
    let row = list_turned f reads reads' turns in
    let rows = list_turned (map f) (counted_list_at reads) (counted_list_at reads') row in
    let number : Turns (λ n. n) word_at word_at = λ bytes. turned-same (word_at bytes) in
    both_turned (λ n. n) _ word_at _ word_at _ number (both_turned _ _ _ _ _ _ rows
    (both_turned _ _ _ _ _ _ row (both_turned _ _ _ _ _ _ rows row)))

-- ---- what is read

module _ {F V : Type 0} (p bits : ℕ) (view : F → V) (reads : List ℕ → Reading V) (value : F → ℕ)
    (is : ReadsNumbers p bits view reads value) where
  abbrev reads_below : List ℕ → Reading ℕ
  reads_below = below_at p (bytes_for bits)

  below_turned : Turns is.number reads reads_below
  unfolding made_at
  below_turned bytes = is.reading bytes

  -- what a call read of the fields, as a reading of numbers
  fields_read : (bytes : List ℕ) (v : Poseidon2Fields V) (rest : List ℕ)
      → reading_outcome (poseidon2_fields_at reads bytes) ≡ Ok (v, rest)
      → poseidon2_fields_at reads_below bytes ≡ Ok (fields_turned_by is.number v, rest)
  fields_read bytes v rest e = sym (fields_turned is.number reads reads_below below_turned bytes)
      ∙ by_reading (poseidon2_fields_at reads bytes) e
    where
      by_reading : (r : Reading (Poseidon2Fields V)) → reading_outcome r ≡ Ok (v, rest)
          → turned (fields_turned_by is.number) r ≡ Ok (fields_turned_by is.number v, rest)
      by_reading (Ok x) h = let same : x ≡ (v, rest) =
          cc in ap (λ (x : Poseidon2Fields V × List ℕ). Ok (fields_turned_by is.number x.0, x.1)) same
      by_reading (Err fault) h = absurd cc

  pub parameters_read : (bytes : List ℕ) (v : Poseidon2Fields V) (rest : List ℕ) (c : Poseidon2Parameters)
      → reading_outcome (poseidon2_fields_at reads bytes) ≡ Ok (v, rest)
      → lawful_poseidon2 (of_poseidon2_fields (fields_turned_by is.number v)) ≡ Ok c
      → poseidon2_at p bits bytes ≡ Ok (c, rest)
  unfolding tested_at made_at
  parameters_read bytes v rest c e lawful = rw (fields_read bytes v rest e, lawful) refl

  pub parameters_unfit : (bytes : List ℕ) (v : Poseidon2Fields V) (rest : List ℕ) (refusal : Error)
      → reading_outcome (poseidon2_fields_at reads bytes) ≡ Ok (v, rest)
      → lawful_poseidon2 (of_poseidon2_fields (fields_turned_by is.number v)) ≡ Err refusal
      → poseidon2_at p bits bytes ≡ Err InvalidData
  unfolding tested_at made_at
  parameters_unfit bytes v rest refusal e lawful = rw (fields_read bytes v rest e, lawful) refl

  -- what a reading of the fields makes of the parameters
  abbrev tested : Reading (Poseidon2Fields ℕ) → Reading Poseidon2Parameters
  tested r = turned of_poseidon2_fields r >>= λ v. let_through (lawful_poseidon2 v.0) v.1

  pub parameters_fault : (bytes : List ℕ) (refusal : Error)
      → reading_outcome (poseidon2_fields_at reads bytes) ≡ Err refusal
      → reading_outcome (poseidon2_at p bits bytes) ≡ Err refusal
  unfolding tested_at made_at
  parameters_fault bytes refusal e = by_reading (poseidon2_fields_at reads bytes) (fields_turned is.number reads
      reads_below below_turned bytes) e
    where
      by_reading : (r : Reading (Poseidon2Fields V))
          → turned (fields_turned_by is.number) r ≡ poseidon2_fields_at reads_below bytes
          → reading_outcome r ≡ Err refusal
          → reading_outcome (tested (poseidon2_fields_at reads_below bytes)) ≡ Err refusal
      by_reading (Ok x) same h = absurd cc
      by_reading (Err fault) same h =
          let same_fault : OfBytes fault ≡ refusal = cc in
          ap (λ r. reading_outcome (tested r)) (sym same) ∙ ap Err same_fault

  -- a list of elements, and rows, by their numbers
  pub list_numbers : (xs : List F) → map is.number (map view xs) ≡ map value xs
  list_numbers [] = refl
  list_numbers (x ∷ xs) = rw (is.of_view x, list_numbers xs) refl

  pub rows_numbers : {Row : Type 0} (items : Row → List F) (rows : List Row)
      → map (map is.number) (map (λ row. map view (items row)) rows) ≡ map (λ row. map value (items row)) rows
  rows_numbers items [] = refl
  rows_numbers {Row} items (row ∷ rows) =
      ap (λ (numbers : List ℕ). numbers ∷ map (map is.number) (map (λ (r : Row). map view (items r)) rows))
      (list_numbers (items row))
      ∙ ap (λ (rest : List (List ℕ)). map value (items row) ∷ rest) (rows_numbers items rows)

-- ---- what is written

module _ {F V : Type 0} (view : F → V) (value : F → ℕ) where
  -- a list has a spelling, since elements lie below the modulus
  pub list_fits : (p : ℕ) (fits : V → Type 0) → ((x : F) → value x < p) → (xs : List F) → IsCounted fits (map view xs)
      → IsCounted (IsBelow p) (map value xs)
  list_fits p fits below xs h = (rw (length-map xs value, ← length-map xs view) h.0, all_below xs)
    where
      all_below : (xs : List F) → AllByRecursion (IsBelow p) (map value xs)
      all_below [] = tt
      all_below (x ∷ xs) = (below x, all_below xs)

  -- and its spelling is that of the numbers
  pub list_spelled : (spell : V → List ℕ) (of_number : ℕ → List ℕ) → ((x : F) → spell (view x) ≡ of_number (value x))
      → (xs : List F) → counted_list spell (map view xs) ≡ counted_list of_number (map value xs)
  list_spelled spell of_number is xs = rw (length-map xs view, length-map xs value, texts xs) refl
    where
      texts : (xs : List F) → flat_map spell (map view xs) ≡ flat_map of_number (map value xs)
      texts [] = refl
      texts (x ∷ xs) = rw (is x, texts xs) refl

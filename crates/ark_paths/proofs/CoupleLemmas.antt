-- The neighbours in a row.
use Rattle.std.proofs.Common.{zero, suc, ◌≡◌, ℕ, ◌+◌, ◌-◌, ◌*◌, ◌/◌, ◌<◌, ◌≤◌, List, [], ◌∷◌, ◌++◌, length, map, get_or, Ok, Err, arith, refl, ap, sym, ◌∙◌}
use Rattle.std.proofs.lemmas.List.{length-map, get_or-map}
use Rattle.ark_base.specs.declared.error.Error.{Error}
use Rattle.ark_base.specs.Outcome.{Outcome, ◌>>=◌}
use Rattle.ark_paths.specs.Pair.{Digest}
use Rattle.ark_paths.specs.Rows.{couples, row_above}
use Rattle.ark_paths.proofs.ListOutcomes.{each-append, length-each, get_or-each, IsSoFar, IsSoFar-none, IsSoFar-more, IsSoFar-refused, IsSoFar-all}

pub length-couples : {A : Type 0} (xs : List A) → length (couples xs) ≡ length xs / 2
length-couples [] = refl
length-couples (a ∷ []) = refl
length-couples (a ∷ b ∷ rest) = let more = length-couples rest in omega arith

pub get_or-couples : {A : Type 0} (xs : List A) (i : ℕ) (d : A) (p : A × A) → i < length xs / 2 → get_or (couples xs) i
    p ≡ (get_or xs (2 * i) d, get_or xs (2 * i + 1) d)
get_or-couples [] i d p below = absurd (omega arith)
get_or-couples (a ∷ []) i d p below = absurd (omega arith)
get_or-couples (a ∷ b ∷ rest) zero d p below = refl
get_or-couples (a ∷ b ∷ rest) (suc i) d p below =
    let left : 2 * suc i ≡ suc (suc (2 * i)) = omega arith in
    let right : 2 * suc i + 1 ≡ suc (suc (2 * i + 1)) = omega arith in
    rw (right, left) (get_or-couples rest i d p (omega arith))

couples-append : {A : Type 0} (n : ℕ) (xs ys : List A) → length xs ≡ 2 * n → couples (xs ++ ys)
    ≡ couples xs ++ couples ys
couples-append n [] ys even = refl
couples-append n (a ∷ []) ys even = absurd (omega arith)
couples-append n (a ∷ b ∷ rest) ys even = ap (λ c. (a, b) ∷ c) (couples-append (n - 1) rest ys (omega arith))

module _ (hash : Digest → Digest → Outcome Digest) where
  pub paired-append : (n : ℕ) (xs ys : List Digest) → length xs ≡ 2 * n → row_above hash (xs ++ ys)
      ≡ (row_above hash xs >>= λ cs. row_above hash ys >>= λ ds. Ok (cs ++ ds))
  paired-append n xs ys even = rw (couples-append n xs ys even) (each-append (λ p. hash p.0 p.1) (couples xs)
      (couples ys))

  pub length-paired : (row above : List Digest) → row_above hash row ≡ Ok above → length above ≡ length row / 2
  length-paired row above e = length-each (λ p. hash p.0 p.1) (couples row) above e ∙ length-couples row

  -- a digest of a row is the hash of two of the row below
  pub get_or-paired : (row above : List Digest) (i : ℕ) → row_above hash row ≡ Ok above → i < length row / 2
      → hash (get_or row (2 * i) []) (get_or row (2 * i + 1) []) ≡ Ok (get_or above i [])
  get_or-paired row above i e below =
      let two = get_or-couples row i [] ([], []) below in
      let hashed = get_or-each (λ p. hash p.0 p.1) (couples row) above i ([], []) [] e
      (omega (arith, length-couples row)) in
      rw two at hashed

-- what two reads of a list give of its couples
module _ {A B : Type 0} (view : A → B) (xs : List A) where
  pub couple_read : (i : ℕ) (a b : A) → i < length xs / 2 → a ≡ get_or xs (2 * i) a → b ≡ get_or xs (2 * i + 1) b
      → (view a, view b) ≡ get_or (couples (map view xs)) i (view a, view b)
  couple_read i a b below a_is b_is =
      let same : length (map view xs) ≡ length xs = length-map xs view in
      let left : get_or (map view xs) (2 * i) (view a) ≡ view a =
      get_or-map view xs (2 * i) a (view a) (omega arith) ∙ ap view (sym a_is) in
      let right : get_or (map view xs) (2 * i + 1) (view a) ≡ view b =
      get_or-map view xs (2 * i + 1) b (view a) (omega arith) ∙ ap view (sym b_is) in
      sym (get_or-couples (map view xs) i (view a) (view a, view b) (omega arith) ∙ rw (left, right) refl)

-- Pairing a list of what has numbers, couple by couple.
module _ {A : Type 0} (hash : Digest → Digest → Outcome Digest) (numbers : A → Digest) (xs : List A) where
  -- the first couples are hashed
  abbrev pub ArePaired : ℕ → List Digest → Type 0
  ArePaired i done = IsSoFar (λ p. hash p.0 p.1) (couples (map numbers xs)) i done

  long : length (couples (map numbers xs)) ≡ length xs / 2
  long = length-couples (map numbers xs) ∙ ap (λ (n : ℕ). n / 2) (length-map xs numbers)

  pub ArePaired-none : ArePaired 0 []
  ArePaired-none = IsSoFar-none (λ p. hash p.0 p.1) (couples (map numbers xs))

  pub ArePaired-more : (i : ℕ) (a b : A) (done : List Digest) (d : Digest) → i < length xs / 2 → a ≡ get_or xs (2 * i) a
      → b ≡ get_or xs (2 * i + 1) b → ArePaired i done → hash (numbers a) (numbers b) ≡ Ok d → ArePaired (i + 1)
      (done ++ d ∷ [])
  ArePaired-more i a b done d below a_is b_is so hashed = IsSoFar-more (λ p. hash p.0 p.1) (couples (map numbers xs)) i
      (numbers a, numbers b) done d (rw long below) (couple_read numbers xs i a b below a_is b_is) so hashed

  pub ArePaired-refused : (i : ℕ) (a b : A) (done : List Digest) (e : Error) → i < length xs / 2 → a ≡ get_or xs (2 * i)
      a → b ≡ get_or xs (2 * i + 1) b → ArePaired i done → hash (numbers a) (numbers b) ≡ Err e → row_above hash
      (map numbers xs) ≡ Err e
  ArePaired-refused i a b done e below a_is b_is so refused = IsSoFar-refused (λ p. hash p.0 p.1)
      (couples (map numbers xs)) i (numbers a, numbers b) done e (rw long below)
      (couple_read numbers xs i a b below a_is b_is) so
      refused

  pub ArePaired-all : (i : ℕ) (done : List Digest) → length xs / 2 ≤ i → ArePaired i done → row_above hash
      (map numbers xs) ≡ Ok done
  ArePaired-all i done past so = IsSoFar-all (λ p. hash p.0 p.1) (couples (map numbers xs)) i done (rw long past) so

-- What is hashed ahead, and in runs.
use Rattle.std.proofs.Common.{zero, suc, ◌≡◌, ℕ, ◌+◌, ◌*◌, ◌/◌, ◌<◌, ◌≤◌, List, [], ◌∷◌, ◌++◌, length, map, take, drop, get_or, Ok, Err, refl, ap, sym, subst, ◌∙◌, arith, append_assoc}
use Rattle.std.proofs.lemmas.List.{length-map, length-take-le, map-append, take_all, take_more, take-append-drop, take-map, drop-map, drop-drop, get_or-map}
use Rattle.std.specs.declared.vec.Vec.{Vec}
use Rattle.ark_base.specs.declared.error.Error.{Error}
use Rattle.ark_base.specs.Outcome.{Outcome, ◌>>=◌}
use Rattle.ark_crh.specs.Ahead.{AreOfFirst, HashesAhead, of_couple}
use Rattle.ark_paths.specs.Pair.{Digest, bottom_pair, converted_couple}
use Rattle.ark_paths.specs.Root.{all_hashes}
use Rattle.ark_paths.specs.Rows.{couples, row_above}
use Rattle.ark_paths.proofs.CoupleLemmas.{ArePaired, couple_read, length-couples}
use Rattle.ark_paths.proofs.ListOutcomes.{begun, each-append, IsSoFar, IsSoFar-more, IsSoFar-refused}

pub begun-begun : {X : Type 0} (done more : List X) (o : Outcome (List X)) → begun done (begun more o)
    ≡ begun (done ++ more) o
begun-begun done more (Ok rest) = ap Ok (sym (append_assoc done more rest))
begun-begun done more (Err e) = refl

-- ---- the first ones

module _ {A B : Type 0} (hash : A → Outcome B) (xs : List A) where
  -- as many as a number says have these values
  abbrev pub HaveValues : ℕ → List B → Type 0
  HaveValues n values = map hash (take n xs) ≡ map Ok values

  values-more : (n : ℕ) (x : A) (values : List B) (v : B) → HaveValues n values → n < length xs → x ≡ get_or xs n x
      → hash x ≡ Ok v → HaveValues (n + 1) (values ++ v ∷ [])
  values-more n x values v so inside at is =
      ap (map hash) (take_more xs n x inside ∙ ap (λ y. take n xs ++ y ∷ []) (sym at))
      ∙ map-append hash (take n xs) (x ∷ []) ∙ (λ i. so i ++ is i ∷ []) ∙ sym (map-append Ok values (v ∷ []))

  values-first : (n : ℕ) (values : List B) → HaveValues n values → n ≤ length xs → AreOfFirst hash xs values
  values-first n values so inside =
      let long : length values ≡ n =
      sym (length-map values Ok) ∙ ap length (sym so) ∙ length-map (take n xs) hash ∙ length-take-le n xs inside in
      rw long so

-- the same of what is seen of a run
module _ {R A B : Type 0} (hash : A → Outcome B) (view : R → A) (run : List R) (n : ℕ) (values : List B)
    (so : HaveValues hash (map view run) n values) where
  pub values-next : (x : R) (v : B) → n < length run → x ≡ get_or run n x → hash (view x) ≡ Ok v
      → HaveValues hash (map view run) (n + 1) (values ++ v ∷ [])
  values-next x v inside at is =
      values-more hash (map view run) n (view x) values v so (omega (arith, inside, length-map run view))
      (sym (get_or-map view run n x (view x) inside ∙ ap view (sym at))) is

  pub values-of_first : n ≤ length run → AreOfFirst hash (map view run) values
  values-of_first inside =
      values-first hash (map view run) n values so (omega (arith, inside, length-map run view))

module _ {A : Type 0} (hash : A → Outcome Digest) where
  -- where each has a value, all have
  all-values : (xs : List A) (values : List Digest) → map hash xs ≡ map Ok values → all_hashes hash xs ≡ Ok values
  all-values [] [] is = refl
  all-values [] (v ∷ values) is = absurd cc
  all-values (x ∷ xs) [] is = absurd cc
  all-values (x ∷ xs) (v ∷ values) is =
      let here : hash x ≡ Ok v = cc in
      let others : map hash xs ≡ map Ok values = cc in
      rw (here, all-values xs values others) refl

  split : (n : ℕ) (xs : List A) → all_hashes hash xs
      ≡ (all_hashes hash (take n xs) >>= λ cs. all_hashes hash (drop n xs) >>= λ ds. Ok (cs ++ ds))
  split n xs = ap (all_hashes hash) (sym (take-append-drop n xs)) ∙ each-append hash (take n xs) (drop n xs)

  ahead-so_far : (xs : List A) (values : List Digest) → AreOfFirst hash xs values
      → IsSoFar hash xs (length values) values
  ahead-so_far xs values is =
      split (length values) xs ∙ rw (all-values (take (length values) xs) values is) refl

  module _ (xs : List A) (i n : ℕ) (done : List Digest) (so : IsSoFar hash xs i done) where
    pub so_far-run : (made : List Digest) → all_hashes hash (take n (drop i xs)) ≡ Ok made
        → IsSoFar hash xs (i + n) (done ++ made)
    so_far-run made is =
        so ∙ ap (begun done) (split n (drop i xs) ∙ rw (is, drop-drop n i xs) refl)
        ∙ begun-begun done made (all_hashes hash (drop (i + n) xs))

    pub so_far-run_refused : (e : Error) → all_hashes hash (take n (drop i xs)) ≡ Err e → all_hashes hash xs ≡ Err e
    so_far-run_refused e is =
        let rest : all_hashes hash (drop i xs) ≡ Err e = split n (drop i xs) ∙ rw is refl in
        so ∙ ap (begun done) rest

-- ---- a run, of which the first ones are hashed ahead

module _ {R A : Type 0} (hash : A → Outcome Digest) (view : R → A) (run : List R) where
  pub run-ahead : {D : Type 0} (numbers : D → Digest) (digests : List D)
      → AreOfFirst hash (map view run) (map numbers digests)
      → IsSoFar hash (map view run) (length digests) (map numbers digests)
  run-ahead numbers digests is =
      subst (λ (n : ℕ). IsSoFar hash (map view run) n (map numbers digests)) (length-map digests numbers)
      (ahead-so_far hash (map view run) (map numbers digests) is)

  module _ (i : ℕ) (done : List Digest) (so : IsSoFar hash (map view run) i done) (x : R) (inside : i < length run)
      (at : x ≡ get_or run i x) where
    within : i < length (map view run)
    within = omega (arith, inside, length-map run view)

    here : view x ≡ get_or (map view run) i (view x)
    here = sym (get_or-map view run i x (view x) inside ∙ ap view (sym at))

    pub run-more : (d : Digest) → hash (view x) ≡ Ok d → IsSoFar hash (map view run) (i + 1) (done ++ d ∷ [])
    run-more d is = IsSoFar-more hash (map view run) i (view x) done d within here so is

    pub run-refused : (e : Error) → hash (view x) ≡ Err e → all_hashes hash (map view run) ≡ Err e
    run-refused e is = IsSoFar-refused hash (map view run) i (view x) done e within here so is

-- ---- couples

module _ {A : Type 0} where
  couples-drop : (i : ℕ) (xs : List A) → couples (drop (2 * i) xs) ≡ drop i (couples xs)
  couples-drop zero xs = refl
  couples-drop (suc i) [] = let e : 2 * suc i ≡ suc (suc (2 * i)) = omega arith in rw e refl
  couples-drop (suc i) (a ∷ []) = let e : 2 * suc i ≡ suc (suc (2 * i)) = omega arith in rw e refl
  couples-drop (suc i) (a ∷ b ∷ xs) = let e : 2 * suc i ≡ suc (suc (2 * i)) = omega arith in rw e (couples-drop i xs)

  couples-take : (n : ℕ) (xs : List A) → couples (take (2 * n) xs) ≡ take n (couples xs)
  couples-take zero xs = refl
  couples-take (suc n) [] = let e : 2 * suc n ≡ suc (suc (2 * n)) = omega arith in rw e refl
  couples-take (suc n) (a ∷ []) = let e : 2 * suc n ≡ suc (suc (2 * n)) = omega arith in rw e refl
  couples-take (suc n) (a ∷ b ∷ xs) =
      let e : 2 * suc n ≡ suc (suc (2 * n)) = omega arith in rw e (ap (λ cs. (a, b) ∷ cs) (couples-take n xs))

  -- the next neighbours in a row
  pub neighbours-more : {B : Type 0} (view : A → B) (xs : List A) (i : ℕ) (a b : A) → i < length xs / 2
      → a ≡ get_or xs (2 * i) a → b ≡ get_or xs (2 * i + 1) b
      → take (i + 1) (couples (map view xs)) ≡ take i (couples (map view xs)) ++ (view a, view b) ∷ []
  neighbours-more view xs i a b inside at_a at_b =
      let long : length (couples (map view xs)) ≡ length xs / 2 =
      length-couples (map view xs) ∙ ap (λ (n : ℕ). n / 2) (length-map xs view) in
      take_more (couples (map view xs)) i (view a, view b) (omega (arith, inside, long))
      ∙ ap (λ c. take i (couples (map view xs)) ++ c ∷ []) (sym (couple_read view xs i a b inside at_a at_b))

  pub neighbours-all : {B : Type 0} (view : A → B) (xs : List A) (i : ℕ) → length xs / 2 ≤ i
      → take i (couples (map view xs)) ≡ couples (map view xs)
  neighbours-all view xs i past =
      take_all i (couples (map view xs))
      (omega (arith, past, length-couples (map view xs) ∙ ap (λ (n : ℕ). n / 2) (length-map xs view)))

  -- the couples in a part of a row
  couples-part : (i n : ℕ) (xs : List A) → couples (take (2 * n) (drop (2 * i) xs)) ≡ take n (drop i (couples xs))
  couples-part i n xs = couples-take n (drop (2 * i) xs) ∙ ap (take n) (couples-drop i xs)

-- the next couples of a row, after those that are hashed
module _ {A : Type 0} (hash : Digest → Digest → Outcome Digest) (numbers : A → Digest) (xs : List A) (i n : ℕ)
    (done : List Digest) (so : ArePaired hash numbers xs i done) where
  part-seen : couples (map numbers (take (2 * n) (drop (2 * i) xs))) ≡ take n (drop i (couples (map numbers xs)))
  part-seen =
      ap couples (sym (ap (take (2 * n)) (drop-map numbers (2 * i) xs) ∙ take-map numbers (2 * n) (drop (2 * i) xs)))
      ∙ couples-part i n (map numbers xs)

  pub paired-run : (made : List Digest) → row_above hash (map numbers (take (2 * n) (drop (2 * i) xs))) ≡ Ok made
      → ArePaired hash numbers xs (i + n) (done ++ made)
  paired-run made is =
      so_far-run (λ p. hash p.0 p.1) (couples (map numbers xs)) i n done so made
      (ap (all_hashes (λ p. hash p.0 p.1)) (sym part-seen) ∙ is)

  pub paired-run_refused : (e : Error) → row_above hash (map numbers (take (2 * n) (drop (2 * i) xs))) ≡ Err e
      → row_above hash (map numbers xs) ≡ Err e
  paired-run_refused e is =
      so_far-run_refused (λ p. hash p.0 p.1) (couples (map numbers xs)) i n done so e
      (ap (all_hashes (λ p. hash p.0 p.1)) (sym part-seen) ∙ is)

-- ---- couples that are converted before they are hashed

module _ (conversion : Digest → Outcome Digest) (evaluated : Digest → Digest → Outcome Digest) where
  both : (o p : Outcome Digest) (c : Digest × Digest) → (o >>= λ x. p >>= λ y. Ok (x, y)) ≡ Ok c
      → (o >>= λ x. p >>= λ y. evaluated x y) ≡ evaluated c.0 c.1
  both (Ok x) (Ok y) c is = let same : (x, y) ≡ c = cc in ap (λ q. evaluated q.0 q.1) same
  both (Ok x) (Err e) c is = absurd cc
  both (Err e) p c is = absurd cc

  converted-ahead : (items inputs : List (Digest × Digest)) (digests : List Digest)
      → AreOfFirst (converted_couple conversion) items inputs → AreOfFirst (of_couple evaluated) inputs digests
      → AreOfFirst (of_couple (bottom_pair conversion evaluated)) items digests
  converted-ahead items inputs [] converts hashes = refl
  converted-ahead items [] (d ∷ digests) converts hashes = absurd cc
  converted-ahead [] (c ∷ inputs) (d ∷ digests) converts hashes = absurd cc
  converted-ahead (p ∷ items) (c ∷ inputs) (d ∷ digests) converts hashes =
      let here : converted_couple conversion p ≡ Ok c = cc in
      let others : AreOfFirst (converted_couple conversion) items inputs = cc in
      let digest : evaluated c.0 c.1 ≡ Ok d = cc in
      let more : AreOfFirst (of_couple evaluated) inputs digests = cc in
      let first : bottom_pair conversion evaluated p.0 p.1 ≡ Ok d =
      both (conversion p.0) (conversion p.1) c here ∙ digest in
      (λ i. first i ∷ converted-ahead items inputs digests others more i)

  pub converted-run : {D Z : Type 0} (numbers : D → Digest) (items inputs run : List (Digest × Digest))
      (result : Outcome (Vec D Z)) → AreOfFirst (converted_couple conversion) items inputs → inputs ≡ run
      → HashesAhead numbers (of_couple evaluated) run result
      → HashesAhead numbers (of_couple (bottom_pair conversion evaluated)) items result
  converted-run numbers items inputs run (Ok made) converts same hashes =
      converted-ahead items run (map numbers made.items)
      (subst (AreOfFirst (converted_couple conversion) items) same converts) hashes
  converted-run numbers items inputs run (Err e) converts same memory = memory

-- Runs of changes that are hashed together.
use Rattle.std.proofs.Common.{◌≡◌, ℕ, ◌+◌, ◌<◌, List, [], ◌∷◌, ◌++◌, length, map, take, get_or, Ok, Err, refl, ap, sym, subst, ◌∙◌, arith, append_assoc}
use Rattle.std.proofs.lemmas.List.{length-take-le, map-append, take_more}
use Rattle.std.specs.List.{zip}
use Rattle.ark_base.specs.declared.error.Error.{Error}
use Rattle.ark_base.specs.Outcome.{Outcome, ◌>>=◌}
use Rattle.ark_paths.specs.Pair.{Digest}
use Rattle.ark_paths.specs.Root.{all_hashes}
use Rattle.ark_paths.proofs.Ahead.{begun-begun}
use Rattle.ark_paths.proofs.ListOutcomes.{begun, begun-nil, each-cons}
use Rattle.ark_merkle.specs.Batch.{hashed_changes}
use Rattle.ark_merkle.proofs.Batches.{AreHashedSoFar}

module _ {A : Type 0} (hash : A → Outcome Digest) (others : List (ℕ × A)) where
  cons-begun : (c : ℕ × Digest) (done : List (ℕ × Digest)) (o : Outcome (List (ℕ × Digest)))
      → (begun done o >>= λ more. Ok (c ∷ more)) ≡ begun (c ∷ done) o
  cons-begun c done (Ok more) = refl
  cons-begun c done (Err e) = refl

  -- a run with its places, and the changes behind it
  run-hashed : (places : List ℕ) (items : List A) (digests : List Digest) → length places ≡ length items
      → all_hashes hash items ≡ Ok digests
      → hashed_changes hash (zip places items ++ others) ≡ begun (zip places digests) (hashed_changes hash others)
  run-hashed [] [] digests same is =
      let none : [] ≡ digests = cc in
      subst (λ (ds : List Digest). hashed_changes hash others ≡ begun (zip [] ds) (hashed_changes hash others)) none
      (begun-nil (hashed_changes hash others))
  run-hashed [] (x ∷ items) digests same is = absurd (omega arith)
  run-hashed (p ∷ places) [] digests same is = absurd (omega arith)
  run-hashed (p ∷ places) (x ∷ items) digests same is =
      let f = each-cons hash x items digests is in
      rw (← f.digests_are, f.digest_is, run-hashed places items f.others (omega arith) f.others_are)
      (cons-begun (p, f.digest) (zip places f.others) (hashed_changes hash others))

  run-refused : (places : List ℕ) (items : List A) (e : Error) → length places ≡ length items
      → all_hashes hash items ≡ Err e → hashed_changes hash (zip places items ++ others) ≡ Err e
  run-refused [] [] e same is = absurd cc
  run-refused [] (x ∷ items) e same is = absurd (omega arith)
  run-refused (p ∷ places) [] e same is = absurd (omega arith)
  run-refused (p ∷ places) (x ∷ items) e same is =
      by_first (hash x) (all_hashes hash items) refl refl is (run-refused places items e (omega arith))
    where
      by_first : (o : Outcome Digest) (q : Outcome (List Digest)) → hash x ≡ o → all_hashes hash items ≡ q
          → (o >>= λ d. q >>= λ ds. Ok (d ∷ ds)) ≡ Err e
          → (all_hashes hash items ≡ Err e → hashed_changes hash (zip places items ++ others) ≡ Err e)
          → hashed_changes hash ((p, x) ∷ (zip places items ++ others)) ≡ Err e
      by_first (Err f) q first rest is later = rw first (ap Err cc)
      by_first (Ok d) (Err f) first rest is later =
          let same_error : f ≡ e = cc in
          rw (first, later (rest ∙ ap Err same_error)) refl
      by_first (Ok d) (Ok ds) first rest is later = absurd cc

-- the next changes, after those that are hashed
module _ {A : Type 0} (hash : A → Outcome Digest) (cs : List (ℕ × A)) (done : List (ℕ × Digest)) (places : List ℕ)
    (items : List A) (others : List (ℕ × A)) (same : length places ≡ length items)
    (so : AreHashedSoFar hash cs done (zip places items ++ others)) where
  pub hashed_so_far-run : (digests : List Digest) → all_hashes hash items ≡ Ok digests
      → AreHashedSoFar hash cs (done ++ zip places digests) others
  hashed_so_far-run digests is =
      so ∙ ap (begun done) (run-hashed hash others places items digests same is)
      ∙ begun-begun done (zip places digests) (hashed_changes hash others)

  pub hashed_so_far-run_refused : (e : Error) → all_hashes hash items ≡ Err e → hashed_changes hash cs ≡ Err e
  hashed_so_far-run_refused e is = so ∙ ap (begun done) (run-refused hash others places items e same is)

-- ---- two lists that grow side by side

module _ {A B : Type 0} where
  zip-more : (ps : List A) (xs : List B) (p : A) (x : B) → length ps ≡ length xs
      → zip (ps ++ p ∷ []) (xs ++ x ∷ []) ≡ zip ps xs ++ (p, x) ∷ []
  zip-more [] [] p x same = refl
  zip-more [] (y ∷ xs) p x same = absurd (omega arith)
  zip-more (q ∷ ps) [] p x same = absurd (omega arith)
  zip-more (q ∷ ps) (y ∷ xs) p x same = ap (λ c. (q, y) ∷ c) (zip-more ps xs p x (omega arith))

  -- the next of what is left is taken
  pub zip-taken : (whole old rest : List (A × B)) (ps : List A) (xs : List B) (p : A) (x : B) → whole ≡ zip ps xs ++ old
      → old ≡ (p, x) ∷ rest → length ps ≡ length xs → whole ≡ zip (ps ++ p ∷ []) (xs ++ x ∷ []) ++ rest
  zip-taken whole old rest ps xs p x so next same =
      so ∙ ap (λ c. zip ps xs ++ c) next ∙ sym (append_assoc (zip ps xs) ((p, x) ∷ []) rest)
      ∙ ap (λ c. c ++ rest) (sym (zip-more ps xs p x same))

  -- the next of a list is parted
  pub zip-parted : {R : Type 0} (f : R → A × B) (run : List R) (n : ℕ) (r : R) (ps : List A) (xs : List B) (p : A)
      (x : B)
      → zip ps xs ≡ map f (take n run) → length ps ≡ length xs → n < length run → r ≡ get_or run n r → f r ≡ (p, x)
      → zip (ps ++ p ∷ []) (xs ++ x ∷ []) ≡ map f (take (n + 1) run)
  zip-parted f run n r ps xs p x so same inside at is =
      zip-more ps xs p x same ∙ (λ i. so i ++ sym is i ∷ []) ∙ sym (map-append f (take n run) (r ∷ []))
      ∙ ap (map f) (sym (take_more run n r inside ∙ ap (λ y. take n run ++ y ∷ []) (sym at)))

-- the next digest is put behind others, with its place
pub zip-pushed : (old done : List (ℕ × Digest)) (places : List ℕ) (n : ℕ) (ds : List Digest) (d : Digest)
    → done ≡ old ++ zip (take n places) ds → n ≡ length ds → n < length places
    → done ++ (get_or places n 0, d) ∷ [] ≡ old ++ zip (take (n + 1) places) (ds ++ d ∷ [])
zip-pushed old done places n ds d so count inside =
    ap (λ c. c ++ (get_or places n 0, d) ∷ []) so
    ∙ append_assoc old (zip (take n places) ds) ((get_or places n 0, d) ∷ [])
    ∙ ap (λ c. old ++ c) (sym (zip-more (take n places) ds (get_or places n 0) d
    (omega (arith, count, length-take-le n places (omega (arith, inside))))))
    ∙ ap (λ ps. old ++ zip ps (ds ++ d ∷ [])) (sym (take_more places n 0 inside))

-- Hashing one after the other.
use Rattle.std.proofs.Common.{zero, suc, ◌≡◌, ℕ, ◌+◌, ◌<◌, ◌≤◌, List, [], ◌∷◌, ◌++◌, length, drop, get_or, Ok, Err, arith, refl, ap, sym, ◌∙◌, append_assoc, append-nil}
use Rattle.std.proofs.lemmas.List.{drop_more, drop_all}
use Rattle.ark_base.specs.declared.error.Error.{Error}
use Rattle.ark_base.specs.Outcome.{Outcome, ◌>>=◌}
use Rattle.ark_base.specs.Laws.Steps.{bind_ok, done_injective}
use Rattle.ark_paths.specs.Pair.{Digest}
use Rattle.ark_paths.specs.Root.{all_hashes}

-- a list that is begun, and the rest of it
abbrev pub begun : {X : Type 0} → List X → Outcome (List X) → Outcome (List X)
begun done rest = rest >>= λ more. Ok (done ++ more)

pub begun-nil : {X : Type 0} (o : Outcome (List X)) → o ≡ begun [] o
begun-nil (Ok xs) = refl
begun-nil (Err e) = refl

pub begun-more : {X : Type 0} (done : List X) (x : X) (o : Outcome (List X)) → begun done (o >>= λ xs. Ok (x ∷ xs))
    ≡ begun (done ++ x ∷ []) o
begun-more done x (Ok xs) = ap Ok (sym (append_assoc done (x ∷ []) xs))
begun-more done x (Err e) = refl

module _ {A : Type 0} (hash : A → Outcome Digest) (xs : List A) where
  -- those before place i are hashed
  abbrev pub IsSoFar : ℕ → List Digest → Type 0
  IsSoFar i done = all_hashes hash xs ≡ begun done (all_hashes hash (drop i xs))

  each-here : (i : ℕ) (x : A) → i < length xs → x ≡ get_or xs i x → all_hashes hash (drop i xs)
      ≡ (hash x >>= λ d. all_hashes hash (drop (i + 1) xs) >>= λ ds. Ok (d ∷ ds))
  each-here i x in_range is = let e : drop i xs ≡ get_or xs i x ∷ drop (i + 1) xs =
      drop_more xs i x in_range in rw (e, ← is) refl

  pub IsSoFar-none : IsSoFar 0 []
  IsSoFar-none = begun-nil (all_hashes hash xs)

  pub IsSoFar-more : (i : ℕ) (x : A) (done : List Digest) (d : Digest) → i < length xs → x ≡ get_or xs i x
      → IsSoFar i done → hash x ≡ Ok d → IsSoFar (i + 1) (done ++ d ∷ [])
  IsSoFar-more i x done d in_range is so hashed =
      so ∙ rw (each-here i x in_range is, hashed) (begun-more done d (all_hashes hash (drop (i + 1) xs)))

  pub IsSoFar-refused : (i : ℕ) (x : A) (done : List Digest) (e : Error) → i < length xs → x ≡ get_or xs i x
      → IsSoFar i done → hash x ≡ Err e → all_hashes hash xs ≡ Err e
  IsSoFar-refused i x done e in_range is so refused = so ∙ rw (each-here i x in_range is, refused) refl

  pub IsSoFar-all : (i : ℕ) (done : List Digest) → length xs ≤ i → IsSoFar i done → all_hashes hash xs ≡ Ok done
  IsSoFar-all i done past so = so ∙ rw (drop_all i xs past) (ap Ok (append-nil done))

each-append_step : (o : Outcome Digest) (p q : Outcome (List Digest))
    → (o >>= λ c. (p >>= λ cs. q >>= λ ds. Ok (cs ++ ds)) >>= λ cs. Ok (c ∷ cs)) ≡ ((o >>= λ c. p >>= λ cs. Ok (c ∷ cs))
    >>= λ cs. q >>= λ ds. Ok (cs ++ ds))
each-append_step (Err e) p q = refl
each-append_step (Ok c) (Err e) q = refl
each-append_step (Ok c) (Ok cs) (Err e) = refl
each-append_step (Ok c) (Ok cs) (Ok ds) = refl

pub each-append : {A : Type 0} (hash : A → Outcome Digest) (xs ys : List A) → all_hashes hash (xs ++ ys)
    ≡ (all_hashes hash xs >>= λ cs. all_hashes hash ys >>= λ ds. Ok (cs ++ ds))
each-append hash [] ys = begun-nil (all_hashes hash ys)
each-append hash (x ∷ xs) ys = rw (each-append hash xs ys) (each-append_step (hash x) (all_hashes hash xs)
    (all_hashes hash ys))

-- the digests of a list, first and others
pub record First {A : Type 0} (hash : A → Outcome Digest) (x : A) (xs : List A) (digests : List Digest) : Type 0 where
  pub digest : Digest
  pub others : List Digest
  pub digest_is : hash x ≡ Ok digest
  pub others_are : all_hashes hash xs ≡ Ok others
  pub digests_are : digest ∷ others ≡ digests

pub each-cons : {A : Type 0} (hash : A → Outcome Digest) (x : A) (xs : List A) (digests : List Digest) → all_hashes hash
    (x ∷ xs) ≡ Ok digests → First hash x xs digests
each-cons hash x xs digests e =
    let first = bind_ok (hash x) (λ d. all_hashes hash xs >>= λ ds. Ok (d ∷ ds)) digests e in
    let others = bind_ok (all_hashes hash xs) (λ ds. Ok (first.0 ∷ ds)) digests first.2 in
    record {
      digest = first.0;
      others = others.0;
      digest_is = first.1;
      others_are = others.1;
      digests_are =
          done_injective (first.0 ∷ others.0) digests others.2;
    }

pub length-each : {A : Type 0} (hash : A → Outcome Digest) (xs : List A) (digests : List Digest) → all_hashes hash xs
    ≡ Ok digests → length digests ≡ length xs
length-each hash [] digests e = let same : [] ≡ digests = cc in rw (← same) refl
length-each hash (x ∷ xs) digests e = let f =
    each-cons hash x xs digests e in rw (← f.digests_are) (ap suc (length-each hash xs f.others f.others_are))

pub get_or-each : {A : Type 0} (hash : A → Outcome Digest) (xs : List A) (digests : List Digest) (i : ℕ) (x : A)
    (d : Digest) → all_hashes hash xs ≡ Ok digests → i < length xs → hash (get_or xs i x) ≡ Ok (get_or digests i d)
get_or-each hash [] digests i x d e below = absurd (omega arith)
get_or-each hash (y ∷ xs) digests zero x d e below = let f =
    each-cons hash y xs digests e in rw (← f.digests_are) f.digest_is
get_or-each hash (y ∷ xs) digests (suc i) x d e below = let f = each-cons hash y xs digests e in rw (← f.digests_are)
    (get_or-each hash xs f.others i x d f.others_are (omega arith))

-- Lists that grow by an element, seen by a function.
use Rattle.std.proofs.Common.{zero, suc, ◌≡◌, ℕ, ◌<◌, Bool, true, false, ◌||◌, List, [], ◌∷◌, ◌++◌, All, length, map, take, get_or, refl, ap, sym, subst, ◌∙◌, arith}
use Rattle.std.specs.List.{filter, list_any}
use Rattle.signed_notes.proofs.ReadBack.{all-cons, all-nil}

pub all-more : {A B : Type 0} (P : B → Type 0) (f : A → B) (xs : List A) (i : ℕ) (x : A) → i < length xs
    → x ≡ get_or xs i x → All P (map f (take i xs)) → P (f x) → All P (map f (take (suc i) xs))
all-more P f [] i x inside is all here = absurd (omega arith)
all-more P f (y ∷ xs) zero x inside is all here =
    all-cons P (f y) [] (subst (λ z. P (f z)) is here) (all-nil P)
all-more P f (y ∷ xs) (suc i) x inside is all here =
    all-cons P (f y) (map f (take (suc i) xs)) (all 0 (f y) (omega arith))
    (all-more P f xs i x (omega arith) is (λ k d below. all (suc k) d (omega arith)) here)

pub all-item : {A B : Type 0} (P : B → Type 0) (f : A → B) (xs : List A) (i : ℕ) (x : A) → i < length xs
    → x ≡ get_or xs i x → All P (map f xs) → P (f x)
all-item P f [] i x inside is all = absurd (omega arith)
all-item P f (y ∷ xs) zero x inside is all = subst (λ z. P (f z)) (sym is) (all 0 (f y) (omega arith))
all-item P f (y ∷ xs) (suc i) x inside is all =
    all-item P f xs i x (omega arith) is (λ k d below. all (suc k) d (omega arith))

or-none : (test : Bool) → (test || false) ≡ (false || test)
or-none true = refl
or-none false = refl

or-assoc : (a b c : Bool) → (a || (b || c)) ≡ ((a || b) || c)
or-assoc true b c = refl
or-assoc false b c = refl

pub any-more : {A B : Type 0} (test : B → Bool) (f : A → B) (xs : List A) (i : ℕ) (x : A) → i < length xs
    → x ≡ get_or xs i x → list_any test (map f (take (suc i) xs)) ≡ (list_any test (map f (take i xs)) || test (f x))
any-more test f [] i x inside is = absurd (omega arith)
any-more test f (y ∷ xs) zero x inside is = ap (λ z. test (f z) || false) (sym is) ∙ or-none (test (f x))
any-more test f (y ∷ xs) (suc i) x inside is =
    ap (λ rest. test (f y) || rest) (any-more test f xs i x (omega arith) is)
    ∙ or-assoc (test (f y)) (list_any test (map f (take i xs))) (test (f x))

pub map-more : {A B C : Type 0} (g : B → C) (f : A → B) (xs : List A) (i : ℕ) (x : A) → i < length xs
    → x ≡ get_or xs i x → map g (map f (take (suc i) xs)) ≡ map g (map f (take i xs)) ++ (g (f x) ∷ [])
map-more g f [] i x inside is = absurd (omega arith)
map-more g f (y ∷ xs) zero x inside is = ap (λ z. g (f z) ∷ []) (sym is)
map-more g f (y ∷ xs) (suc i) x inside is = ap (λ rest. g (f y) ∷ rest) (map-more g f xs i x (omega arith) is)

-- an item at which the test is true stays, another goes
pub filter-keeps : {A : Type 0} (p : A → Bool) (x : A) (xs : List A) → p x ≡ true
    → filter p (x ∷ xs) ≡ x ∷ filter p xs
filter-keeps p x xs e = rw (e) refl

pub filter-skips : {A : Type 0} (p : A → Bool) (x : A) (xs : List A) → p x ≡ false
    → filter p (x ∷ xs) ≡ filter p xs
filter-skips p x xs e = rw (e) refl

-- what is left of values is what is left of what they are seen as
pub filter-seen : {A B : Type 0} (f : A → B) (p : B → Bool) (xs : List A)
    → map f (filter (λ x. p (f x)) xs) ≡ filter p (map f xs)
filter-seen f p [] = refl
filter-seen f p (x ∷ xs) = by_test (p (f x)) refl (filter-seen f p xs)
  where
    by_test : (t : Bool) → p (f x) ≡ t → map f (filter (λ y. p (f y)) xs) ≡ filter p (map f xs)
        → map f (filter (λ y. p (f y)) (x ∷ xs)) ≡ filter p (f x ∷ map f xs)
    by_test true e rest = rw (e) (ap (λ ys. f x ∷ ys) rest)
    by_test false e rest = rw (e) rest

pub nothing-long : {A : Type 0} (xs : List A) → length xs ≡ 0 → xs ≡ []
nothing-long [] e = refl
nothing-long (x ∷ xs) e = absurd (omega (arith, e))

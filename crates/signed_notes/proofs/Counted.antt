-- Keys that are counted once, as a list of them grows.
use Rattle.std.proofs.Common.{zero, suc, ◌≡◌, ℕ, ◌<◌, Bool, true, false, not, ◌&&◌, ◌||◌, if◌then◌else◌, List, [], ◌∷◌, ◌++◌, length, map, take, get_or, All, refl, ap, ap₂, sym, ◌∙◌, arith, append-nil, inl, inr}
use Rattle.std.proofs.lemmas.Bool.{cases_Bool, eqb-true, not-true}
use Rattle.std.specs.Prelude.{◌==◌}
use Rattle.std.proofs.lemmas.List.Elements.{All-filter, filter-append, filter_passes}
use Rattle.std.proofs.lemmas.List.Kept.{AllPairs-cons, AllPairs-filter}
use Rattle.std.proofs.lemmas.Map.Views.{any-filter_same}
use Rattle.std.proofs.lemmas.Slice.Eq.{bytes_eq-Decides}
use Rattle.std.specs.List.{filter, list_any}
use Rattle.std.specs.Str.{bytes_eq}
use Rattle.signed_notes.proofs.ReadBack.{all-cons}
use Rattle.signed_notes.specs.Counting.{lists_key, is_one_key, key_added, keys_once, named_keys, AreOtherKeys}
use Rattle.signed_notes.specs.Keys.{KeyParts}
use Rattle.signed_notes.specs.Notes.{SignatureParts}
use Rattle.signed_notes.specs.Verifying.{is_named}

both-true : (a b : Bool) → (a && b) ≡ true → (a ≡ true) × (b ≡ true)
both-true true true e = (refl, refl)
both-true true false e = absurd cc
both-true false b e = absurd cc

-- Keys that are one have the same parts.
pub one-parts : (a b : KeyParts) → is_one_key a b ≡ true → (a.algorithm ≡ b.algorithm) × (a.bytes ≡ b.bytes)
one-parts a b e =
    let both = both-true _ _ e in
    (eqb-true a.algorithm b.algorithm both.0, (bytes_eq-Decides a.bytes b.bytes).0 both.1)

-- Of two keys that are one, both are one with the same keys.
pub one-same : (a b key : KeyParts) → is_one_key a b ≡ true → is_one_key a key ≡ is_one_key b key
one-same a b key e =
    let same = one-parts a b e in
    ap₂ (λ (n : ℕ) (bytes : List ℕ). (n == key.algorithm) && bytes_eq bytes key.bytes) same.0 same.1

-- another key than the first
abbrev apart-from : KeyParts → KeyParts → Bool
apart-from first other = not (is_one_key first other)

-- Where each key is listed once no other key is there, and none is missing.
pub has-once : (keys : List KeyParts) (key : KeyParts) → lists_key (keys_once keys) key ≡ lists_key keys key
has-once [] key = refl
has-once (first ∷ more) key = by (has-once more key) (is_one_key first key) refl
  where
    others : is_one_key first key ≡ false → (other : KeyParts) → is_one_key other key ≡ true
        → apart-from first other ≡ true
    others differ other is = elim (cases_Bool (is_one_key first other)) [
      | inl same ↦ let both = sym differ ∙ one-same first other key same ∙ is in absurd cc
      | inr not_same ↦ ap not not_same
    ]

    by : lists_key (keys_once more) key ≡ lists_key more key → (is : Bool) → is_one_key first key ≡ is
        → lists_key (keys_once (first ∷ more)) key ≡ lists_key (first ∷ more) key
    by rest true is = rw (is) refl
    by rest false is =
        ap (λ any. is_one_key first key || any)
        (any-filter_same (λ one. is_one_key one key) (apart-from first) true (others is) (keys_once more) ∙ rest)

pub all-once : (P : KeyParts → Type 0) (keys : List KeyParts) → All P keys → All P (keys_once keys)
all-once P [] all = all
all-once P (first ∷ more) all =
    all-cons P first (filter (apart-from first) (keys_once more)) (all 0 first (omega arith))
    (All-filter (apart-from first) P (keys_once more) (all-once P more (λ k d below. all (suc k) d (omega arith))))

pub once-apart : (keys : List KeyParts) → AreOtherKeys (keys_once keys)
once-apart [] = λ i j d less below. absurd (omega arith)
once-apart (first ∷ more) =
    let rest = filter (apart-from first) (keys_once more) in
    let others = filter_passes (apart-from first) (keys_once more) in
    AllPairs-cons (λ a b. is_one_key a b ≡ false) first rest
    (λ k d below. not-true (is_one_key first (get_or rest k d)) (others k d below))
    (AllPairs-filter (λ a b. is_one_key a b ≡ false) (apart-from first) (keys_once more) (once-apart more))

-- what one more key brings: itself, unless it is there
abbrev more-of : List KeyParts → KeyParts → List KeyParts
more-of keys key = if lists_key keys key then [] else (key ∷ [])

one-more : (keys : List KeyParts) (key : KeyParts)
    → keys_once (keys ++ (key ∷ [])) ≡ keys_once keys ++ more-of keys key
one-more [] key = refl
one-more (first ∷ more) key =
    ap (λ l. first ∷ filter (apart-from first) l) (one-more more key)
    ∙ ap (λ l. first ∷ l) (filter-append (apart-from first) (keys_once more) (more-of more key))
    ∙ ap (λ l. first ∷ (filter (apart-from first) (keys_once more) ++ l))
    (brings (is_one_key first key) (lists_key more key) refl refl)
  where
    brings : (is there : Bool) → is_one_key first key ≡ is → lists_key more key ≡ there
        → filter (apart-from first) (more-of more key) ≡ more-of (first ∷ more) key
    brings true true is there = rw (is, there) refl
    brings true false is there = rw (there, is) refl
    brings false true is there = rw (is, there) refl
    brings false false is there = rw (there, is) refl

pub once-added : (keys : List KeyParts) (key : KeyParts)
    → keys_once (keys ++ (key ∷ [])) ≡ key_added (keys_once keys) key
once-added keys key = by (lists_key keys key) refl
  where
    by : (there : Bool) → lists_key keys key ≡ there
        → keys_once (keys ++ (key ∷ [])) ≡ key_added (keys_once keys) key
    by true there = rw (has-once keys key, there) (one-more keys key ∙ rw (there) (append-nil (keys_once keys)))
    by false there = rw (has-once keys key, there) (one-more keys key ∙ rw (there) refl)

-- ---- a list of known keys that grows

front-more : {A B : Type 0} (f : A → B) (xs : List A) (i : ℕ) (x : A) → i < length xs → x ≡ get_or xs i x
    → map f (take (suc i) xs) ≡ map f (take i xs) ++ (f x ∷ [])
front-more f [] i x inside is = absurd (omega arith)
front-more f (y ∷ xs) zero x inside is = ap (λ z. f z ∷ []) (sym is)
front-more f (y ∷ xs) (suc i) x inside is = ap (λ rest. f y ∷ rest) (front-more f xs i x (omega arith) is)

module _ {A : Type 0} (f : A → KeyParts) (xs : List A) (i : ℕ) (x : A) (signatures : List SignatureParts)
    (inside : i < length xs) (is : x ≡ get_or xs i x) where
  named-more : named_keys (map f (take (suc i) xs)) signatures
      ≡ named_keys (map f (take i xs)) signatures ++ named_keys (f x ∷ []) signatures
  named-more = ap (λ l. named_keys l signatures) (front-more f xs i x inside is)
      ∙ filter-append (λ key. list_any (is_named key) signatures) (map f (take i xs)) (f x ∷ [])

  -- One that is named is added.
  pub named-next : (named : Bool) → named ≡ list_any (is_named (f x)) signatures
      → keys_once (named_keys (map f (take (suc i) xs)) signatures)
      ≡ (if named then (key_added (keys_once (named_keys (map f (take i xs)) signatures)) (f x))
      else (keys_once (named_keys (map f (take i xs)) signatures)))
  named-next true named = ap keys_once (named-more ∙ rw (← named) refl)
      ∙ once-added (named_keys (map f (take i xs)) signatures) (f x)
  named-next false named = ap keys_once (named-more ∙ rw (← named) (append-nil _))

-- Entries that are put in, taken out and told apart by a bit.
use Rattle.std.proofs.Common.{◌≡◌, ℕ, ◌+◌, ◌≤◌, Bool, true, false, not, cond, if◌then◌else◌, List, [], ◌∷◌, length, Some, None, arith, refl, ap, ◌∙◌, subst}
use Rattle.std.proofs.lemmas.Slice.Eq.{bytes_eq-Decides}
use Rattle.std.specs.Str.{bytes_eq}
use Rattle.std.specs.List.{filter}
use Rattle.merkle_map.specs.Map.{Key, Digest, Entry, bit_of, has_bit, side, value_at, without, put, IsMap}

-- two filters, in either order
pub filters_swap : {A : Type 0} (p q : A → Bool) (xs : List A) → filter p (filter q xs) ≡ filter q (filter p xs)
filters_swap p q [] = refl
filters_swap {A} p q (x ∷ xs) = by_tests (p x) (q x) refl refl (filters_swap p q xs)
  where
    by_tests : (a b : Bool) → p x ≡ a → q x ≡ b → filter p (filter q xs) ≡ filter q (filter p xs)
        → filter p (cond b (x ∷ filter q xs) (filter q xs)) ≡ filter q (cond a (x ∷ filter p xs) (filter p xs))
    by_tests true true e f ih = rw (e, f) (ap (λ l. x ∷ l) ih)
    by_tests true false e f ih = rw f ih
    by_tests false true e f ih = rw e ih
    by_tests false false e f ih = ih

-- a filter that all pass
pub filter_within : {A : Type 0} (p q : A → Bool) (xs : List A) → ((x : A) → q x ≡ true → p x ≡ true)
    → filter p (filter q xs) ≡ filter q xs
filter_within p q [] h = refl
filter_within {A} p q (x ∷ xs) h = by_test (q x) refl (filter_within p q xs h)
  where
    by_test : (b : Bool) → q x ≡ b → filter p (filter q xs) ≡ filter q xs
        → filter p (cond b (x ∷ filter q xs) (filter q xs)) ≡ cond b (x ∷ filter q xs) (filter q xs)
    by_test true e ih = let t = h x e in rw t (ap (λ l. x ∷ l) ih)
    by_test false e ih = ih

-- ---- the sides of a key

-- the bit of a key
pub own_bit : (b : Bool) (i : ℕ) (key : Key) → bit_of i key ≡ b → has_bit b i key ≡ true
own_bit true i key e = e
own_bit false i key e = rw e refl

pub other_bit : (b : Bool) (i : ℕ) (key : Key) → bit_of i key ≡ b → has_bit (not b) i key ≡ false
other_bit true i key e = rw e refl
other_bit false i key e = e

module _ (key : Key) (level : ℕ) (b : Bool) (is : bit_of level key ≡ b) (entries : List Entry) where
  pub side-without : side b level (without key entries) ≡ without key (side b level entries)
  side-without = filters_swap (λ e. has_bit b level e.key) (λ e. not (bytes_eq e.key key)) entries

  -- on the other side there is no such key
  pub other-without : side (not b) level (without key entries) ≡ side (not b) level entries
  other-without =
      filters_swap (λ e. has_bit (not b) level e.key) (λ e. not (bytes_eq e.key key)) entries
      ∙ filter_within (λ e. not (bytes_eq e.key key)) (λ e. has_bit (not b) level e.key) entries
      (λ e has. by_test e (bytes_eq e.key key) refl has)
    where
      by_test : (e : Entry) (same : Bool) → bytes_eq e.key key ≡ same → has_bit (not b) level e.key ≡ true
          → not same ≡ true
      by_test e false t has = refl
      by_test e true t has =
          let k = (bytes_eq-Decides e.key key).0 t in
          let no = other_bit b level key is in
          let yes : has_bit (not b) level key ≡ true = subst (λ (x : Key). has_bit (not b) level x ≡ true) k has in
          absurd cc

  pub side-put : (value : Digest) → side b level (put key value entries) ≡ put key value (side b level entries)
  side-put value = let t = own_bit b level key is in
      rw t (ap (λ l. record { key = key; value = value } ∷ l) side-without)

  pub other-put : (value : Digest) → side (not b) level (put key value entries) ≡ side (not b) level entries
  other-put value = let t = other_bit b level key is in rw t other-without

-- ---- keys that come once

pub absent-filter : (p : Entry → Bool) (key : Key) (entries : List Entry) → value_at key entries ≡ None
    → value_at key (filter p entries) ≡ None
absent-filter p key [] e = refl
absent-filter p key (x ∷ xs) e = by_tests (bytes_eq x.key key) (p x) refl refl e (absent-filter p key xs)
  where
    by_tests : (same b : Bool) → bytes_eq x.key key ≡ same → p x ≡ b
        → (if same then Some x.value else value_at key xs) ≡ None
        → (value_at key xs ≡ None → value_at key (filter p xs) ≡ None)
        → value_at key (cond b (x ∷ filter p xs) (filter p xs)) ≡ None
    by_tests true b s t e ih = absurd cc
    by_tests false true s t e ih = rw s (ih e)
    by_tests false false s t e ih = ih e

pub map-filter : (p : Entry → Bool) (entries : List Entry) → IsMap entries → IsMap (filter p entries)
map-filter p [] h = tt
map-filter p (x ∷ xs) h = by_test (p x) (map-filter p xs h.1)
  where
    by_test : (b : Bool) → IsMap (filter p xs) → IsMap (cond b (x ∷ filter p xs) (filter p xs))
    by_test true ih = (absent-filter p x.key xs h.0, ih)
    by_test false ih = ih

pub absent-without : (key : Key) (entries : List Entry) → value_at key entries ≡ None → without key entries ≡ entries
absent-without key [] e = refl
absent-without key (x ∷ xs) e = by_test (bytes_eq x.key key) e (absent-without key xs)
  where
    by_test : (same : Bool) → (if same then Some x.value else value_at key xs) ≡ None
        → (value_at key xs ≡ None → without key xs ≡ xs)
        → cond (not same) (x ∷ without key xs) (without key xs) ≡ x ∷ xs
    by_test true e ih = absurd cc
    by_test false e ih = ap (λ l. x ∷ l) (ih e)

-- at most one entry is taken out
pub length-without : (key : Key) (entries : List Entry) → IsMap entries
    → length entries ≤ 1 + length (without key entries)
length-without key [] h = omega arith
length-without key (x ∷ xs) h = by_test (bytes_eq x.key key) refl (length-without key xs h.1)
  where
    by_test : (same : Bool) → bytes_eq x.key key ≡ same → length xs ≤ 1 + length (without key xs)
        → length (x ∷ xs) ≤ 1 + length (cond (not same) (x ∷ without key xs) (without key xs))
    by_test true s ih =
        let k = (bytes_eq-Decides x.key key).0 s in
        let none : value_at key xs ≡ None = subst (λ (y : Key). value_at y xs ≡ None) k h.0 in
        let all = ap length (absent-without key xs none) in
        omega (arith, all)
    by_test false s ih = omega (arith, ih)

-- what is put in or taken out leaves a map
pub map-without : (key : Key) (entries : List Entry) → IsMap entries → IsMap (without key entries)
map-without key entries h = map-filter (λ e. not (bytes_eq e.key key)) entries h

pub gone : (key : Key) (entries : List Entry) → value_at key (without key entries) ≡ None
gone key [] = refl
gone key (x ∷ xs) = by_test (bytes_eq x.key key) refl (gone key xs)
  where
    by_test : (same : Bool) → bytes_eq x.key key ≡ same → value_at key (without key xs) ≡ None
        → value_at key (cond (not same) (x ∷ without key xs) (without key xs)) ≡ None
    by_test true s ih = ih
    by_test false s ih = rw s ih

pub map-put : (key : Key) (value : Digest) (entries : List Entry) → IsMap entries → IsMap (put key value entries)
map-put key value entries h = (gone key entries, map-without key entries h)

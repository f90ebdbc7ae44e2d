-- Maps that have the same at each key have one root, in whatever order they were made.
use Rattle.std.proofs.Common.{zero, suc, ◌≡◌, ℕ, Bool, true, false, cond, if◌then◌else◌, List, [], ◌∷◌, Ok, Option, Some, None, refl, ap, sym, ◌∙◌, subst}
use Rattle.std.proofs.lemmas.Slice.Eq.{bytes_eq-Decides}
use Rattle.std.specs.Str.{bytes_eq}
use Rattle.ark_base.specs.Outcome.{Outcome, ◌>>=◌}
use Rattle.merkle_map.specs.Map.{Key, Digest, Entry, Node, Leaf, Pair, MapHashes, digest_of, has_bit, side, node_below, root_of_map, key_bits, value_at, IsMap, HaveSame}
use Rattle.merkle_map.proofs.Entries.{map-filter}

-- what a side has
pub side-has : (b : Bool) (level : ℕ) (key : Key) (xs : List Entry)
    → value_at key (side b level xs) ≡ cond (has_bit b level key) (value_at key xs) None
side-has b level key [] = nothing (has_bit b level key)
  where
    nothing : (t : Bool) → None ≡ cond t None (let none : Option Digest = None in none)
    nothing true = refl
    nothing false = refl
side-has b level key (x ∷ xs) =
    by_tests (bytes_eq x.key key) (has_bit b level x.key) (has_bit b level key) refl refl refl (side-has b level key xs)
  where
    by_tests : (same has t : Bool) → bytes_eq x.key key ≡ same → has_bit b level x.key ≡ has → has_bit b level key ≡ t
        → value_at key (side b level xs) ≡ cond (has_bit b level key) (value_at key xs) None
        → value_at key (cond has (x ∷ side b level xs) (side b level xs))
        ≡ cond t (if same then Some x.value else value_at key xs) None
    by_tests false false t s e f ih = ih ∙ ap (λ (t : Bool). cond t (value_at key xs) None) f
    by_tests false true t s e f ih = rw s (ih ∙ ap (λ (t : Bool). cond t (value_at key xs) None) f)
    by_tests true true true s e f ih = rw s refl
    by_tests true true false s e f ih =
        let k = ap (has_bit b level) ((bytes_eq-Decides x.key key).0 s) in absurd cc
    by_tests true false true s e f ih =
        let k = ap (has_bit b level) ((bytes_eq-Decides x.key key).0 s) in absurd cc
    by_tests true false false s e f ih = ih ∙ ap (λ (t : Bool). cond t (value_at key xs) None) f

side-same : (b : Bool) (level : ℕ) (xs ys : List Entry) → HaveSame xs ys → HaveSame (side b level xs) (side b level ys)
side-same b level xs ys same key =
    side-has b level key xs ∙ ap (λ v. cond (has_bit b level key) v None) (same key) ∙ sym (side-has b level key ys)

-- the first entry's key has its value
first_has : (x : Entry) (xs : List Entry) → value_at x.key (x ∷ xs) ≡ Some x.value
first_has x xs = let t = (bytes_eq-Decides x.key x.key).1 refl in rw t refl

-- the only entry is the one that a key has
only : (x : Entry) (key : Key) (value : Digest) → value_at key (x ∷ []) ≡ Some value
    → (x.key ≡ key) × (x.value ≡ value)
only x key value e = by_test (bytes_eq x.key key) refl e
  where
    by_test : (b : Bool) → bytes_eq x.key key ≡ b → (if b then Some x.value else None) ≡ Some value
        → (x.key ≡ key) × (x.value ≡ value)
    by_test true t e = ((bytes_eq-Decides x.key key).0 t, cc)
    by_test false t e = absurd cc

-- one entry is not two of different keys
not_two : (x y z : Entry) (more : List Entry) → IsMap (y ∷ z ∷ more) → HaveSame (x ∷ []) (y ∷ z ∷ more) → ⊥
not_two x y z more is same =
    let first = only x y.key y.value (same y.key ∙ first_has y (z ∷ more)) in
    by_test (bytes_eq y.key z.key) refl
  where
    by_test : (b : Bool) → bytes_eq y.key z.key ≡ b → ⊥
    by_test true t =
        let k = (bytes_eq-Decides y.key z.key).0 t in
        let none : value_at z.key (z ∷ more) ≡ None = subst (λ (w : Key). value_at w (z ∷ more) ≡ None) k is.0 in
        let some = first_has z more in
        absurd cc
    by_test false t =
        let first = only x y.key y.value (same y.key ∙ first_has y (z ∷ more)) in
        let step : value_at z.key (y ∷ z ∷ more) ≡ value_at z.key (z ∷ more) = rw t refl in
        let second = only x z.key z.value (same z.key ∙ step ∙ first_has z more) in
        let e : y.key ≡ z.key = sym first.0 ∙ second.0 in
        let yes = (bytes_eq-Decides y.key z.key).1 e in
        absurd cc

module _ (h : MapHashes) where
  pub same-node : (bits level : ℕ) (xs ys : List Entry) → IsMap xs → IsMap ys → HaveSame xs ys
      → node_below h bits level xs ≡ node_below h bits level ys
  same-node bits level [] [] mx my same = refl
  same-node bits level [] (y ∷ ys) mx my same = let a = same y.key in let b = first_has y ys in absurd cc
  same-node bits level (x ∷ xs) [] mx my same = let a = same x.key in let b = first_has x xs in absurd cc
  same-node bits level (x ∷ []) (y ∷ []) mx my same =
      let e = only x y.key y.value (same y.key ∙ first_has y []) in
      ap (λ (k : Key). Ok (Leaf (record { key = k; value = x.value }))) e.0
      ∙ ap (λ (v : Digest). Ok (Leaf (record { key = y.key; value = v }))) e.1
  same-node bits level (x ∷ []) (y ∷ z ∷ more) mx my same = absurd (not_two x y z more my same)
  same-node bits level (x ∷ z ∷ more) (y ∷ []) mx my same =
      absurd (not_two y x z more mx (λ key. sym (same key)))
  same-node zero level (x ∷ w ∷ more) (y ∷ z ∷ others) mx my same = refl
  same-node (suc bits) level (x ∷ w ∷ more) (y ∷ z ∷ others) mx my same =
      let xs : List Entry = x ∷ w ∷ more in
      let ys : List Entry = y ∷ z ∷ others in
      let at : Bool → List Entry → Outcome Node = λ b l. node_below h bits (suc level) (side b level l) in
      let below = λ (b : Bool). same-node bits (suc level) (side b level xs) (side b level ys)
      (map-filter (λ e. has_bit b level e.key) xs mx) (map-filter (λ e. has_bit b level e.key) ys my)
      (side-same b level xs ys same) in
      ap (λ o. o >>= λ l. digest_of h l >>= λ left. at true xs >>= λ r. digest_of h r >>= λ right. Ok (Pair left right))
      (below false)
      ∙ ap (λ o. at false ys >>= λ l. digest_of h l >>= λ left. o >>= λ r. digest_of h r >>= λ right. Ok
      (Pair left right))
      (below true)

  -- the root is a function of what the map has
  pub same-root : (xs ys : List Entry) → IsMap xs → IsMap ys → HaveSame xs ys → root_of_map h xs ≡ root_of_map h ys
  same-root xs ys mx my same = ap (λ o. o >>= digest_of h) (same-node key_bits 0 xs ys mx my same)

-- The order of keys in trees.
use Rattle.std.proofs.Common.{◌≡◌, ◌⊎◌, ◌<◌, suc, Bool, true, false, if◌then◌else◌, Some, IsSome, List, [], ◌∷◌, ◌++◌, length, refl, sym, ◌∙◌, subst, inl, inr}
use Rattle.std.proofs.lemmas.Slice.Eq.{bytes_eq-Decides}
use Rattle.std.specs.Str.{bytes_eq}
use Rattle.merkle_map.specs.Map.{Digest, Entry, Key, bit_of, value_at}
use Rattle.merkle_map.specs.Tree.{Shape, Empty, One, Fork, Hidden, StandsAt, way}
use Rattle.merkle_map.specs.Whole.{entries_of}
use Rattle.merkle_map.proofs.Wholes.{heads}
use Rattle.merkle_map.specs.Order.{HasNoneFrom, IsFirstEntry, IsKeyBelow, IsNextEntry}
use Rattle.merkle_map.proofs.Ordered.{across, not_both, not_itself}

-- ---- entries of two lists

pub some-split : (key : Key) (xs ys : List Entry) → IsSome (value_at key (xs ++ ys))
    → IsSome (value_at key xs) ⊎ IsSome (value_at key ys)
some-split key [] ys some = inr some
some-split key (x ∷ xs) ys some = by_test (bytes_eq x.key key) some (some-split key xs ys)
  where
    by_test : (t : Bool) → IsSome (if t then Some x.value else value_at key (xs ++ ys))
        → (IsSome (value_at key (xs ++ ys)) → IsSome (value_at key xs) ⊎ IsSome (value_at key ys))
        → IsSome (if t then Some x.value else value_at key xs) ⊎ IsSome (value_at key ys)
    by_test true some rest = inl refl
    by_test false some rest = rest some

pub some-left : (key : Key) (value : Digest) (xs ys : List Entry) → value_at key xs ≡ Some value
    → value_at key (xs ++ ys) ≡ Some value
some-left key value [] ys is = absurd cc
some-left key value (x ∷ xs) ys is = by_test (bytes_eq x.key key) is (some-left key value xs ys)
  where
    by_test : (t : Bool) → (if t then Some x.value else value_at key xs) ≡ Some value
        → (value_at key xs ≡ Some value → value_at key (xs ++ ys) ≡ Some value)
        → (if t then Some x.value else value_at key (xs ++ ys)) ≡ Some value
    by_test true is rest = is
    by_test false is rest = rest is

pub some-right : (key : Key) (xs ys : List Entry) → ¬ IsSome (value_at key xs)
    → value_at key (xs ++ ys) ≡ value_at key ys
some-right key [] ys none = refl
some-right key (x ∷ xs) ys none = by_test (bytes_eq x.key key) none (some-right key xs ys)
  where
    by_test : (t : Bool) → ¬ IsSome (if t then Some x.value else value_at key xs)
        → (¬ IsSome (value_at key xs) → value_at key (xs ++ ys) ≡ value_at key ys)
        → (if t then Some x.value else value_at key (xs ++ ys)) ≡ value_at key ys
    by_test true none rest = absurd (none refl)
    by_test false none rest = rest none

pub is-some : (key : Key) (value : Digest) (xs : List Entry) → value_at key xs ≡ Some value → IsSome (value_at key xs)
is-some key value xs is = subst (λ o. IsSome o) (sym is) refl

-- ---- entries of a tree are on its way

on-rest : (more bits : List Bool) (key : Key) → way (length (more ++ bits)) key ≡ more ++ bits
    → way (length bits) key ≡ bits
on-rest [] bits key is = is
on-rest (b ∷ more) bits key is = on-rest more bits key
    (heads (bit_of (length (more ++ bits)) key) b (way (length (more ++ bits)) key) (more ++ bits) is).1

pub all-stand : (more bits : List Bool) (s : Shape) → StandsAt (more ++ bits) s → (key : Key)
    → IsSome (value_at key (entries_of s)) → way (length bits) key ≡ bits
all-stand more bits Empty stands key some = absurd cc
all-stand more bits (Hidden d) stands key some = absurd cc
all-stand more bits (One e) stands key some = by_test (bytes_eq e.key key) refl some
  where
    by_test : (t : Bool) → bytes_eq e.key key ≡ t → IsSome (if t then Some e.value else value_at key [])
        → way (length bits) key ≡ bits
    by_test true same some = subst (λ (k : Key). way (length bits) k ≡ bits) ((bytes_eq-Decides e.key key).0 same)
        (on-rest more bits e.key stands.1)
    by_test false same some = absurd cc
all-stand more bits (Fork l r) stands key some =
    by_side (some-split key (entries_of l) (entries_of r) some) (all-stand (false ∷ more) bits l stands.2 key)
    (all-stand (true ∷ more) bits r stands.3 key)
  where
    by_side : IsSome (value_at key (entries_of l)) ⊎ IsSome (value_at key (entries_of r))
        → (IsSome (value_at key (entries_of l)) → way (length bits) key ≡ bits)
        → (IsSome (value_at key (entries_of r)) → way (length bits) key ≡ bits) → way (length bits) key ≡ bits
    by_side (inl some) on_left on_right = on_left some
    by_side (inr some) on_left on_right = on_right some

-- ---- one entry

only-key : (e : Entry) (key : Key) → IsSome (value_at key (e ∷ [])) → key ≡ e.key
only-key e key some = by_test (bytes_eq e.key key) refl some
  where
    by_test : (t : Bool) → bytes_eq e.key key ≡ t → IsSome (if t then Some e.value else value_at key []) → key ≡ e.key
    by_test true same some = sym ((bytes_eq-Decides e.key key).0 same)
    by_test false same some = absurd cc

only-there : (e : Entry) → value_at e.key (e ∷ []) ≡ Some e.value
only-there e = let same = (bytes_eq-Decides e.key e.key).1 refl in rw same refl

pub first-only : (e : Entry) → IsFirstEntry (e ∷ []) e
first-only e = record { there = only-there e; least = λ other some. inl (only-key e other some) }

pub next-only : (from : Key) (e : Entry) → ¬ IsKeyBelow e.key from → IsNextEntry from (e ∷ []) e
next-only from e reached = record {
  there = only-there e;
  reached = reached;
  least = λ other some. inr (inl (only-key e other some));
}

pub none-only : (from : Key) (e : Entry) → IsKeyBelow e.key from → HasNoneFrom from (e ∷ [])
none-only from e below = λ other some. subst (λ (k : Key). IsKeyBelow k from) (sym (only-key e other some)) below

-- ---- a fork

module _ (bits : List Bool) (left right : Shape) (inside : length bits < 256) (on_left : StandsAt (false ∷ bits) left)
    (on_right : StandsAt (true ∷ bits) right) where
  left_way : (key : Key) → IsSome (value_at key (entries_of left)) → way (suc (length bits)) key ≡ false ∷ bits
  left_way = all-stand [] (false ∷ bits) left on_left

  right_way : (key : Key) → IsSome (value_at key (entries_of right)) → way (suc (length bits)) key ≡ true ∷ bits
  right_way = all-stand [] (true ∷ bits) right on_right

  apart : (a b : Key) → IsSome (value_at a (entries_of left)) → IsSome (value_at b (entries_of right)) → IsKeyBelow a b
  apart a b some_a some_b = across bits a b inside (left_way a some_a) (right_way b some_b)

  -- what is on the right is not on the left
  there-right : (key : Key) (value : Digest) → value_at key (entries_of right) ≡ Some value
      → value_at key (entries_of left ++ entries_of right) ≡ Some value
  there-right key value is =
      some-right key (entries_of left) (entries_of right)
      (λ some. not_itself key (apart key key some (is-some key value (entries_of right) is))) ∙ is

  pub first-left : (entry : Entry) → IsFirstEntry (entries_of left) entry
      → IsFirstEntry (entries_of left ++ entries_of right) entry
  first-left entry f = record {
    there = some-left entry.key entry.value (entries_of left) (entries_of right) f.there;
    least = λ other some. by_side other (some-split other (entries_of left) (entries_of right) some);
  }
    where
      by_side : (other : Key) → IsSome (value_at other (entries_of left)) ⊎ IsSome (value_at other (entries_of right))
          → (other ≡ entry.key) ⊎ IsKeyBelow entry.key other
      by_side other (inl some) = f.least other some
      by_side other (inr some) = inr (apart entry.key other (is-some entry.key entry.value (entries_of left) f.there)
          some)

  -- the key is on the right
  module _ (from : Key) (here : way (suc (length bits)) from ≡ true ∷ bits) where
    pub none-right : HasNoneFrom from (entries_of right) → HasNoneFrom from (entries_of left ++ entries_of right)
    none-right none = λ other some. by_side other (some-split other (entries_of left) (entries_of right) some)
      where
        by_side : (other : Key) → IsSome (value_at other (entries_of left)) ⊎ IsSome (value_at other (entries_of right))
            → IsKeyBelow other from
        by_side other (inl some) = across bits other from inside (left_way other some) here
        by_side other (inr some) = none other some

    pub next-right : (entry : Entry) → IsNextEntry from (entries_of right) entry
        → IsNextEntry from (entries_of left ++ entries_of right) entry
    next-right entry n = record {
      there = there-right entry.key entry.value n.there;
      reached = n.reached;
      least = λ other some. by_side other (some-split other (entries_of left) (entries_of right) some);
    }
      where
        by_side : (other : Key) → IsSome (value_at other (entries_of left)) ⊎ IsSome (value_at other (entries_of right))
            → IsKeyBelow other from ⊎ ((other ≡ entry.key) ⊎ IsKeyBelow entry.key other)
        by_side other (inl some) = inl (across bits other from inside (left_way other some) here)
        by_side other (inr some) = n.least other some

  -- the key is on the left
  module _ (from : Key) (here : way (suc (length bits)) from ≡ false ∷ bits) where
    pub next-left : (entry : Entry) → IsNextEntry from (entries_of left) entry
        → IsNextEntry from (entries_of left ++ entries_of right) entry
    next-left entry n = record {
      there = some-left entry.key entry.value (entries_of left) (entries_of right) n.there;
      reached = n.reached;
      least = λ other some. by_side other (some-split other (entries_of left) (entries_of right) some);
    }
      where
        by_side : (other : Key) → IsSome (value_at other (entries_of left)) ⊎ IsSome (value_at other (entries_of right))
            → IsKeyBelow other from ⊎ ((other ≡ entry.key) ⊎ IsKeyBelow entry.key other)
        by_side other (inl some) = n.least other some
        by_side other (inr some) =
            inr (inr (apart entry.key other (is-some entry.key entry.value (entries_of left) n.there) some))

    pub none-left : right ≡ Empty → HasNoneFrom from (entries_of left)
        → HasNoneFrom from (entries_of left ++ entries_of right)
    none-left empty none = λ other some. by_side other (some-split other (entries_of left) (entries_of right) some)
      where
        by_side : (other : Key) → IsSome (value_at other (entries_of left)) ⊎ IsSome (value_at other (entries_of right))
            → IsKeyBelow other from
        by_side other (inl some) = none other some
        by_side other (inr some) =
            let no : IsSome (value_at other []) = subst (λ s. IsSome (value_at other (entries_of s))) empty some in
            absurd cc

    pub next-first : (entry : Entry) → HasNoneFrom from (entries_of left) → IsFirstEntry (entries_of right) entry
        → IsNextEntry from (entries_of left ++ entries_of right) entry
    next-first entry none f = record {
      there = there-right entry.key entry.value f.there;
      reached = not_both from entry.key (across bits from entry.key inside here
          (right_way entry.key (is-some entry.key entry.value (entries_of right) f.there)));
      least = λ other some. by_side other (some-split other (entries_of left) (entries_of right) some);
    }
      where
        by_side : (other : Key) → IsSome (value_at other (entries_of left)) ⊎ IsSome (value_at other (entries_of right))
            → IsKeyBelow other from ⊎ ((other ≡ entry.key) ⊎ IsKeyBelow entry.key other)
        by_side other (inl some) = inl (none other some)
        by_side other (inr some) = inr (f.least other some)

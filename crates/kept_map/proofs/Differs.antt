-- Where two maps differ, by their sides.
use Rattle.std.proofs.Common.{◌≡◌, ◌≢◌, ◌⊎◌, ◌<◌, ◌≤◌, ◌+◌, ◌&&◌, ℕ, zero, suc, Bool, true, false, Option, Some, None, IsSome, List, [], ◌∷◌, ◌++◌, length, take, if◌then◌else◌, arith, refl, ap, sym, ◌∙◌, subst, inl, inr}
use Rattle.std.proofs.lemmas.Slice.Eq.{bytes_eq-Decides}
use Rattle.std.specs.Str.{bytes_eq}
use Rattle.merkle_map.specs.Map.{Digest, Entry, Key, MapHashes, bit_of, has_bit, value_at}
use Rattle.merkle_map.specs.Order.{IsKeyBelow}
use Rattle.merkle_map.specs.Tree.{IsKey, Shape, Empty, One, Fork, Hidden, StandsAt, way}
use Rattle.merkle_map.specs.Whole.{entries_of}
use Rattle.merkle_map.proofs.Entries.{other_bit, own_bit}
use Rattle.merkle_map.proofs.Keys.{same_keys}
use Rattle.merkle_map.proofs.NextShown.{goes-on-with, turns-with}
use Rattle.merkle_map.proofs.Ordered.{not_both, not_itself}
use Rattle.merkle_map.proofs.Wholes.{heads}
use Rattle.kept_map.specs.Differ.{DifferAtBoth, HaveSameReached, IsFirstReached, IsForkPart, IsReached, few, half_shape}
use Rattle.kept_map.specs.KeptMap.{LaidAt, fork_count, left_at, right_at}
use Rattle.kept_map.specs.Parts.{part_number}
use Rattle.kept_map.specs.declared.nodes.Part.{Part}
use Rattle.kept_map.specs.declared.nodes.Part.TheVariants.{Nothing, Entry as EntryAt, Fork as ForkAt}
use Rattle.kept_map.proofs.Climbing.{lies-one}
use Rattle.kept_map.proofs.Lies.{lies-fork, lies-nothing}
use Rattle.kept_map.proofs.Ordered.{all-stand, some-left, some-right}

-- ---- keys are in order

apart-by : (n : ℕ) → n ≤ 256 → (a b : Key) → (way n a ≡ way n b) ⊎ (IsKeyBelow a b ⊎ IsKeyBelow b a)
apart-by zero within a b = inl refl
apart-by (suc n) within a b = by_alike (apart-by n (omega (arith, within)) a b)
  where
    by_bits : way n a ≡ way n b → (x y : Bool) → bit_of n a ≡ x → bit_of n b ≡ y
        → (way (suc n) a ≡ way (suc n) b) ⊎ (IsKeyBelow a b ⊎ IsKeyBelow b a)
    by_bits alike true true p q = inl (ap (λ (c : Bool). c ∷ way n a) (p ∙ sym q) ∙ ap (λ l. bit_of n b ∷ l) alike)
    by_bits alike false false p q = inl (ap (λ (c : Bool). c ∷ way n a) (p ∙ sym q) ∙ ap (λ l. bit_of n b ∷ l) alike)
    by_bits alike false true p q =
        inr (inl (record { level = n; inside = omega (arith, within); alike = alike; low = p; high = q }))
    by_bits alike true false p q =
        inr (inr (record { level = n; inside = omega (arith, within); alike = sym alike; low = q; high = p }))

    by_alike : (way n a ≡ way n b) ⊎ (IsKeyBelow a b ⊎ IsKeyBelow b a)
        → (way (suc n) a ≡ way (suc n) b) ⊎ (IsKeyBelow a b ⊎ IsKeyBelow b a)
    by_alike (inl alike) = by_bits alike (bit_of n a) (bit_of n b) refl refl
    by_alike (inr apart) = inr apart

pub other-below : (a b : Key) → IsKey a → IsKey b → bytes_eq a b ≡ false → ¬ IsKeyBelow a b → IsKeyBelow b a
other-below a b is_a is_b differ above = by_apart (apart-by 256 (omega arith) a b)
  where
    by_apart : (way 256 a ≡ way 256 b) ⊎ (IsKeyBelow a b ⊎ IsKeyBelow b a) → IsKeyBelow b a
    by_apart (inl alike) =
        let same = (bytes_eq-Decides a b).1 (same_keys a b is_a is_b alike) in absurd cc
    by_apart (inr (inl below)) = absurd (above below)
    by_apart (inr (inr below)) = below

-- ---- two entries

own-there : (e : Entry) → value_at e.key (e ∷ []) ≡ Some e.value
own-there e = let same = (bytes_eq-Decides e.key e.key).1 refl in rw same refl

not-there : (e : Entry) (key : Key) → e.key ≢ key → value_at key (e ∷ []) ≡ None
not-there e key other = by_test (bytes_eq e.key key) refl
  where
    by_test : (t : Bool) → bytes_eq e.key key ≡ t → (if t then Some e.value else value_at key []) ≡ None
    by_test true same = absurd (other ((bytes_eq-Decides e.key key).0 same))
    by_test false same = refl

here-or_not : (e : Entry) (key : Key) → (key ≡ e.key) ⊎ (value_at key (e ∷ []) ≡ None)
here-or_not e key = by_test (bytes_eq e.key key) refl
  where
    by_test : (t : Bool) → bytes_eq e.key key ≡ t
        → (key ≡ e.key) ⊎ ((if t then Some e.value else value_at key []) ≡ None)
    by_test true same = inl (sym ((bytes_eq-Decides e.key key).0 same))
    by_test false same = inr refl

module _ (e f : Entry) (differ : bytes_eq e.key f.key ≡ false) where
  unlike : e.key ≢ f.key
  unlike same = let yes = (bytes_eq-Decides e.key f.key).1 same in absurd cc

  first-differs : value_at e.key (e ∷ []) ≢ value_at e.key (f ∷ [])
  first-differs same = let there = sym (own-there e) ∙ same ∙ not-there f e.key (λ s. unlike (sym s)) in absurd cc

  second-differs : value_at f.key (e ∷ []) ≢ value_at f.key (f ∷ [])
  second-differs same = let there = sym (own-there f) ∙ sym same ∙ not-there e f.key unlike in absurd cc

  others : (key : Key) → (key ≡ e.key) ⊎ ((key ≡ f.key) ⊎ (value_at key (e ∷ []) ≡ value_at key (f ∷ [])))
  others key = by_test (here-or_not e key) (here-or_not f key)
    where
      by_test : (key ≡ e.key) ⊎ (value_at key (e ∷ []) ≡ None) → (key ≡ f.key) ⊎ (value_at key (f ∷ []) ≡ None)
          → (key ≡ e.key) ⊎ ((key ≡ f.key) ⊎ (value_at key (e ∷ []) ≡ value_at key (f ∷ [])))
      by_test (inl here) q = inl here
      by_test (inr none) (inl here) = inr (inl here)
      by_test (inr none) (inr no_other) = inr (inr (none ∙ sym no_other))

  pub apart-rising : IsKeyBelow e.key f.key → DifferAtBoth (e ∷ []) (f ∷ []) e.key f.key
  apart-rising below = record {
    lower_differs = first-differs;
    higher_differs = second-differs;
    others = others;
    rising = inr below;
  }

  pub apart-falling : IsKeyBelow f.key e.key → DifferAtBoth (e ∷ []) (f ∷ []) f.key e.key
  apart-falling below = record {
    lower_differs = second-differs;
    higher_differs = first-differs;
    others = λ key. turned key (others key);
    rising = inr below;
  }
    where
      turned : (key : Key) → (key ≡ e.key) ⊎ ((key ≡ f.key) ⊎ (value_at key (e ∷ []) ≡ value_at key (f ∷ [])))
          → (key ≡ f.key) ⊎ ((key ≡ e.key) ⊎ (value_at key (e ∷ []) ≡ value_at key (f ∷ [])))
      turned key (inl here) = inr (inl here)
      turned key (inr (inl here)) = inl here
      turned key (inr (inr same)) = inr (inr same)

-- the lower of two keys is the first
pub lower-first : (is_on : Bool) (from : Key) (xs ys : List Entry) (lower higher : Key) → DifferAtBoth xs ys lower
    higher
    → IsReached is_on from lower → IsFirstReached is_on from xs ys lower
lower-first is_on from xs ys lower higher apart reached = record {
  differ = apart.lower_differs;
  reached = reached;
  same = λ other there below. by_key other below (apart.others other) apart.rising;
}
  where
    by_key : (other : Key) → IsKeyBelow other lower
        → (other ≡ lower) ⊎ ((other ≡ higher) ⊎ (value_at other xs ≡ value_at other ys))
        → (lower ≡ higher) ⊎ IsKeyBelow lower higher → value_at other xs ≡ value_at other ys
    by_key other below (inl is) rising = absurd (not_itself lower (subst (λ k. IsKeyBelow k lower) is below))
    by_key other below (inr (inl is)) (inl same) =
        absurd (not_itself lower (subst (λ k. IsKeyBelow k lower) (is ∙ sym same) below))
    by_key other below (inr (inl is)) (inr rising) =
        absurd (not_both lower higher rising (subst (λ k. IsKeyBelow k lower) is below))
    by_key other below (inr (inr same)) rising = same

-- ---- sides

-- The entries of a tree and of its sides.
pub record AreHalves (level : ℕ) (bits : List Bool) (xs low high : List Entry) : Type 0 where
  pub lows : (key : Key) → bit_of level key ≡ false → value_at key xs ≡ value_at key low
  pub highs : (key : Key) → bit_of level key ≡ true → value_at key xs ≡ value_at key high
  pub on : (key : Key) → IsSome (value_at key xs) → way level key ≡ bits
  pub low_bit : (key : Key) → IsSome (value_at key low) → bit_of level key ≡ false
  pub high_bit : (key : Key) → IsSome (value_at key high) → bit_of level key ≡ true

no-some : (o : Option Digest) → ¬ IsSome o → o ≡ None
no-some None none = refl
no-some (Some value) none = absurd (none refl)

some-bit : (b : Bool) (level : ℕ) (bits : List Bool) (s : Shape) → length bits ≡ level → StandsAt (b ∷ bits) s
    → (key : Key) → IsSome (value_at key (entries_of s)) → (bit_of level key ≡ b) × (way level key ≡ bits)
some-bit b level bits s long stands key some =
    let on : way (suc level) key ≡ b ∷ bits =
    subst (λ n. way (suc n) key ≡ b ∷ bits) long (all-stand [] (b ∷ bits) s stands key some) in
    heads (bit_of level key) b (way level key) bits on

pub half-stands : (b : Bool) (level : ℕ) (bits : List Bool) (s : Shape) → length bits ≡ level → StandsAt bits s
    → StandsAt (b ∷ bits) (half_shape b level s)
half-stands b level bits Empty long stands = tt
half-stands b level bits (Hidden digest) long stands = tt
half-stands true level bits (Fork left right) long stands = stands.3
half-stands false level bits (Fork left right) long stands = stands.2
half-stands b level bits (One entry) long stands = by_bit (bit_of level entry.key) refl b
  where
    on : (b : Bool) → bit_of level entry.key ≡ b → StandsAt (b ∷ bits) (One entry)
    on b is = (
      stands.0,
      subst (λ n. way (suc n) entry.key ≡ b ∷ bits) (sym long)
          (ap (λ (c : Bool). c ∷ way level entry.key) is
          ∙ ap (λ l. b ∷ l) (subst (λ n. way n entry.key ≡ bits) long stands.1)),
    )

    by_bit : (own : Bool) → bit_of level entry.key ≡ own → (b : Bool)
        → StandsAt (b ∷ bits) (if has_bit b level entry.key then One entry else Empty)
    by_bit true is true = let has = own_bit true level entry.key is in rw has (on true is)
    by_bit false is false = let has = own_bit false level entry.key is in rw has (on false is)
    by_bit true is false = let has = other_bit true level entry.key is in rw has tt
    by_bit false is true = let has = other_bit false level entry.key is in rw has tt

half-has : (b : Bool) (level : ℕ) (bits : List Bool) (s : Shape) → length bits ≡ level → StandsAt bits s → (key : Key)
    → bit_of level key ≡ b → value_at key (entries_of s) ≡ value_at key (entries_of (half_shape b level s))
half-has b level bits Empty long stands key bit = refl
half-has b level bits (Hidden digest) long stands key bit = refl
half-has true level bits (Fork left right) long stands key bit =
    some-right key (entries_of left) (entries_of right)
    (λ some. let low = (some-bit false level bits left long stands.2 key some).0 in absurd cc)
half-has false level bits (Fork left right) long stands key bit =
    by_value (value_at key (entries_of left)) refl
  where
    by_value : (o : Option Digest) → value_at key (entries_of left) ≡ o
        → value_at key (entries_of left ++ entries_of right) ≡ value_at key (entries_of left)
    by_value (Some value) is = some-left key value (entries_of left) (entries_of right) is ∙ sym is
    by_value None is =
        some-right key (entries_of left) (entries_of right)
        (λ some. let no : IsSome (let none : Option Digest = None in none) = subst (λ o. IsSome o) is some in absurd cc)
        ∙ no-some (value_at key (entries_of right))
        (λ some. let high = (some-bit true level bits right long stands.3 key some).0 in absurd cc) ∙ sym is
half-has b level bits (One entry) long stands key bit = by_test (has_bit b level entry.key) refl
  where
    by_test : (t : Bool) → has_bit b level entry.key ≡ t
        → value_at key (entry ∷ []) ≡ value_at key (entries_of (if t then One entry else Empty))
    by_test true has = refl
    by_test false has = not-there entry key (λ same.
        let own = own_bit b level key bit in
        let no : has_bit b level key ≡ false = subst (λ (k : Key). has_bit b level k ≡ false) same has in absurd cc)

pub are-halves : (level : ℕ) (bits : List Bool) (s : Shape) → length bits ≡ level → StandsAt bits s
    → AreHalves level bits (entries_of s) (entries_of (half_shape false level s)) (entries_of (half_shape true level s))
are-halves level bits s long stands = record {
  lows = half-has false level bits s long stands;
  highs = half-has true level bits s long stands;
  on = λ key some. subst (λ n. way n key ≡ bits) long (all-stand [] bits s stands key some);
  low_bit = λ key some. (some-bit false level bits (half_shape false level s) long
      (half-stands false level bits s long stands) key some).0;
  high_bit = λ key some. (some-bit true level bits (half_shape true level s) long
      (half-stands true level bits s long stands) key some).0;
}

pub half-counts : (level : ℕ) (s : Shape)
    → fork_count (half_shape false level s) + fork_count (half_shape true level s) ≤ fork_count s
half-counts level Empty = omega arith
half-counts level (Hidden digest) = omega arith
half-counts level (Fork left right) = omega arith
half-counts level (One entry) = by_tests (has_bit false level entry.key) (has_bit true level entry.key)
  where
    by_tests : (a b : Bool)
        → fork_count (if a then One entry else Empty) + fork_count (if b then One entry else Empty) ≤ 0
    by_tests true true = omega arith
    by_tests true false = omega arith
    by_tests false true = omega arith
    by_tests false false = omega arith

-- ---- two maps, by their sides

same-or : (key : Key) (xs ys : List Entry)
    → ((IsSome (value_at key xs) ⊎ IsSome (value_at key ys)) → ⊥) → value_at key xs ≡ value_at key ys
same-or key xs ys none = no-some (value_at key xs) (λ some. none (inl some))
    ∙ sym (no-some (value_at key ys) (λ some. none (inr some)))

differ-some : (a b : Option Digest) → a ≢ b → IsSome a ⊎ IsSome b
differ-some None None differ = absurd (differ refl)
differ-some None (Some value) differ = inr refl
differ-some (Some value) b differ = inl refl

module _ (level : ℕ) (inside : level < 256) (bits : List Bool) (is_on below : Bool) (from : Key)
    (on : is_on ≡ true → bits ≡ way level from) (is_below : below ≡ (is_on && has_bit true level from))
    (xs xl xr ys yl yr : List Entry) (hx : AreHalves level bits xs xl xr) (hy : AreHalves level bits ys yl yr) where
  -- what one of both has begins with the bits
  both-on : (key : Key) → IsSome (value_at key xs) ⊎ IsSome (value_at key ys) → way level key ≡ bits
  both-on key (inl some) = hx.on key some
  both-on key (inr some) = hy.on key some

  below-from : below ≡ true → (is_on ≡ true) × (bit_of level from ≡ true)
  below-from turned = turns-with true is_on level from (sym is_below ∙ turned)

  low-same : (below ≡ false → HaveSameReached is_on from xl yl) → (key : Key) → bit_of level key ≡ false
      → IsReached is_on from key → value_at key xs ≡ value_at key ys
  low-same lows key bit reached = by_below below refl
    where
      by_below : (b : Bool) → below ≡ b → value_at key xs ≡ value_at key ys
      by_below false off = hx.lows key bit ∙ lows off key reached ∙ sym (hy.lows key bit)
      by_below true turned =
          let w = below-from turned in
          same-or key xs ys (λ some. reached w.0 (record {
            level = level;
            inside = inside;
            alike = both-on key some ∙ on w.0;
            low = bit;
            high = w.1;
          }))

  pub none-found : (below ≡ false → HaveSameReached is_on from xl yl) → HaveSameReached below from xr yr
      → HaveSameReached is_on from xs ys
  none-found lows highs key reached = by_bit (bit_of level key) refl
    where
      by_bit : (b : Bool) → bit_of level key ≡ b → value_at key xs ≡ value_at key ys
      by_bit false bit = low-same lows key bit reached
      by_bit true bit = hx.highs key bit ∙ highs key (λ turned. reached (below-from turned).0) ∙ sym (hy.highs key bit)

  pub low-found : (key : Key) → IsFirstReached is_on from xl yl key → IsFirstReached is_on from xs ys key
  low-found key f =
      let bit = by_side (differ-some (value_at key xl) (value_at key yl) f.differ) in
      record {
        differ = λ same. f.differ (sym (hx.lows key bit) ∙ same ∙ hy.lows key bit);
        reached = f.reached;
        same = λ other reached lower. by_bit bit other reached lower (bit_of level other) refl;
      }
    where
      by_side : IsSome (value_at key xl) ⊎ IsSome (value_at key yl) → bit_of level key ≡ false
      by_side (inl some) = hx.low_bit key some
      by_side (inr some) = hy.low_bit key some

      there : bit_of level key ≡ false → IsSome (value_at key xl) ⊎ IsSome (value_at key yl)
          → IsSome (value_at key xs) ⊎ IsSome (value_at key ys)
      there bit (inl some) = inl (subst (λ o. IsSome o) (sym (hx.lows key bit)) some)
      there bit (inr some) = inr (subst (λ o. IsSome o) (sym (hy.lows key bit)) some)

      by_bit : bit_of level key ≡ false → (other : Key) → IsReached is_on from other → IsKeyBelow other key → (b : Bool)
          → bit_of level other ≡ b → value_at other xs ≡ value_at other ys
      by_bit bit other reached lower false is = hx.lows other is ∙ f.same other reached lower ∙ sym (hy.lows other is)
      by_bit bit other reached lower true is = same-or other xs ys (λ some. not_both other key lower (record {
        level = level;
        inside = inside;
        alike = both-on key (there bit (differ-some (value_at key xl) (value_at key yl) f.differ))
            ∙ sym (both-on other some);
        low = bit;
        high = is;
      }))

  pub high-found : (key : Key) → (below ≡ false → HaveSameReached is_on from xl yl)
      → IsFirstReached below from xr yr key → IsFirstReached is_on from xs ys key
  high-found key lows f =
      let some = differ-some (value_at key xr) (value_at key yr) f.differ in
      let bit = by_side some in
      record {
        differ = λ same. f.differ (sym (hx.highs key bit) ∙ same ∙ hy.highs key bit);
        reached = λ is. by_below is bit (there bit some) below refl;
        same = λ other reached lower. by_bit other reached lower (bit_of level other) refl;
      }
    where
      by_side : IsSome (value_at key xr) ⊎ IsSome (value_at key yr) → bit_of level key ≡ true
      by_side (inl some) = hx.high_bit key some
      by_side (inr some) = hy.high_bit key some

      there : bit_of level key ≡ true → IsSome (value_at key xr) ⊎ IsSome (value_at key yr)
          → IsSome (value_at key xs) ⊎ IsSome (value_at key ys)
      there bit (inl some) = inl (subst (λ o. IsSome o) (sym (hx.highs key bit)) some)
      there bit (inr some) = inr (subst (λ o. IsSome o) (sym (hy.highs key bit)) some)

      by_below : is_on ≡ true → bit_of level key ≡ true → IsSome (value_at key xs) ⊎ IsSome (value_at key ys)
          → (b : Bool)
          → below ≡ b → ¬ IsKeyBelow key from
      by_below is bit some true turned = f.reached turned
      by_below is bit some false turned = not_both from key (record {
        level = level;
        inside = inside;
        alike = sym (on is) ∙ sym (both-on key some);
        low = (goes-on-with false is_on level from (sym is_below ∙ turned) is).1;
        high = bit;
      })

      by_bit : (other : Key) → IsReached is_on from other → IsKeyBelow other key → (b : Bool)
          → bit_of level other ≡ b → value_at other xs ≡ value_at other ys
      by_bit other reached lower false is = low-same lows other is reached
      by_bit other reached lower true is =
          hx.highs other is ∙ f.same other (λ turned. reached (below-from turned).0) lower ∙ sym (hy.highs other is)

-- ---- what lies at numbers

module _ (h : MapHashes) (entries forks : List (List ℕ)) where
  pub lies-same : (i j m n number : ℕ) (s t : Shape) → LaidAt h (take i entries) forks m number s
      → LaidAt h (take j entries) forks n number t → s ≡ t
  lies-same i j m n number Empty t on_s on_t = sym (lies-nothing h (take j entries) forks n number t on_s on_t)
  lies-same i j m n number (One entry) t on_s on_t =
      lies-one h entries forks i m number on_s.0 (One entry) on_s.1 on_s
      ∙ sym (lies-one h entries forks j n number on_s.0 t on_s.1 on_t)
  lies-same i j m n number (Hidden digest) t on_s on_t = absurd on_s
  lies-same i j m n number (Fork left right) t on_s on_t =
      let it = lies-fork h (take j entries) forks n number on_s.0 t on_s.1 on_t in
      ap (λ l. Fork l right) (lies-same i j on_s.0 on_s.0 (left_at forks on_s.0) left it.left on_s.4 it.on_left)
      ∙ ap (λ r. Fork it.left r) (lies-same i j on_s.0 on_s.0 (right_at forks on_s.0) right it.right on_s.5 it.on_right)
      ∙ sym it.is

  pub few-is : (part : Part) (i m number : ℕ) (s : Shape) → ¬ IsForkPart part → part_number part ≡ number
      → LaidAt h (take i entries) forks m number s → entries_of s ≡ few entries part
  few-is Nothing i m number s none is lies =
      ap entries_of (lies-nothing h (take i entries) forks m number s (sym is) lies)
  few-is (EntryAt k) i m number s none is lies =
      ap entries_of (lies-one h entries forks i m number k s (sym is) lies)
  few-is (ForkAt k) i m number s none is lies = absurd (none tt)

  -- a fork stands above the last bit, and is counted beside its sides
  pub fork-is : (part : Part) (i m number level : ℕ) (bits : List Bool) (s : Shape) → IsForkPart part
      → part_number part ≡ number → LaidAt h (take i entries) forks m number s → StandsAt bits s → length bits ≡ level
      → (level < 256) × (1 + (fork_count (half_shape false level s) + fork_count (half_shape true level s)) ≤
      fork_count s)
  fork-is Nothing i m number level bits s fork is lies stands long = absurd fork
  fork-is (EntryAt k) i m number level bits s fork is lies stands long = absurd fork
  fork-is (ForkAt k) i m number level bits s fork is lies stands long =
      let it = lies-fork h (take i entries) forks m number k s (sym is) lies in
      let at : StandsAt bits (Fork it.left it.right) = subst (StandsAt bits) it.is stands in (
        omega (arith, at.0, long),
        subst (λ s. 1 + (fork_count (half_shape false level s) + fork_count (half_shape true level s)) ≤ fork_count s)
            (sym it.is)
            (omega arith),
      )

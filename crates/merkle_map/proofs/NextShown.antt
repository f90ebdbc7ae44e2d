-- The next entry of the maps that a tree shows.
use Rattle.std.proofs.Common.{suc, ◌≡◌, ℕ, ◌+◌, ◌<◌, is_some, ◌⊎◌, Bool, true, false, not, ◌&&◌, cond, Option, Some, None, IsSome, List, [], ◌∷◌, Ok, Err, IfOk, arith, refl, ap, sym, ◌∙◌, subst, inl, inr}
use Rattle.std.specs.Str.{bytes_eq}
use Rattle.std.specs.Prelude.{if◌then◌else◌}
use Rattle.std.specs.Result.{IsErrAnd}
use Rattle.std.proofs.lemmas.Slice.Eq.{bytes_eq-Decides}
use Rattle.ark_base.specs.declared.error.Error.{Error}
use Rattle.ark_base.specs.Laws.Steps.{done_injective}
use Rattle.ark_base.specs.Outcome.{Outcome}
use Rattle.merkle_map.specs.Map.{Digest, Entry, Key, MapHashes, bit_of, has_bit, side, value_at}
use Rattle.merkle_map.specs.Order.{HasNext, HasNoneBetween, IsFirstBetween, IsKeyBelow, IsNextIn, IsNextKnown, IsOnSide, IsOrElse, IsOutside, next_seen, pair_seen}
use Rattle.merkle_map.specs.Tree.{Shape, Empty, One, Fork, Hidden, Shows, way}
use Rattle.merkle_map.proofs.Bound.{value_at-side}
use Rattle.merkle_map.proofs.Entries.{own_bit, other_bit}
use Rattle.merkle_map.proofs.Same.{side-has}

-- ---- one entry

only-key : (e : Entry) (key : Key) → IsSome (value_at key (e ∷ [])) → key ≡ e.key
only-key e key some = by_test (bytes_eq e.key key) refl some
  where
    by_test : (t : Bool) → bytes_eq e.key key ≡ t → IsSome (if t then Some e.value else value_at key []) → key ≡ e.key
    by_test true same some = sym ((bytes_eq-Decides e.key key).0 same)
    by_test false same some = absurd cc

only-there : (e : Entry) → value_at e.key (e ∷ []) ≡ Some e.value
only-there e = let same = (bytes_eq-Decides e.key e.key).1 refl in rw same refl

only-first : (first last : Key) (e : Entry) → ¬ IsOutside first last e.key → IsFirstBetween first last (e ∷ []) e
only-first first last e inside = record {
  there = only-there e;
  inside = inside;
  least = λ other some. inr (inl (only-key e other some));
}

only-none : (first last : Key) (e : Entry) → IsOutside first last e.key → HasNoneBetween first last (e ∷ [])
only-none first last e out = λ other some. subst (IsOutside first last) (sym (only-key e other some)) out

is-some : (key : Key) (value : Digest) (xs : List Entry) → value_at key xs ≡ Some value → IsSome (value_at key xs)
is-some key value xs is = subst (λ o. IsSome o) (sym is) refl

-- ---- the entries of two sides

-- the keys of a map begin as another does
abbrev AreOn : ℕ → Key → List Entry → Type 0
AreOn level from xs = (key : Key) → IsSome (value_at key xs) → way level key ≡ way level from

-- they begin alike
abbrev AreAlike : ℕ → List Entry → Type 0
AreAlike level xs = (key : Key) → IsSome (value_at key xs) → AreOn level key xs

-- what a side has at a key, the map has, and the key has the side's bit
in-side : (b : Bool) (level : ℕ) (key : Key) (xs : List Entry) → IsSome (value_at key (side b level xs))
    → (bit_of level key ≡ b) × (value_at key (side b level xs) ≡ value_at key xs)
in-side b level key xs some = by_bit (bit_of level key) refl b some
  where
    by_bit : (bit : Bool) → bit_of level key ≡ bit → (b : Bool) → IsSome (value_at key (side b level xs))
        → (bit_of level key ≡ b) × (value_at key (side b level xs) ≡ value_at key xs)
    by_bit true is true some = (
      is,
      side-has true level key xs ∙ ap (λ (t : Bool). cond t (value_at key xs) None)
          (own_bit true level key is),
    )
    by_bit false is false some = (
      is,
      side-has false level key xs ∙ ap (λ (t : Bool). cond t (value_at key xs) None)
          (own_bit false level key is),
    )
    by_bit true is false some =
        let none = side-has false level key xs ∙ ap (λ (t : Bool). cond t (value_at key xs) None)
        (other_bit true level key is) in
        let no : IsSome (let none : Option Digest = None in none) = subst (λ o. IsSome o) none some in absurd cc
    by_bit false is true some =
        let none = side-has true level key xs ∙ ap (λ (t : Bool). cond t (value_at key xs) None)
        (other_bit false level key is) in
        let no : IsSome (let none : Option Digest = None in none) = subst (λ o. IsSome o) none some in absurd cc

-- an entry of a map is on one of its sides
on-side : (level : ℕ) (key : Key) (xs : List Entry) → IsSome (value_at key xs)
    → ((bit_of level key ≡ false) × IsSome (value_at key (side false level xs)))
    ⊎ ((bit_of level key ≡ true) × IsSome (value_at key (side true level xs)))
on-side level key xs some = by_bit (bit_of level key) refl
  where
    there : (b : Bool) → bit_of level key ≡ b → IsSome (value_at key (side b level xs))
    there b is = subst (λ o. IsSome o) (sym (ap (λ (c : Bool). value_at key (side c level xs)) (sym is)
        ∙ value_at-side key level xs)) some

    by_bit : (b : Bool) → bit_of level key ≡ b → ((bit_of level key ≡ false) × IsSome (value_at key
        (side false level xs)))
        ⊎ ((bit_of level key ≡ true) × IsSome (value_at key (side true level xs)))
    by_bit false is = inl (is, there false is)
    by_bit true is = inr (is, there true is)

side-on : (b : Bool) (level : ℕ) (from : Key) (xs : List Entry) → bit_of level from ≡ b → AreOn level from xs
    → AreOn (suc level) from (side b level xs)
side-on b level from xs bit on = λ key some.
    let at = in-side b level key xs some in
    let rest = on key (subst (λ o. IsSome o) at.1 some) in
    ap (λ (c : Bool). c ∷ way level key) (at.0 ∙ sym bit) ∙ ap (λ l. bit_of level from ∷ l) rest

side-alike : (b : Bool) (level : ℕ) (xs : List Entry) → AreAlike level xs → AreAlike (suc level) (side b level xs)
side-alike b level xs alike = λ key some.
    let at = in-side b level key xs some in
    side-on b level key xs at.0 (alike key (subst (λ o. IsSome o) at.1 some))

-- the bit that a test finds
bit-of : (b : Bool) (i : ℕ) (key : Key) → has_bit b i key ≡ true → bit_of i key ≡ b
bit-of b i key has = by_bit (bit_of i key) refl b has
  where
    by_bit : (bit : Bool) → bit_of i key ≡ bit → (b : Bool) → has_bit b i key ≡ true → bit_of i key ≡ b
    by_bit true is true has = is
    by_bit false is false has = is
    by_bit true is false has = let no = other_bit true i key is in absurd cc
    by_bit false is true has = let no = other_bit false i key is in absurd cc

other-bit-of : (b : Bool) (i : ℕ) (key : Key) → has_bit (not b) i key ≡ false → bit_of i key ≡ b
other-bit-of b i key has = by_bit (bit_of i key) refl b has
  where
    by_bit : (bit : Bool) → bit_of i key ≡ bit → (b : Bool) → has_bit (not b) i key ≡ false → bit_of i key ≡ b
    by_bit true is true has = is
    by_bit false is false has = is
    by_bit true is false has = let no = own_bit true i key is in absurd cc
    by_bit false is true has = let no = own_bit false i key is in absurd cc

-- an entry on the left or on the right
abbrev IsOnEither : ℕ → List Entry → Key → Type 0
IsOnEither level xs other = ((bit_of level other ≡ false) × IsSome (value_at other (side false level xs)))
    ⊎ ((bit_of level other ≡ true) × IsSome (value_at other (side true level xs)))

module _ (first last : Key) (level : ℕ) (inside : level < 256) (xs : List Entry) where
  first-low : AreAlike level xs → (e : Entry) → IsFirstBetween first last (side false level xs) e
      → IsFirstBetween first last xs e
  first-low alike e f =
      let at = in-side false level e.key xs (is-some e.key e.value (side false level xs) f.there) in
      let there = sym at.1 ∙ f.there in
      record {
        there = there;
        inside = f.inside;
        least = λ other some. by_side other (is-some e.key e.value xs there) at.0 some (on-side level other xs some);
      }
    where
      by_side : (other : Key) → IsSome (value_at e.key xs) → bit_of level e.key ≡ false → IsSome (value_at other xs)
          → IsOnEither level xs other
          → IsOutside first last other ⊎ ((other ≡ e.key) ⊎ IsKeyBelow e.key other)
      by_side other own bit some (inl left) = f.least other left.1
      by_side other own bit some (inr right) = inr (inr (record {
        level = level;
        inside = inside;
        alike = alike other some e.key own;
        low = bit;
        high = right.0;
      }))

  first-high : HasNoneBetween first last (side false level xs) → (e : Entry)
      → IsFirstBetween first last (side true level xs) e → IsFirstBetween first last xs e
  first-high none e f =
      let at = in-side true level e.key xs (is-some e.key e.value (side true level xs) f.there) in
      record {
        there = sym at.1 ∙ f.there;
        inside = f.inside;
        least = λ other some. by_side other (on-side level other xs some);
      }
    where
      by_side : (other : Key) → IsOnEither level xs other
          → IsOutside first last other ⊎ ((other ≡ e.key) ⊎ IsKeyBelow e.key other)
      by_side other (inl left) = inl (none other left.1)
      by_side other (inr right) = f.least other right.1

  none-both : HasNoneBetween first last (side false level xs) → HasNoneBetween first last (side true level xs)
      → HasNoneBetween first last xs
  none-both no_left no_right = λ other some. by_side other (on-side level other xs some)
    where
      by_side : (other : Key) → IsOnEither level xs other → IsOutside first last other
      by_side other (inl left) = no_left other left.1
      by_side other (inr right) = no_right other right.1

  -- a side outside has none inside
  none-low : AreOn level first xs → has_bit true level first ≡ true → HasNoneBetween first last (side false level xs)
  none-low on bit = λ other some.
      let at = in-side false level other xs some in
      inl (record {
        level = level;
        inside = inside;
        alike = on other (subst (λ o. IsSome o) at.1 some);
        low = at.0;
        high = bit;
      })

  none-high : AreOn level last xs → has_bit false level last ≡ true → HasNoneBetween first last (side true level xs)
  none-high on bit = λ other some.
      let at = in-side true level other xs some in
      inr (record {
        level = level;
        inside = inside;
        alike = sym (on other (subst (λ o. IsSome o) at.1 some));
        low = bit-of false level last bit;
        high = at.0;
      })

-- ---- trees

-- the entries begin alike, and as a key does where they are on its way
record AreOnWays (on_first on_last : Bool) (level : ℕ) (first last : Key) (xs : List Entry) : Type 0 where
  pub alike : AreAlike level xs
  pub as_first : on_first ≡ true → AreOn level first xs
  pub as_last : on_last ≡ true → AreOn level last xs

-- so do those of a side, where the key has its bit
side-ways : (b : Bool) (on_first on_last to_first to_last : Bool) (level : ℕ) (first last : Key) (xs : List Entry)
    → AreOnWays on_first on_last level first last xs
    → (to_first ≡ true → (on_first ≡ true) × (bit_of level first ≡ b))
    → (to_last ≡ true → (on_last ≡ true) × (bit_of level last ≡ b))
    → AreOnWays to_first to_last (suc level) first last (side b level xs)
side-ways b on_first on_last to_first to_last level first last xs on with_first with_last = record {
  alike = side-alike b level xs on.alike;
  as_first = λ to. let w = with_first to in side-on b level first xs w.1 (on.as_first w.0);
  as_last = λ to. let w = with_last to in side-on b level last xs w.1 (on.as_last w.0);
}

pub both-true : (a b : Bool) → (a && b) ≡ true → (a ≡ true) × (b ≡ true)
both-true true b is = (refl, is)
both-true false b is = absurd cc

-- where a key on whose way a tree stands does not turn to a side, it goes on to the other
pub goes-on-with : (b on : Bool) (level : ℕ) (key : Key) → (on && has_bit (not b) level key) ≡ false → on ≡ true
    → (on ≡ true) × (bit_of level key ≡ b)
goes-on-with b true level key off on = (refl, other-bit-of b level key off)
goes-on-with b false level key off on = absurd cc

pub turns-with : (b on : Bool) (level : ℕ) (key : Key) → (on && has_bit b level key) ≡ true
    → (on ≡ true) × (bit_of level key ≡ b)
turns-with b on level key has =
    let both = both-true on (has_bit b level key) has in (both.0, bit-of b level key both.1)

module _ (h : MapHashes) (first last : Key) where
  next-shows : (on_first on_last : Bool) (level : ℕ) (tree : Shape) (xs : List Entry) (found : Option Entry)
      → Shows h level tree xs → AreOnWays on_first on_last level first last xs
      → IsNextKnown on_first on_last level first last tree (Ok found) → IsNextIn first last xs found
  next-shows on_first on_last level Empty xs found shown on is =
      subst (IsNextIn first last xs) (sym (done_injective {E = Error} found None is))
      (subst (λ l. IsNextIn first last l None) (sym shown) (λ other some. absurd cc))
  next-shows on_first on_last level (One entry) xs found shown on (inl at) =
      subst (IsNextIn first last xs) (sym (done_injective {E = Error} found None at.1))
      (subst (λ l. IsNextIn first last l None) (sym shown) (only-none first last entry at.0))
  next-shows on_first on_last level (One entry) xs found shown on (inr at) =
      subst (IsNextIn first last xs) (sym (done_injective {E = Error} found (Some entry) at.1))
      (subst (λ l. IsNextIn first last l (Some entry)) (sym shown) (only-first first last entry at.0))
  next-shows on_first on_last level (Hidden digest) xs found shown on is = absurd cc
  next-shows on_first on_last level (Fork left right) xs found shown on is =
      let below = on_first && has_bit true level first in
      let above = on_last && has_bit false level last in
      by_left is.0 is.2
      (λ own e. on_left below refl own (subst (IsOnSide below (IsNextKnown on_first above (suc level) first last
      left)) e
      is.1)
      (λ off known. next-shows on_first above (suc level) left (side false level xs) own shown.2
      (side-ways false on_first on_last on_first above level first last xs on
      (goes-on-with false on_first level first off) (turns-with false on_last level last)) known))
      (λ looked. on_right above refl looked
      (λ off known. next-shows below on_last (suc level) right (side true level xs) found shown.3
      (side-ways true on_first on_last below on_last level first last xs on (turns-with true on_first level first)
      (goes-on-with true on_last level last off)) known))
    where
      on_left : (below : Bool) → (on_first && has_bit true level first) ≡ below → (own : Option Entry)
          → IsOnSide below (IsNextKnown on_first (on_last && has_bit false level last) (suc level) first last left)
          (Ok own)
          → (below ≡ false → IsNextKnown on_first (on_last && has_bit false level last) (suc level) first last left
          (Ok own)
          → IsNextIn first last (side false level xs) own)
          → IsNextIn first last (side false level xs) own
      on_left true turned own is looked =
          let w = both-true on_first (has_bit true level first) turned in
          subst (IsNextIn first last (side false level xs)) (sym (done_injective {E = Error} own None is))
          (none-low first last level shown.0 xs (on.as_first w.0) w.1)
      on_left false turned own is looked = looked refl is

      on_right : (above : Bool) → (on_last && has_bit false level last) ≡ above
          → IsOnSide above (IsNextKnown (on_first && has_bit true level first) on_last (suc level) first last right)
          (Ok found)
          → (above ≡ false → IsNextKnown (on_first && has_bit true level first) on_last (suc level) first last right
          (Ok found) → IsNextIn first last (side true level xs) found)
          → IsNextIn first last (side true level xs) found
      on_right true turned is looked =
          let w = both-true on_last (has_bit false level last) turned in
          subst (IsNextIn first last (side true level xs)) (sym (done_injective {E = Error} found None is))
          (none-high first last level shown.0 xs (on.as_last w.0) w.1)
      on_right false turned is looked = looked refl is

      both : (own : Option Entry) → HasNoneBetween first last (side false level xs)
          → IsNextIn first last (side true level xs) own → IsNextIn first last xs own
      both None no_left no_right = none-both first last level shown.0 xs no_left no_right
      both (Some e) no_left f = first-high first last level shown.0 xs no_left e f

      by_left : (l : Outcome (Option Entry))
          → IsOrElse l (IsOnSide (on_last && has_bit false level last)
          (IsNextKnown (on_first && has_bit true level first) on_last (suc level) first last right)) (Ok found)
          → ((own : Option Entry) → l ≡ Ok own → IsNextIn first last (side false level xs) own)
          → (IsOnSide (on_last && has_bit false level last)
          (IsNextKnown (on_first && has_bit true level first) on_last (suc level) first last right) (Ok found)
          → IsNextIn first last (side true level xs) found)
          → IsNextIn first last xs found
      by_left (Err error) is lefts right = absurd cc
      by_left (Ok None) is lefts right = both found (lefts None refl) (right is)
      by_left (Ok (Some own)) is lefts right =
          subst (IsNextIn first last xs) (sym (done_injective {E = Error} found (Some own) is))
          (first-low first last level shown.0 xs on.alike own (lefts (Some own) refl))

-- what a call found, each map has there first
pub next-has : (tree : Shape) (first last : Key) (result : Outcome (Option (Key × Digest)))
    → IsNextKnown true true 0 first last tree (next_seen result)
    → IfOk result (λ found. HasNext tree first last (pair_seen found))
next-has tree first last (Ok found) is = λ h xs shown.
    next-shows h first last true true 0 tree xs (pair_seen found) shown (record {
      alike = λ key some other there. refl;
      as_first = λ on key some. refl;
      as_last = λ on key some. refl;
    }) is
next-has tree first last (Err error) is = tt

-- ---- the code's steps

module _ (on_first on_last : Bool) (level : ℕ) {whole left right : Shape} (fork : whole ≡ Fork left right)
    (first last : Key) (below above : Bool) (is_below : below ≡ (on_first && has_bit true level first))
    (is_above : above ≡ (on_last && has_bit false level last)) (found outcome : Outcome (Option Entry))
    (on_left : IsOnSide below (IsNextKnown on_first above (level + 1) first last left) found) where
  -- a tree that forks has what its sides have
  known-fork : IsOrElse found (IsOnSide above (IsNextKnown below on_last (level + 1) first last right)) outcome
      → IsNextKnown on_first on_last level first last whole outcome
  known-fork on_right =
      let next : level + 1 ≡ suc level = omega arith in
      subst (λ s. IsNextKnown on_first on_last level first last s outcome) (sym fork)
      (subst (λ a. (found : Outcome (Option Entry))
      × IsOnSide (on_first && has_bit true level first) (IsNextKnown on_first a (suc level) first last left) found
      × IsOrElse found (IsOnSide a (IsNextKnown (on_first && has_bit true level first) on_last (suc level) first last
      right)) outcome) is_above
      (subst (λ b. (found : Outcome (Option Entry))
      × IsOnSide b (IsNextKnown on_first above (suc level) first last left) found
      × IsOrElse found (IsOnSide above (IsNextKnown b on_last (suc level) first last right)) outcome) is_below
      (subst (λ n. (found : Outcome (Option Entry))
      × IsOnSide below (IsNextKnown on_first above n first last left) found
      × IsOrElse found (IsOnSide above (IsNextKnown below on_last n first last right)) outcome) next
      (found, on_left, on_right))))

  pub known-refused : (error : Error) → found ≡ Err error → outcome ≡ Err error
      → IsNextKnown on_first on_last level first last whole outcome
  known-refused error e is = known-fork (subst (λ o. IsOrElse o
      (IsOnSide above (IsNextKnown below on_last (level + 1) first last right)) outcome) (sym e) is)

  pub known-left : (own : Option (Key × Digest)) → found ≡ next_seen (Ok own) → is_some own ≡ true
      → outcome ≡ next_seen (Ok own) → IsNextKnown on_first on_last level first last whole outcome
  known-left None e some is = absurd cc
  known-left (Some pair) e some is = known-fork (subst (λ o. IsOrElse o
      (IsOnSide above (IsNextKnown below on_last (level + 1) first last right)) outcome) (sym e) is)

  pub known-right : (own : Option (Key × Digest)) → found ≡ next_seen (Ok own) → is_some own ≡ false
      → IsOnSide above (IsNextKnown below on_last (level + 1) first last right) outcome
      → IsNextKnown on_first on_last level first last whole outcome
  known-right None e none is = known-fork (subst (λ o. IsOrElse o
      (IsOnSide above (IsNextKnown below on_last (level + 1) first last right)) outcome) (sym e) is)
  known-right (Some pair) e none is = absurd cc

-- what is not outside is looked for
pub looked-for : (out : Bool) (P : Outcome (Option Entry) → Type 0) (outcome : Outcome (Option Entry)) → out ≡ false
    → P outcome → IsOnSide out P outcome
looked-for true P outcome within is = absurd cc
looked-for false P outcome within is = is

-- a refusal that is passed on
pub refused : (result : Outcome (Option (Key × Digest))) (error : Error) → IsErrAnd result (λ e. e ≡ error)
    → next_seen result ≡ Err error
refused (Ok found) error is = absurd is
refused (Err e) error is = ap (λ e. next_seen (Err e)) is

-- How many pairs the check of a multi-proof has hashed, place by place.
use Rattle.std.proofs.Common.{suc, ◌≡◌, ℕ, ◌+◌, ◌-◌, ◌*◌, ◌<◌, ◌≤◌, Bool, true, false, nat_eq, nat_lt, if◌then◌else◌, ◌&&◌, Option, Some, None, List, [], ◌∷◌, ◌++◌, length, map, take, drop, get_or, slice_get, reverse, Ok, arith, refl, ap, sym, ◌∙◌, subst, length-append, length-take, append_assoc, add-one}
use Rattle.std.proofs.Math.Nat.{mul-le-mul_right}
use Rattle.std.proofs.Math.Seq.{get_or-append_seam}
use Rattle.std.proofs.lemmas.Bool.{eqb-true, le-ltb}
use Rattle.std.proofs.lemmas.List.{drop_more, get_or-map, length-map, map-append, reverse-append, reverse-reverse, take_all, take_more}
use Rattle.std.specs.Iterator.{Yields}
use Rattle.ark_base.specs.Outcome.{Outcome}
use Rattle.ark_paths.specs.Above.{count_above}
use Rattle.ark_paths.specs.Asked.{CountsOwn, IsOwn, RisesBy}
use Rattle.ark_paths.specs.Index.{log2}
use Rattle.ark_paths.specs.MultiPath.{MultiWay, path_length, path_of_parts, decoded_path, decoded_paths_from, decoded_paths}
use Rattle.ark_paths.specs.Pair.{Digest, HashPair}
use Rattle.ark_paths.specs.Path.{Way}
use Rattle.ark_paths.specs.Root.{upper_levels}
use Rattle.ark_paths.specs.Table.{HasPairs, HoldsTree, IsWalked, Walk, pair_at, places_above}
use Rattle.ark_paths.specs.Tree.{own_path}
use Rattle.ark_paths.specs.declared.multi_path.table.Table.{Table}
use Rattle.ark_paths.proofs.CountsAbove.{count_above-none, count_above-reverse}
use Rattle.ark_paths.proofs.MultiWalks.{Yields-more}
use Rattle.ark_paths.proofs.OwnPairs.{log2-size, length-own_path, own_path-pairs}
use Rattle.ark_paths.proofs.Tables.{HoldsPlaces-same}

-- ---- what was decoded

-- the paths before a place, and those from there on
pub record Decoded (m : MultiWay) (place : ℕ) (before : List Digest) : Type 0 where
  pub first : List (Option Way)
  pub each : length first ≡ place
  pub split : decoded_paths m ≡ first ++ decoded_paths_from m place before (drop place m.indexes)

pub Decoded-first : (m : MultiWay) → Decoded m 0 []
Decoded-first m = record { first = []; each = refl; split = refl }

-- ---- at most

pub most-all : (start now place count most : ℕ) → place ≤ count → now ≤ start + place * suc most
    → now ≤ start + count * suc most
most-all start now place count most below before = omega (arith, before, mul-le-mul_right (suc most) below)

pub RisesBy-more : (before after start mid end : ℕ) → before ≤ after → RisesBy before start mid
    → RisesBy (after - before) mid end → RisesBy after start end
RisesBy-more before after start mid end grows one two = omega (arith, grows, one, two)

-- ---- a tree's own

-- the digests at the indexes
abbrev pub at_indexes : List Digest → MultiWay → List (Outcome Digest)
at_indexes digests m = map (λ i. Ok (get_or digests i [])) m.indexes

length-at : (digests : List Digest) (m : MultiWay) → length (at_indexes digests m) ≡ length m.indexes
length-at digests m = length-map {B = Outcome Digest} m.indexes (λ i. Ok (get_or digests i []))

-- As many were made as there are places above the indexes so far, if the multi-proof with the leaves so far is a tree's
-- own.
abbrev pub Tallied : {A L D : Type 0} → (L → Digest) → (D → Digest) → HashPair → Digest → MultiWay
    → (A → Outcome Digest) → ℕ → List A → Table L D → Type 0
Tallied leaf inner h root m view place taken table =
    (digests : List Digest) → IsOwn h digests root (at_indexes digests m) m → map view taken
    ≡ take place (at_indexes digests m)
    → HoldsTree leaf inner (pair_at h digests) (upper_levels digests) 0 0 (reverse (take place m.indexes)) table
    × (length table.made.items ≡ count_above (suc (upper_levels digests)) (reverse (take place m.indexes)))

-- The leaves that an iterator gave, one for each place before, and what was made of them.
pub record Counted {S A L D : Type 0} (steps : S → Option A → S → Type 0) (start here : S) (leaf : L → Digest)
    (inner : D → Digest) (h : HashPair) (root : Digest) (m : MultiWay) (view : A → Outcome Digest) (place : ℕ)
    (table : Table L D) : Type 0 where
  pub taken : List A
  pub gave : Yields steps start taken here
  pub each : length taken ≡ place
  pub tallied : Tallied leaf inner h root m view place taken table

some_same : {A : Type 0} (a b : A) → ◌≡◌ {A = Option A} (Some a) (Some b) → a ≡ b
some_same a b is = cc

-- two lists with an item behind each
snoc-same : {A : Type 0} (xs ys : List A) (x y : A) → xs ++ x ∷ [] ≡ ys ++ y ∷ [] → (xs ≡ ys) × (x ≡ y)
snoc-same xs ys x y is =
    let back : x ∷ reverse xs ≡ y ∷ reverse ys =
    sym (reverse-append xs (x ∷ [])) ∙ ap reverse is ∙ reverse-append ys (y ∷ []) in
    let rest : reverse xs ≡ reverse ys = cc in
    (sym (reverse-reverse xs) ∙ ap reverse rest ∙ reverse-reverse ys, cc)

-- at level 0 no further leaf counts
HoldsTree-any : {L D : Type 0} {leaf : L → Digest} {inner : D → Digest} {pairs : ℕ × ℕ → Digest × Digest}
    {above i : ℕ} (j : ℕ) {seen : List ℕ} {table : Table L D} → HoldsTree leaf inner pairs above 0 i seen table
    → HoldsTree leaf inner pairs above 0 j seen table
HoldsTree-any {above = above} {i = i} j {seen = seen} holds =
    record {
      lowest = HoldsPlaces-same (same (λ l. nat_eq l 0)) holds.lowest;
      upper = HoldsPlaces-same (same (λ l. nat_lt 0 l && nat_lt l (suc above))) holds.upper;
    }
  where
    same : (picks : ℕ → Bool) (place : ℕ × ℕ) → places_above picks 0 i seen place ≡ places_above picks 0 j seen place
    same picks (l, n) = rw (le-ltb l 0 (omega arith)) refl

-- at a place that decodes
module _ {m : MultiWay} {place : ℕ} {before : List Digest} (decoded : Decoded m place before)
    (below : place < length m.indexes) {sibling : Digest} {above : List Digest}
    (fit : (index : ℕ) → decoded_path m place before index
    ≡ Some (record { sibling = sibling; above = above; index = index })) where
  abbrev index : ℕ
  index = get_or m.indexes place 0

  abbrev way : Way
  way = record { sibling = sibling; above = above; index = index }

  abbrev rest : List (Option Way)
  rest = decoded_paths_from m (suc place) above (drop (place + 1) m.indexes)

  from_here : decoded_paths m ≡ decoded.first ++ Some way ∷ rest
  from_here = decoded.split ∙ rw (drop_more m.indexes place 0 below, fit index) refl

  pub Decoded-next : Decoded m (place + 1) above
  Decoded-next = record {
    first = decoded.first ++ Some way ∷ [];
    each = length-append decoded.first (Some way ∷ []) ∙ ap (λ (n : ℕ). n + 1) decoded.each;
    split = from_here ∙ sym (append_assoc decoded.first (Some way ∷ []) rest) ∙ ap (λ (n : ℕ).
        (decoded.first ++ Some way ∷ []) ++ decoded_paths_from m n above (drop (place + 1) m.indexes))
        (sym (add-one place));
  }

  -- a tree's own path
  own-here : {h : HashPair} {digests : List Digest} {root : Digest} {leaves : List (Outcome Digest)}
      → IsOwn h digests root leaves m → way ≡ own_path h index digests
  own-here {h = h} {digests = digests} own =
      let at = λ (ways : List (Option Way)). get_or ways place None in
      let one : at (decoded_paths m) ≡ Some way = ap at from_here
      ∙ ap (λ (n : ℕ). get_or (decoded.first ++ Some way ∷ rest) n None) (sym decoded.each)
      ∙ get_or-append_seam decoded.first (Some way) rest None in
      some_same _ _ (sym one ∙ ap at own.paths ∙ get_or-map (λ i. Some (own_path h i digests)) m.indexes place 0 None
      below)

  -- no path is longer than the first
  decoded-short : length above ≤ path_length m
  decoded-short = by_parts (slice_get m.siblings place) (slice_get m.prefixes place) (slice_get m.suffixes place)
      (fit index)
    where
      by_count : (sibling : Digest) (prefix : ℕ) (suffix : List Digest) (fits : Bool) → nat_eq (prefix + length suffix)
          (path_length m) ≡ fits
          → (if fits then Some (record { sibling = sibling; above = take prefix before ++ suffix; index = index }) else
          None) ≡ Some way → length above ≤ path_length m
      by_count sibling prefix suffix true e found =
          let same = ap (λ (w : Way). length w.above) (some_same _ way found) in
          let sum = eqb-true (prefix + length suffix) (path_length m) e in
          omega (arith, same, sum, length-append (take prefix before) suffix, length-take prefix before)
      by_count sibling prefix suffix false e found = absurd cc

      by_parts : (sibling : Option Digest) (prefix : Option ℕ) (suffix : Option (List Digest)) → path_of_parts
          (path_length m) before index sibling prefix suffix ≡ Some way → length above ≤ path_length m
      by_parts None prefix suffix found = absurd cc
      by_parts (Some sibling) None suffix found = absurd cc
      by_parts (Some sibling) (Some prefix) None found = absurd cc
      by_parts (Some sibling) (Some prefix) (Some suffix) found = by_count sibling prefix suffix _ refl found

  module _ (start now later count : ℕ) (long : length above ≡ count) (so : now ≤ start + place * suc (path_length m))
      (more : later ≤ now + suc count) where
    pub most-there : later ≤ start + (place + 1) * suc (path_length m)
    most-there =
        let one : (place + 1) * suc (path_length m) ≡ place * suc (path_length m) + suc (path_length m) = grind arith in
        omega (arith, one, decoded-short, long, so, more)

    pub most-next : later ≤ start + length m.indexes * suc (path_length m)
    most-next = most-all start later (place + 1) (length m.indexes) (path_length m) (omega (arith, below)) most-there

  pub Counted-next : {S A L D : Type 0} {steps : S → Option A → S → Type 0} {start here next : S} {leaf : L → Digest}
      {inner : D → Digest} {h : HashPair} {root : Digest} {view : A → Outcome Digest} {item : A} {old new : Walk L D}
      → Counted steps start here leaf inner h root m view place old.table → steps here (Some item) next
      → IsWalked leaf inner h way (view item) old new
      → Counted steps start next leaf inner h root m view (place + 1) new.table
  Counted-next {steps = steps} {start = start} {here = here} {next = next} {leaf = leaf} {inner = inner} {h = h}
      {root = root} {view = view} {item = item} {old = old} {new = new} counted step walked =
      record {
        taken = counted.taken ++ item ∷ [];
        gave = Yields-more steps start here next counted.taken item counted.gave step;
        each = length-append counted.taken (item ∷ []) ∙ ap (λ (n : ℕ). n + 1) counted.each;
        tallied = tallied;
      }
    where
      tallied : Tallied leaf inner h root m view (place + 1) (counted.taken ++ item ∷ []) new.table
      tallied digests own same =
          let fs = at_indexes digests m in
          let inside_fs : place < length fs = omega (arith, below, length-at digests m) in
          let at : get_or fs place (Ok []) ≡ Ok (get_or digests index []) =
          get_or-map (λ i. Ok (get_or digests i [])) m.indexes place 0 (Ok []) below in
          let parts = snoc-same (map view counted.taken) (take place fs) (view item) (get_or fs place (Ok []))
          (sym (map-append view counted.taken (item ∷ [])) ∙ same ∙ take_more fs place (Ok []) inside_fs) in
          let mine = own-here own in
          let levels_are : length above ≡ upper_levels digests =
          ap (λ (w : Way). length w.above) mine ∙ length-own_path h index digests in
          let pairs = subst (λ (w : Way). HasPairs h w (get_or digests index []) (pair_at h digests)) (sym mine)
          (own_path-pairs h digests root own.size own.rooted index (own.inside place 0 below)) in
          let so = counted.tallied digests own parts.0 in
          let seen = reverse (take place m.indexes) in
          let one = walked.holds (pair_at h digests) seen (get_or digests index [])
          (rw levels_are (HoldsTree-any index so.0)) (parts.1 ∙ at) pairs in
          let count = subst (λ (n : ℕ). length new.table.made.items + count_above (suc n) seen
          ≡ length old.table.made.items + count_above (suc n) (index ∷ seen)) levels_are one.1 in
          let next : index ∷ seen ≡ reverse (take (place + 1) m.indexes) =
          sym (reverse-append (take place m.indexes) (index ∷ []))
          ∙ ap reverse (sym (take_more m.indexes place 0 below)) in
          rw (← next) (HoldsTree-any 0 (rw levels_are at one.0), omega (arith, count, so.1))

-- ---- with the leaves that an iterator gave

module _ {S A L D : Type 0} {steps : S → Option A → S → Type 0} {start : S} {leaf : L → Digest} {inner : D → Digest}
    {h : HashPair} {root : Digest} {m : MultiWay} {view : A → Outcome Digest} where
  pub Counted-first : {table : Table L D} → table.made.items ≡ [] → ((pairs : ℕ × ℕ → Digest × Digest) (above : ℕ)
      → HoldsTree leaf inner pairs above 0 0 [] table) → Counted steps start start leaf inner h root m view 0 table
  Counted-first none holds = record {
    taken = [];
    gave = refl;
    each = refl;
    tallied = λ digests own same. (
      holds (pair_at h digests) (upper_levels digests),
      ap length none ∙ sym (count_above-none (suc (upper_levels digests))),
    );
  }

  -- at the end
  pub Counted-all : {here : S} {place : ℕ} {table : Table L D} (before after : ℕ) → Counted steps start here leaf inner
      h root m view place table → length m.indexes ≡ place → RisesBy (length table.made.items) before after
      → CountsOwn steps view start h root m before after
  Counted-all {here = here} {place = place} {table = table} before after counted end rises =
      record {
        taken = counted.taken;
        behind = here;
        gave = counted.gave;
        each = counted.each ∙ sym end;
        exact = exact;
      }
    where
      exact : (digests : List Digest) → IsOwn h digests root (map view counted.taken) m
          → RisesBy (count_above (log2 (length digests)) m.indexes) before after
      exact digests own =
          let plain : IsOwn h digests root (at_indexes digests m) m =
          record { size = own.size; rooted = own.rooted; inside = own.inside; paths = own.paths; hashed = refl } in
          let whole : take place (at_indexes digests m) ≡ at_indexes digests m =
          take_all place (at_indexes digests m) (omega (arith, end, length-at digests m)) in
          let so = counted.tallied digests plain (own.hashed ∙ sym whole) in
          let all = take_all place m.indexes (omega (arith, end)) in
          let reversed = count_above-reverse (suc (upper_levels digests)) m.indexes in
          subst (λ (n : ℕ). RisesBy n before after) (rw (log2-size digests own.size, ← reversed, ← all) so.1) rises

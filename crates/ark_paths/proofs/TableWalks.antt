-- The way up from a leaf, over a table of hashed pairs.
use Rattle.std.proofs.Common.{suc, ◌≡◌, ◌≢◌, ℕ, ◌+◌, ◌-◌, ◌/◌, ◌^◌, ◌<◌, ◌≤◌, ◌++◌, ◌&&◌, Bool, true, false, cond, nat_eq, nat_lt, List, [], ◌∷◌, length, map, drop, get_or, Ok, Err, arith, refl, ap, sym, ◌∙◌, subst, inl, inr, length-drop, add-one}
use Rattle.std.proofs.lemmas.Bool.{and_parts, eq-eqb, eqb-true, lt-ltb, le-ltb, ltb-true, ne_eqb}
use Rattle.std.proofs.lemmas.Bool.Decides.{eqb_tells, nat_tests}
use Rattle.std.proofs.lemmas.List.{drop_more, drop_all}
use Rattle.ark_base.specs.declared.error.Error.{Error}
use Rattle.ark_base.specs.Laws.Steps.{done_injective}
use Rattle.ark_base.specs.Outcome.{Outcome, ◌>>=◌}
use Rattle.ark_paths.specs.Above.{count_above}
use Rattle.ark_paths.specs.Asked.{RisesBy}
use Rattle.ark_paths.specs.Bind.{couple}
use Rattle.ark_paths.specs.Index.{bit_at}
use Rattle.ark_paths.specs.Pair.{Digest, HashPair, digest_eq, hash_in_order}
use Rattle.ark_paths.specs.Path.{Way, climb, path_root, verdict}
use Rattle.ark_paths.specs.Table.{Extends, HasPairs, HoldsTree, IsServed, IsTable, IsWalked, Walk, is_above, pair_seen, places_above, row_of, walk_of, with_place}
use Rattle.ark_paths.specs.declared.multi_path.table.Pair.{Pair}
use Rattle.ark_paths.specs.declared.multi_path.table.Table.{Table}
use Rattle.ark_paths.proofs.Binds.{bound_alone}
use Rattle.ark_paths.proofs.Climbs.{beside-at, so_far-refused, so_far-up}
use Rattle.ark_paths.proofs.CountsAbove.{places_on-more}
use Rattle.ark_paths.proofs.OwnPaths.{hashed-couple}
use Rattle.ark_paths.proofs.Tables.{AllMade-more, Extends-itself, get_or-push, length-Extends, HoldsPlaces-more, HoldsPlaces-same}

-- ---- the path up to a level

module _ (h : HashPair) (way : Way) (digest : Digest) where
  -- the path of the lowest digests
  abbrev pub lower : ℕ → Way
  lower level =
      record { sibling = way.sibling; above = drop (length way.above - level) way.above; index = way.index }

  -- an error on the way is that of the whole
  path_root-refused : (level : ℕ) (e : Error) → path_root h (lower level) digest ≡ Err e → path_root h way digest
      ≡ Err e
  path_root-refused level e refused =
      by_lowest (hash_in_order h.bottom (bit_at way.index 0) digest way.sibling) refused
    where
      by_lowest : (o : Outcome Digest) → (o >>= λ lowest. climb h.upper way.index (lower level).above lowest) ≡ Err e
          → (o >>= λ lowest. climb h.upper way.index way.above lowest) ≡ Err e
      by_lowest (Ok lowest) at = so_far-refused h.upper way.index way.above lowest (length way.above - level) e at
      by_lowest (Err f) at = at

  -- the lowest pair
  module _ {asked : Digest × Digest} (is : asked ≡ couple (bit_at way.index 0) digest way.sibling) where
    none_above : drop (length way.above - 0) way.above ≡ []
    none_above = drop_all (length way.above - 0) way.above (omega arith)

    path_root-lowest : path_root h (lower 0) digest ≡ h.bottom asked.0 asked.1
    path_root-lowest = rw (none_above, is) (bound_alone (hash_in_order h.bottom (bit_at way.index 0) digest way.sibling)
        ∙ sym (hashed-couple h.bottom (bit_at way.index 0) digest way.sibling))

    path_pair-lowest : (pairs : ℕ × ℕ → Digest × Digest) → HasPairs h way digest pairs → asked
        ≡ pairs (0, way.index / 2 ^ 1)
    path_pair-lowest pairs has = is ∙ done_injective _ _ (sym (rw none_above refl) ∙ has 0 (omega arith))

    pub lowest-refused : (e : Error) → h.bottom asked.0 asked.1 ≡ Err e → path_root h way digest ≡ Err e
    lowest-refused e refused = path_root-refused 0 e (path_root-lowest ∙ refused)

  -- a pair above it
  module _ {level : ℕ} {current : Digest} (so : path_root h (lower level) digest ≡ Ok current)
      (below : level < length way.above) {asked : Digest × Digest}
      (is : asked ≡ couple (bit_at way.index (suc level)) current (get_or way.above (length way.above - suc level)
      [])) where
    abbrev beside : Digest
    beside = get_or way.above (length way.above - suc level) []

    path_root-up : path_root h (lower (suc level)) digest ≡ h.upper asked.0 asked.1
    path_root-up = rw is (by_lowest (hash_in_order h.bottom (bit_at way.index 0) digest way.sibling) so
        ∙ sym (hashed-couple h.upper (bit_at way.index (suc level)) current beside))
      where
        by_lowest : (o : Outcome Digest) → (o >>= λ lowest. climb h.upper way.index (lower level).above lowest)
            ≡ Ok current → (o >>= λ lowest. climb h.upper way.index (lower (suc level)).above lowest)
            ≡ hash_in_order h.upper (bit_at way.index (suc level)) current beside
        by_lowest (Ok lowest) climbed =
            so_far-up h.upper way.index way.above lowest level current beside below refl climbed
        by_lowest (Err e) climbed = absurd cc

    path_pair-up : (pairs : ℕ × ℕ → Digest × Digest) → HasPairs h way digest pairs → asked
        ≡ pairs (suc level, way.index / 2 ^ suc (suc level))
    path_pair-up pairs has =
        let k = length way.above - suc level in
        let under : k + 1 ≡ length way.above - level = omega (arith, below) in
        let here : drop k way.above ≡ beside ∷ drop (length way.above - level) way.above =
        drop_more way.above k [] (omega (arith, below)) ∙ ap (λ (n : ℕ). beside ∷ drop n way.above) under in
        let long : suc (length (drop (length way.above - level) way.above)) ≡ suc level =
        omega (arith, below, length-drop (length way.above - level) way.above) in
        is ∙ done_injective _ _ (sym (rw (here, so, long) refl) ∙ has (suc level) (omega (arith, below)))

    upper-refused : (e : Error) → h.upper asked.0 asked.1 ≡ Err e → path_root h way digest ≡ Err e
    upper-refused e refused = path_root-refused (suc level) e (path_root-up ∙ refused)

-- the pair of a leaf's digest, the last of the list, and the one beside it
pub seen-lowest : {X : Type 0} (leaf : X → Digest) (before after : List X) (x : X) (own index : ℕ) (is_right : Bool)
    (sibling : Digest) → after ≡ before ++ x ∷ [] → own ≡ length before → is_right ≡ bit_at index 0
    → couple is_right (get_or (map leaf after) own []) sibling ≡ couple (bit_at index 0) (leaf x) sibling
seen-lowest leaf before after x own index is_right sibling put last turned =
    rw (get_or-push leaf before after x own put last, turned) refl

-- the pair of a digest above the leaves and the one that the path has beside it
pub seen-upper : {X : Type 0} (view : X → Digest) (items : List X) (index k level : ℕ) (is_right : Bool) (x : X)
    (current : Digest) → level < length items → k ≡ length items - (level + 1) → x ≡ get_or items k x
    → is_right ≡ bit_at index (level + 1) → couple is_right current (view x)
    ≡ couple (bit_at index (suc level)) current (get_or (map view items) (length (map view items) - suc level) [])
seen-upper view items index k level is_right x current below at is turned = rw (
  turned,
  beside-at view items k level x below (omega (arith, at)) is,
  add-one level,
) refl

-- ---- the places on the way

lt-itself : (n : ℕ) → nat_lt n n ≡ false
lt-itself n = le-ltb n n (omega arith)

module _ (picks : ℕ → Bool) (level index : ℕ) (seen : List ℕ) where
  asked-here : picks level ≡ true → places_above picks level index seen (level, index / 2 ^ suc level)
      ≡ is_above level seen (index / 2 ^ suc level)
  asked-here is = rw (is, lt-itself level) refl

  -- on another level nothing changes
  lt-other : (l : ℕ) → level ≢ l → nat_lt l (suc level) ≡ nat_lt l level
  lt-other l other = grind (arith, nat_tests)

  -- one more place
  placed-here : picks level ≡ true → (place : ℕ × ℕ) → with_place (level, index / 2 ^ suc level)
      (places_above picks level index seen) place ≡ places_above picks (suc level) index seen place
  placed-here is (l, n) = elim (eqb_tells level l) [
    | inl (e, same) ↦
        let more : nat_lt level (suc level) ≡ true = lt-ltb level (suc level) (omega arith) in
        rw (← same, eq-eqb level level refl, is, lt-itself level, more) refl
    | inr (e, other) ↦ rw (e, lt-other l other) refl
  ]

  -- a level that is not picked
  placed-nowhere : picks level ≡ false → (place : ℕ × ℕ) → places_above picks level index seen place ≡ places_above
      picks (suc level) index seen place
  placed-nowhere is (l, n) = elim (eqb_tells level l) [
    | inl (e, same) ↦ rw (← same, is) refl
    | inr (e, other) ↦ rw (lt-other l other) refl
  ]

  -- past all levels that are picked the leaf is one of those seen
  placed-all : ((l : ℕ) → picks l ≡ true → l < level) → (place : ℕ × ℕ) → places_above picks level index seen place
      ≡ places_above picks 0 index (index ∷ seen) place
  placed-all below (l, n) = by_pick (picks l) refl
    where
      by_pick : (pick : Bool) → picks l ≡ pick → places_above picks level index seen (l, n) ≡ places_above picks 0 index
          (index ∷ seen) (l, n)
      by_pick true is = rw (is, lt-ltb l level (below l is), le-ltb l 0 (omega arith)) refl
      by_pick false is = rw is refl

-- as many are made as there are new places
pub count-level : (level index : ℕ) (seen : List ℕ) (old made more : ℕ) → more
    ≡ made + cond (is_above level seen (index / 2 ^ suc level)) 0 1 → made + count_above level seen ≡ old + count_above
    level (index ∷ seen)
    → more + count_above (suc level) seen ≡ old + count_above (suc level) (index ∷ seen)
count-level level index seen old made more is before = omega (arith, is, before, places_on-more level index seen)

-- ---- the table on the way

-- What the way up has left at a level: the digest of this number is what the path gives up to there. The table is of a
-- tree where it was such, with as many digests more as places are new, and the count rose by as many.
pub record Climbed {L D : Type 0} (leaf : L → Digest) (inner : D → Digest) (h : HashPair) (way : Way) (digest : Digest)
    (start now : Walk L D) (level own : ℕ) : Type 0 where
  pub table : IsTable leaf inner h now.table
  pub number : own < length now.table.made.items
  pub so_far : path_root h (lower h way digest level) digest ≡ Ok (get_or (map inner now.table.made.items) own [])
  pub holds : (pairs : ℕ × ℕ → Digest × Digest) (seen : List ℕ)
      → HoldsTree leaf inner pairs (length way.above) 0 way.index seen start.table → HasPairs h way digest pairs
      → HoldsTree leaf inner pairs (length way.above) (suc level) way.index seen now.table
      × (length now.table.made.items + count_above (suc level) seen
      ≡ length start.table.made.items + count_above (suc level) (way.index ∷ seen))
  pub rises : RisesBy (length now.table.made.items - length start.table.made.items) start.count now.count
  pub grows : length start.table.made.items ≤ length now.table.made.items
  pub most : now.count ≤ start.count + suc level

abbrev lowest_level : ℕ → Bool
lowest_level l = nat_eq l 0

abbrev upper_to : ℕ → ℕ → Bool
upper_to above l = nat_lt 0 l && nat_lt l (suc above)

module _ {L D : Type 0} {leaf : L → Digest} {inner : D → Digest} {h : HashPair} {way : Way} {digest : Digest} where
  -- the lowest pair is asked
  pub Climbed-lowest : {old new : Table L D} {start end own : ℕ} {pair : Pair L} → IsTable leaf inner h old
      → Extends (map leaf old.leaves.items) (map leaf new.leaves.items) → new.upper ≡ old.upper
      → IsServed leaf inner h.bottom (0, way.index / 2 ^ 1) pair
      (row_of (map leaf new.leaves.items) old.made.items old.lowest start)
      (row_of (map leaf new.leaves.items) new.made.items new.lowest end) own
      → pair_seen leaf (map leaf new.leaves.items) pair ≡ couple (bit_at way.index 0) digest way.sibling
      → h.bottom (pair_seen leaf (map leaf new.leaves.items) pair).0 (pair_seen leaf (map leaf new.leaves.items) pair).1
      ≡ Ok (get_or (map inner new.made.items) own []) → end ≤ start + 1
      → Climbed leaf inner h way digest (walk_of old start) (walk_of new end) 0 own
  Climbed-lowest {old = old} {new = new} table put same served is answer most = record {
    table = record {
      lowest = served.made;
      upper = rw same (AllMade-more served.grows served.grows table.upper);
    };
    number = served.below;
    so_far = path_root-lowest h way digest is ∙ answer;
    holds = λ pairs seen holds has. (
        let here = served.holds pairs (places_above lowest_level 0 way.index seen)
        (HoldsPlaces-more put table.lowest holds.lowest) (path_pair-lowest h way digest is pairs has) in (
          record {
            lowest = HoldsPlaces-same (placed-here lowest_level 0 way.index seen refl) here.0;
            upper = HoldsPlaces-same (placed-nowhere (upper_to (length way.above)) 0 way.index seen refl)
                (rw same (HoldsPlaces-more served.grows table.upper holds.upper));
          },
          count-level 0 way.index seen (length old.made.items) (length old.made.items) (length new.made.items)
              (here.1 ∙ ap (λ (b : Bool). length old.made.items + cond b 0 1)
              (asked-here lowest_level 0 way.index seen refl)) refl,
        )
        );
    rises = served.rises;
    grows = length-Extends inner old.made.items new.made.items served.grows;
    most = most;
  }

  -- a pair above it is asked
  pub Climbed-upper : {start : Walk L D} {old new : Table L D} {mid end level own next : ℕ} {pair : Pair D}
      → Climbed leaf inner h way digest start (walk_of old mid) level own → level < length way.above
      → new.leaves ≡ old.leaves → new.lowest ≡ old.lowest
      → IsServed inner inner h.upper (suc level, way.index / 2 ^ suc (suc level)) pair
      (row_of (map inner old.made.items) old.made.items old.upper mid)
      (row_of (map inner new.made.items) new.made.items new.upper end) next
      → pair_seen inner (map inner old.made.items) pair ≡ couple (bit_at way.index (suc level))
      (get_or (map inner old.made.items) own []) (get_or way.above (length way.above - suc level) [])
      → h.upper (pair_seen inner (map inner old.made.items) pair).0 (pair_seen inner (map inner old.made.items) pair).1
      ≡ Ok (get_or (map inner new.made.items) next []) → end ≤ mid + 1
      → Climbed leaf inner h way digest start (walk_of new end) (suc level) next
  Climbed-upper {start = start} {old = old} {new = new} {level = level} so below same_leaves same served is answer
      most =
      let more = length-Extends inner old.made.items new.made.items served.grows in
      let some : nat_lt 0 (suc level) ≡ true = lt-ltb 0 (suc level) (omega arith) in
      let few : nat_lt (suc level) (suc (length way.above)) ≡ true = lt-ltb _ _ (omega arith) in
      let picked : upper_to (length way.above) (suc level) ≡ true = rw (some, few) refl in
      record {
        table = record {
          lowest = rw (same_leaves, same) (AllMade-more (Extends-itself _) served.grows so.table.lowest);
          upper = served.made;
        };
        number = served.below;
        so_far = path_root-up h way digest so.so_far below is ∙ answer;
        holds = λ pairs seen holds has. (
            let (tree, count) = so.holds pairs seen holds has in
            let here = served.holds pairs (places_above (upper_to (length way.above)) (suc level) way.index seen)
            tree.upper (path_pair-up h way digest so.so_far below is pairs has) in (
              record {
                lowest = rw (same_leaves, same) (HoldsPlaces-same (placed-nowhere lowest_level (suc level) way.index
                    seen (ne_eqb (suc level) 0 (λ none. omega arith))) tree.lowest);
                upper = HoldsPlaces-same (placed-here (upper_to (length way.above)) (suc level) way.index seen picked)
                    here.0;
              },
              count-level (suc level) way.index seen (length start.table.made.items) (length old.made.items)
                  (length new.made.items) (here.1 ∙ ap (λ (b : Bool). length old.made.items + cond b 0 1)
                  (asked-here (upper_to (length way.above)) (suc level) way.index seen picked)) count,
            )
            );
        rises = omega (arith, so.grows, more, so.rises, served.rises);
        grows = omega (arith, so.grows, more);
        most = omega (arith, so.most, most);
      }

  pub Climbed-refused : {start now : Walk L D} {level own : ℕ} {asked : Digest × Digest} (e : Error)
      → Climbed leaf inner h way digest start now level own → level < length way.above
      → asked ≡ couple (bit_at way.index (suc level)) (get_or (map inner now.table.made.items) own [])
      (get_or way.above (length way.above - suc level) []) → h.upper asked.0 asked.1 ≡ Err e
      → path_root h way digest ≡ Err e
  Climbed-refused e so below is = upper-refused h way digest so.so_far below is e

  -- the whole way up
  pub Climbed-top : {start now : Walk L D} {level own : ℕ} → Climbed leaf inner h way digest start now level own
      → level ≡ length way.above → IsWalked leaf inner h way (Ok digest) start now
  Climbed-top {start = start} {now = now} {level = level} so top =
      record {
        table = so.table;
        holds = λ pairs seen other before is has. (
            let (tree, count) = so.holds pairs seen before (subst (λ (d : Digest). HasPairs h way d pairs)
            (sym (done_injective _ _ is)) has) in (
              record {
                lowest = HoldsPlaces-same (placed-all lowest_level (suc level) way.index seen lowest) tree.lowest;
                upper = HoldsPlaces-same (placed-all (upper_to (length way.above)) (suc level) way.index seen upper)
                    tree.upper;
              },
              subst (λ (n : ℕ). length now.table.made.items + count_above (suc n) seen ≡ length start.table.made.items
                  + count_above (suc n) (way.index ∷ seen)) top count,
            )
            );
        rises = so.rises;
        grows = so.grows;
      }
    where
      lowest : (l : ℕ) → lowest_level l ≡ true → l < suc level
      lowest l pick = let none = eqb-true l 0 pick in omega arith

      upper : (l : ℕ) → upper_to (length way.above) l ≡ true → l < suc level
      upper l pick = let lt = ltb-true l _ (and_parts (nat_lt 0 l) _ pick).1 in omega (arith, top)

-- what a path says, from what it gives
pub verdict-by : (h : HashPair) (leaf : Outcome Digest) (way : Way) (root digest given : Digest) (same : Bool) → leaf
    ≡ Ok digest → path_root h way digest ≡ Ok given → digest_eq given root ≡ same → verdict h leaf way root ≡ Ok same
verdict-by h leaf way root digest given same hashed climbed is = rw (hashed, climbed, is) refl

-- a path's refusal is that of the verdict
pub verdict-refused : (h : HashPair) (leaf : Outcome Digest) (way : Way) (root digest : Digest) (e : Error) → leaf
    ≡ Ok digest → path_root h way digest ≡ Err e → verdict h leaf way root ≡ Err e
verdict-refused h leaf way root digest e hashed refused = rw (hashed, refused) refl

-- Tables of hashed pairs.
use Rattle.std.proofs.Common.{zero, suc, ◌≡◌, ◌≢◌, ◌⊎◌, ℕ, ◌+◌, ◌-◌, ◌/◌, ◌^◌, ◌<◌, ◌≤◌, ◌++◌, ◌||◌, Bool, true, false, cond, min, nat_eq, Option, List, [], ◌∷◌, length, map, get_or, Ok, Some, None, arith, refl, ap, sym, ◌∙◌, subst, append-nil, length-append, slice_set, inl, inr}
use Rattle.std.proofs.Math.Nat.{div-eq_of_lt, pow-le-pow_right}
use Rattle.std.specs.BTreeMap.{BTreeMap, get, Updates, is_at}
use Rattle.std.specs.List.{slice_get}
use Rattle.std.specs.Option.{is_some}
use Rattle.std.proofs.lemmas.List.{length-map, get_or-map, get_or_append_left, map-append}
use Rattle.std.proofs.Math.Seq.{get_or-append_seam}
use Rattle.std.proofs.lemmas.Bool.{and_parts, eq-eqb, eqb-true, ne_eqb}
use Rattle.std.proofs.lemmas.Bool.Decides.{eqb_tells, nat_tests}
use Rattle.ark_base.specs.Outcome.{Outcome}
use Rattle.ark_paths.specs.Bind.{couple}
use Rattle.ark_paths.specs.Pair.{Digest}
use Rattle.ark_paths.specs.Kept.{place_cmp, same_place, put_at, AreKept}
use Rattle.ark_paths.specs.Table.{pair_seen, row_of, IsMade, AllMade, Extends, HoldsPlaces, IsServed}
use Rattle.ark_paths.specs.declared.multi_path.table.Entries.{Entries}
use Rattle.ark_paths.specs.declared.multi_path.table.Entry.{Entry}
use Rattle.ark_paths.specs.declared.multi_path.table.Pair.{Pair}
use Rattle.ark_paths.specs.declared.multi_path.table.Placed.{Placed}

-- past the last bit of an index there is one number
pub number_above-none : (index level : ℕ) → index < 2 ^ 64 → 63 ≤ level → 0 ≡ index / 2 ^ suc level
number_above-none index level small far =
    let two : 0 < 2 = omega arith in
    let up : 64 ≤ suc level = omega arith in
    let high : 2 ^ 64 ≤ 2 ^ suc level = pow-le-pow_right two up in
    let below : index < 2 ^ suc level = omega (arith, high, small) in
    sym (div-eq_of_lt below)

-- ---- lists that grow

pub Extends-itself : (xs : List Digest) → Extends xs xs
Extends-itself xs = ([], sym (append-nil xs))

Extends-below : (xs ys : List Digest) (k : ℕ) → Extends xs ys → k < length xs → k < length ys
Extends-below xs ys k (more, is) below = rw (is, length-append xs more) (omega (arith, below))

pub length-Extends : {A : Type 0} (view : A → Digest) (before after : List A) → Extends (map view before)
    (map view after) → length before ≤ length after
length-Extends view before after (more, is) =
    omega (arith, length-map before view, length-map after view, ap length is, length-append (map view before) more)

get_or-Extends : (xs ys : List Digest) (k : ℕ) → Extends xs ys → k < length xs → get_or ys k [] ≡ get_or xs k []
get_or-Extends xs ys k (more, is) below = rw is (get_or_append_left xs more [] k below)

get_or-last : (xs ys : List Digest) (x : Digest) (k : ℕ) → ys ≡ xs ++ x ∷ [] → k ≡ length xs → get_or ys k [] ≡ x
get_or-last xs ys x k is last = rw (is, last) (get_or-append_seam xs x [] [])

-- one item is put behind the others
pub Extends-push : {A : Type 0} (view : A → Digest) (before after : List A) (x : A) → after ≡ before ++ x ∷ []
    → Extends (map view before) (map view after)
Extends-push view before after x is = (view x ∷ [], rw is (map-append view before (x ∷ [])))

pub get_or-push : {A : Type 0} (view : A → Digest) (before after : List A) (x : A) (k : ℕ) → after ≡ before ++ x ∷ []
    → k ≡ length before → get_or (map view after) k [] ≡ view x
get_or-push view before after x k is last = get_or-last (map view before) (map view after) (view x) k
    (rw is (map-append view before (x ∷ []))) (last ∙ sym (length-map before view))

-- ---- places

same_place-true : (a b : ℕ × ℕ) → same_place a b ≡ true → a ≡ b
same_place-true (x, y) (u, v) is =
    let both = and_parts (nat_eq x u) (nat_eq y v) is in
    let first : x ≡ u = eqb-true x u both.0 in
    let second : y ≡ v = eqb-true y v both.1 in
    cc

-- the order finds a place exactly where it is the same
is_at-place : (a b : ℕ × ℕ) → is_at (place_cmp a) b ≡ same_place a b
is_at-place a b =
    let first = eqb_tells a.0 b.0 in
    let second = eqb_tells a.1 b.1 in
    grind (arith, nat_tests)

-- what stands at a place after one was updated
updated-cases : {X : Type 0} (entries after : BTreeMap (ℕ × ℕ) X) (place : ℕ × ℕ) (new : X)
    → Updates place_cmp entries after place (Some new) → (q : ℕ × ℕ) (entry : X) → get place_cmp after q ≡ Some entry
    → ((place ≡ q) × (new ≡ entry)) ⊎ (get place_cmp entries q ≡ Some entry)
updated-cases entries after place new updates q entry at =
    by_place (same_place place q) refl (ap (λ (b : Bool). cond b (Some new) (get place_cmp entries q))
    (sym (is_at-place place q)) ∙ sym (updates.0 q) ∙ at)
  where
    by_place : (here : Bool) → same_place place q ≡ here → cond here (Some new) (get place_cmp entries q) ≡ Some entry
        → ((place ≡ q) × (new ≡ entry)) ⊎ (get place_cmp entries q ≡ Some entry)
    by_place true same is = inl (same_place-true place q same, cc)
    by_place false same is = inr is

-- ---- entries at hand

pub put_at-within : {A : Type 0} (xs : List A) (i : ℕ) (x : A) → i < length xs → slice_set xs i x ≡ put_at xs i x
put_at-within [] i x below = absurd (omega arith)
put_at-within (y ∷ xs) zero x below = refl
put_at-within (y ∷ xs) (suc i) x below = ap (λ l. y ∷ l) (put_at-within xs i x (omega arith))

pub put_at-end : {A : Type 0} (xs : List A) (i : ℕ) (x : A) → i ≡ length xs → xs ++ x ∷ [] ≡ put_at xs i x
put_at-end [] zero x is = refl
put_at-end [] (suc i) x is = absurd (omega arith)
put_at-end (y ∷ xs) zero x is = absurd (omega arith)
put_at-end (y ∷ xs) (suc i) x is = ap (λ l. y ∷ l) (put_at-end xs i x (omega arith))

pub put_at-past : {A : Type 0} (xs : List A) (i : ℕ) (x : A) → length xs < i → xs ≡ put_at xs i x
put_at-past [] zero x past = absurd (omega arith)
put_at-past [] (suc i) x past = refl
put_at-past (y ∷ xs) zero x past = absurd (omega arith)
put_at-past (y ∷ xs) (suc i) x past = ap (λ l. y ∷ l) (put_at-past xs i x (omega arith))

slice_get-put_at : {A : Type 0} (xs : List A) (i j : ℕ) (x y : A) → slice_get (put_at xs i x) j ≡ Some y
    → ((i ≡ j) × (x ≡ y)) ⊎ ((i ≢ j) × (slice_get xs j ≡ Some y))
slice_get-put_at [] zero zero x y at = inl (refl, cc)
slice_get-put_at [] zero (suc j) x y at = absurd cc
slice_get-put_at [] (suc i) j x y at = absurd cc
slice_get-put_at (z ∷ xs) zero zero x y at = inl (refl, cc)
slice_get-put_at (z ∷ xs) zero (suc j) x y at = inr ((λ is. absurd cc), at)
slice_get-put_at (z ∷ xs) (suc i) zero x y at = inr ((λ is. absurd cc), at)
slice_get-put_at (z ∷ xs) (suc i) (suc j) x y at = elim (slice_get-put_at xs i j x y at) [
  | inl (is, same) ↦ inl (ap suc is, same)
  | inr (other, old) ↦ inr ((λ is. other (omega (arith, is))), old)
]

pub AreKept-put : {X : Type 0} (all after : BTreeMap (ℕ × ℕ) (Entry X)) (last next : List (Placed X))
    (placed : Placed X) → AreKept all last → Updates place_cmp all after placed.place (Some placed.entry) → next
    ≡ put_at last (placed.place.0 - 1) placed → AreKept after next
AreKept-put all after last next placed kept updates is level other at =
    elim (slice_get-put_at last (placed.place.0 - 1) level placed other (sym (ap (λ l. slice_get l level) is) ∙ at)) [
      | inl (here, same) ↦
          let itself = eq-eqb placed.place.0 placed.place.0 refl in
          let too = eq-eqb placed.place.1 placed.place.1 refl in
          rw (← same) (here, updates.0 placed.place ∙ rw (is_at-place placed.place placed.place, itself, too) refl)
      | inr (differ, old) ↦
          let before = kept level other old in
          let apart = ne_eqb placed.place.0 other.place.0 (λ same. differ (ap (λ (n : ℕ). n - 1) same ∙ before.0)) in
          (before.0, updates.0 other.place ∙ rw (is_at-place placed.place other.place, apart) refl ∙ before.1)
    ]

-- ---- entries

-- a pair is the same when more digests stand behind
pair_seen-more : {X : Type 0} (numbers : X → Digest) (xs ys : List Digest) (pair : Pair X) → Extends xs ys → pair.own
    < length xs → pair_seen numbers ys pair ≡ pair_seen numbers xs pair
pair_seen-more numbers xs ys pair more below =
    ap (λ (d : Digest). couple pair.is_right d (numbers pair.sibling.now)) (get_or-Extends xs ys pair.own more below)

module _ {X : Type 0} {numbers : X → Digest} where
  pub AllMade-more : {hash : Digest → Digest → Outcome Digest} {xs ys us vs : List Digest} {entries : Entries X}
      → Extends xs us → Extends ys vs → AllMade numbers hash xs ys entries → AllMade numbers hash us vs entries
  AllMade-more {xs = xs} {ys = ys} {us = us} {vs = vs} digests made before = record {
    kept = before.kept;
    all = λ place entry at. (
        let m = before.all place entry at in
        record {
          own = Extends-below xs us entry.pair.own digests m.own;
          hashed = Extends-below ys vs entry.digest made m.hashed;
          is = rw (
            pair_seen-more numbers xs us entry.pair digests m.own,
            get_or-Extends ys vs entry.digest made m.hashed,
          ) m.is;
        }
        );
  }

  pub HoldsPlaces-more : {hash : Digest → Digest → Outcome Digest} {xs us ys : List Digest} {pairs : ℕ × ℕ → Digest
      × Digest} {asked : ℕ × ℕ → Bool} {entries : Entries X} → Extends xs us → AllMade numbers hash xs ys entries
      → HoldsPlaces numbers xs pairs asked entries.all → HoldsPlaces numbers us pairs asked entries.all
  HoldsPlaces-more {xs = xs} {us = us} digests made holds = record {
    at = holds.at;
    pair = λ place entry at. pair_seen-more numbers xs us entry.pair digests (made.all place entry at).own
        ∙ holds.pair place entry at;
  }

  -- the same of another test
  pub HoldsPlaces-same : {xs : List Digest} {pairs : ℕ × ℕ → Digest × Digest} {asked others : ℕ × ℕ → Bool}
      {entries : BTreeMap (ℕ × ℕ) (Entry X)} → ((place : ℕ × ℕ) → asked place ≡ others place) → HoldsPlaces numbers xs
      pairs asked entries → HoldsPlaces numbers xs pairs others entries
  HoldsPlaces-same same holds = record { at = λ place. holds.at place ∙ same place; pair = holds.pair }

-- ---- a pair that is asked

-- a pair, left first, as some items show it
abbrev seen_in : {X : Type 0} → (X → Digest) → List X → Pair X → Digest × Digest
seen_in numbers items pair = pair_seen numbers (map numbers items) pair

-- the pair that is seen is that of the digests in order
pub asked-as : {X : Type 0} (numbers : X → Digest) (hash : Digest → Digest → Outcome Digest) (items : List X)
    (pair : Pair X) {own : X} {left right : Digest} {outcome : Outcome Digest} → pair.own < length items
    → own ≡ get_or items pair.own own → (left, right) ≡ couple pair.is_right (numbers own) (numbers pair.sibling.now)
    → hash left right ≡ outcome → hash (seen_in numbers items pair).0 (seen_in numbers items pair).1 ≡ outcome
asked-as numbers hash items pair {own = own} below is ordered hashed =
    let at : get_or (map numbers items) pair.own [] ≡ numbers own =
    get_or-map numbers items pair.own own [] below ∙ ap numbers (sym is) in
    rw (at, ← ordered) hashed

module _ {X D : Type 0} {numbers : X → Digest} {hash : Digest → Digest → Outcome Digest} {entries : Entries X}
    {number : ℕ} (inner : D → Digest) (before : List D) (items : List X) (place : ℕ × ℕ) (pair : Pair X)
    (made : AllMade numbers hash (map numbers items) (map inner before) entries) where
  -- it is kept
  module _ (kept : (entry : Entry X) × (get place_cmp entries.all place ≡ Some entry) × (number ≡ entry.digest)
      × (pair_seen numbers (map numbers items) entry.pair ≡ seen_in numbers items pair)) where
    pub answer-kept : hash (seen_in numbers items pair).0 (seen_in numbers items pair).1
        ≡ Ok (get_or (map inner before) number [])
    answer-kept = rw (kept.2, ← kept.3) (made.all place kept.0 kept.1).is

    pub IsServed-kept : {count : ℕ} → IsServed numbers inner hash place pair
        (row_of (map numbers items) before entries count) (row_of (map numbers items) before entries count) number
    IsServed-kept = record {
      below = rw (kept.2, ← length-map before inner) (made.all place kept.0 kept.1).hashed;
      grows = Extends-itself (map inner before);
      made = made;
      holds = λ pairs asked holds is. (
          let old : asked place ≡ true = sym (holds.at place) ∙ ap is_some kept.1 in (
            record { at = λ q. holds.at q ∙ with_old asked old q (same_place place q) refl; pair = holds.pair },
            rw old (omega arith),
          )
          );
      rises = omega arith;
    }
      where
        with_old : (asked : ℕ × ℕ → Bool) → asked place ≡ true → (q : ℕ × ℕ) (here : Bool) → same_place place q ≡ here
            → asked q ≡ (here || asked q)
        with_old asked old q true is = ap asked (sym (same_place-true place q is)) ∙ old
        with_old asked old q false is = refl

  -- it is hashed
  module _ {own : X} {left right : Digest} (inside : pair.own < length items) (at : own ≡ get_or items pair.own own)
      (ordered : (left, right) ≡ couple pair.is_right (numbers own) (numbers pair.sibling.now)) (after : List D)
      {y : Digest} (hashed : hash left right ≡ Ok y) (more : map inner after ≡ map inner before ++ y ∷ [])
      (last : number ≡ length before) where
    pub answer-anew : hash (seen_in numbers items pair).0 (seen_in numbers items pair).1
        ≡ Ok (get_or (map inner after) number [])
    answer-anew = asked-as numbers hash items pair inside at ordered hashed ∙ ap Ok (sym (get_or-last (map inner before)
        (map inner after) y number more (last ∙ sym (length-map before inner))))

    pub IsServed-anew : {us : List Digest} {next : Entries X} {start end : ℕ} → Extends (map numbers items) us
        → AreKept next.all next.last.items → Updates place_cmp entries.all next.all place
        (Some (record { pair = pair; digest = number }))
        → ((entry : Entry X) → get place_cmp entries.all place ≡ Some entry → pair_seen numbers (map numbers items)
        entry.pair ≢ seen_in numbers items pair) → end ≡ min (start + 1) 18446744073709551615
        → IsServed numbers inner hash place pair (row_of (map numbers items) before entries start)
        (row_of us after next end) number
    IsServed-anew {us = us} {next = next} digests kept updates other counted =
        record {
          below = omega (arith, last, one);
          grows = grows;
          made = record {
            kept = kept;
            all = λ q entry found. elim (updated-cases entries.all next.all place new updates q entry found) [
              | inl (same, is) ↦ subst (IsMade numbers hash us (map inner after)) is fresh
              | inr old ↦ (AllMade-more digests grows made).all q entry old
            ];
          };
          holds = λ pairs asked holds is. (
            record {
              at = λ q. ap is_some (updates.0 q) ∙ some (is_at (place_cmp place) q) (get place_cmp entries.all q)
                  ∙ rw (is_at-place place q, holds.at q) refl;
              pair = λ q entry found. elim (updated-cases entries.all next.all place new updates q entry found) [
                | inl (same, e) ↦ ap (λ (n : Entry X). pair_seen numbers us n.pair) (sym e)
                    ∙ pair_seen-more numbers (map numbers items) us pair digests below ∙ is ∙ ap pairs same
                | inr old ↦ (HoldsPlaces-more digests made holds).pair q entry old
              ];
            },
            rw (not_asked pairs asked holds is (get place_cmp entries.all place) refl) (omega (arith, one)),
          );
          rises = omega (arith, counted, one);
        }
      where
        below : pair.own < length (map numbers items)
        below = rw length-map inside

        one : length after ≡ length before + 1
        one = omega (
          arith,
          length-map after inner,
          length-map before inner,
          ap length more,
          length-append (map inner before) (y ∷ []),
        )

        grows : Extends (map inner before) (map inner after)
        grows = (y ∷ [], more)

        new : Entry X
        new = record { pair = pair; digest = number }

        fresh : IsMade numbers hash us (map inner after) new
        fresh = record {
          own = Extends-below (map numbers items) us pair.own digests below;
          hashed = rw length-map (omega (arith, last, one));
          is = rw (pair_seen-more numbers (map numbers items) us pair digests below) answer-anew;
        }

        some : (b : Bool) (o : Option (Entry X)) → is_some (cond b (Some new) o) ≡ (b || is_some o)
        some true o = refl
        some false o = refl

        -- a place with no such pair was not asked before
        not_asked : (pairs : ℕ × ℕ → Digest × Digest) (asked : ℕ × ℕ → Bool) (holds : HoldsPlaces numbers
            (map numbers items) pairs asked entries.all) → seen_in numbers items pair ≡ pairs place
            → (o : Option (Entry X)) → get place_cmp entries.all place ≡ o → asked place ≡ false
        not_asked pairs asked holds is None found = sym (holds.at place) ∙ ap is_some found
        not_asked pairs asked holds is (Some entry) found =
            absurd (other entry found (holds.pair place entry found ∙ sym is))

-- one more was counted at most
pub counted-most : (start end : ℕ) → end ≡ min (start + 1) 18446744073709551615 → end ≤ start + 1
counted-most start end counted = omega (arith, counted)

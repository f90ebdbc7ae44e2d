-- Strict multi-proofs, place by place.
use Rattle.std.proofs.Common.{◌≡◌, ℕ, suc, ◌+◌, ◌<◌, ◌≤◌, ◌^◌, Bool, true, false, not, ◌&&◌, ◌==◌, if◌then◌else◌, nat_eq, nat_lt, Option, Some, None, List, [], ◌∷◌, ◌++◌, length, map, take, drop, get_or, inl, inr, refl, ap, sym, ◌∙◌, arith, add-one}
use Rattle.std.specs.Bool.{Decides, one_answer}
use Rattle.std.specs.List.{list_all}
use Rattle.std.specs.declared.vec.Vec.{Vec}
use Rattle.std.proofs.lemmas.Bool.{and_parts, cases_lt, eq-eqb, eqb-true, ne_eqb}
use Rattle.std.proofs.lemmas.List.{take-append-drop, length-take-le, drop_more, drop_all, length-map, get_or-map}
use Rattle.std.proofs.lemmas.Option.{slice_get-get_or}
use Rattle.std.proofs.lemmas.Slice.Eq.{bytes_eq-Decides}
use Rattle.ark_paths.specs.MultiPath.{MultiWay, listed_way, path_and_rest, path_length, decoded_paths, decoded_paths_from}
use Rattle.ark_paths.specs.MultiPathStrict.{are_rising, are_longest, is_strict}
use Rattle.ark_paths.specs.Sharing.{shared_count}
use Rattle.ark_paths.specs.Pair.{Digest, digest_eq}
use Rattle.ark_paths.specs.Path.{Way}
use Rattle.ark_paths.specs.Rows.{digests_of}
use Rattle.ark_paths.proofs.Readings.{first-seen, row_read}
use Rattle.ark_paths.proofs.MultiShared.{shared-same, shared-other}

-- ---- digests in common

shared-nothing : (xs ys : List Digest) → length ys ≡ 0 → shared_count xs ys ≡ 0
shared-nothing [] ys none = refl
shared-nothing (x ∷ xs) [] none = refl
shared-nothing (x ∷ xs) (y ∷ ys) none = absurd (omega arith)

shared-front : (front xs ys : List Digest) → shared_count (front ++ xs) (front ++ ys)
    ≡ length front + shared_count xs ys
shared-front [] xs ys = omega arith
shared-front (d ∷ front) xs ys =
    let same = shared-same d d (front ++ xs) (front ++ ys) ((bytes_eq-Decides d d).1 refl) in
    omega (arith, same, shared-front front xs ys)

shared-le_by : (x y : Digest) (xs ys : List Digest) (b : Bool) → digest_eq x y ≡ b → shared_count xs ys ≤ length xs
    → shared_count (x ∷ xs) (y ∷ ys) ≤ suc (length xs)
shared-le_by x y xs ys true e le = omega (arith, shared-same x y xs ys e)
shared-le_by x y xs ys false e le = omega (arith, shared-other x y xs ys e)

pub shared-le_before : (xs ys : List Digest) → shared_count xs ys ≤ length xs
shared-le_before [] ys = omega arith
shared-le_before (x ∷ xs) [] = omega arith
shared-le_before (x ∷ xs) (y ∷ ys) = shared-le_by x y xs ys (digest_eq x y) refl (shared-le_before xs ys)

-- whether a count of first digests of the path before are all that it has in common with these and a suffix
abbrev pub all_shared : List Digest → ℕ → List Digest → Bool
all_shared before prefix suffix = nat_eq prefix (shared_count before (take prefix before ++ suffix))

module _ (before suffix : List Digest) (prefix : ℕ) where
  all_shared-past : length before < prefix → all_shared before prefix suffix ≡ false
  all_shared-past past = ne_eqb prefix _ (λ same. omega (arith, shared-le_before before (take prefix before ++ suffix)))

  module _ (within : prefix ≤ length before) where
    shared-behind : shared_count before (take prefix before ++ suffix) ≡ prefix + shared_count
        (drop prefix before) suffix
    shared-behind =
        ap (λ (ds : List Digest). shared_count ds (take prefix before ++ suffix)) (sym (take-append-drop prefix before))
        ∙ shared-front (take prefix before) (drop prefix before) suffix
        ∙ ap (λ (n : ℕ). n + shared_count (drop prefix before) suffix) (length-take-le prefix before within)

    all_shared-none : shared_count (drop prefix before) suffix ≡ 0 → all_shared before prefix suffix ≡ true
    all_shared-none none = eq-eqb prefix _ (omega (arith, shared-behind))

    all_shared-all : length before ≤ prefix → all_shared before prefix suffix ≡ true
    all_shared-all past = all_shared-none (ap (λ (ds : List Digest). shared_count ds suffix)
        (drop_all prefix before past))

    pub all_shared-nothing : length suffix ≡ 0 → all_shared before prefix suffix ≡ true
    all_shared-nothing nothing = all_shared-none (shared-nothing (drop prefix before) suffix nothing)

  pub all_shared-end : length before ≤ prefix → all_shared before prefix suffix ≡ nat_eq prefix (length before)
  all_shared-end past =
      elim (cases_lt (length before) prefix) [
        | inl more ↦ all_shared-past more ∙ sym (ne_eqb prefix (length before) (λ same. omega arith))
        | inr le ↦ all_shared-all le past ∙ sym (eq-eqb prefix (length before) (omega arith))
      ]

  module _ (x y : Digest) (xs ys : List Digest) (there : drop prefix before ≡ x ∷ xs) (here : suffix ≡ y ∷ ys)
      (within : prefix ≤ length before) where
    heads : shared_count (drop prefix before) suffix ≡ shared_count (x ∷ xs) (y ∷ ys)
    heads = ap (λ (ds : List Digest). shared_count ds suffix) there ∙ ap (shared_count (x ∷ xs)) here

    pub all_shared-other : digest_eq x y ≡ false → all_shared before prefix suffix ≡ true
    all_shared-other other = all_shared-none within (heads ∙ shared-other x y xs ys other)

    pub all_shared-same : digest_eq x y ≡ true → all_shared before prefix suffix ≡ false
    all_shared-same same = ne_eqb prefix _ (λ is.
        omega (arith, shared-behind within, heads, shared-same x y xs ys same))

-- whether some first digests and a suffix make a path of this length, and are all that the path before has in common
-- with it
abbrev pub is_longest : List Digest → ℕ → List Digest → ℕ → Bool
is_longest before prefix suffix len = nat_eq (prefix + length suffix) len && all_shared before prefix suffix

module _ {A B : Type 0} (f : A → Digest) (g : B → Digest) (before : List A) (suffix : List B) (prefix len : ℕ)
    (fits : nat_eq (prefix + length suffix) len ≡ true) where
  longest-by : (b : Bool) → b ≡ all_shared (map f before) prefix (map g suffix)
      → b ≡ is_longest (map f before) prefix (map g suffix) len
  longest-by b is = let sums : nat_eq (prefix + length (map g suffix)) len ≡ true = rw (length-map suffix g) fits in
      rw sums is

  pub longest-end : length before ≤ prefix → nat_eq prefix (length before)
      ≡ is_longest (map f before) prefix (map g suffix) len
  longest-end past = longest-by _ (sym (rw (length-map before f) at (all_shared-end (map f before) (map g suffix) prefix
      (rw (length-map before f) past))))

  module _ (below : prefix < length before) where
    pub longest-nothing : length suffix ≡ 0 → true ≡ is_longest (map f before) prefix (map g suffix) len
    longest-nothing none = longest-by true (sym (all_shared-nothing (map f before) (map g suffix) prefix
        (omega (arith, below, length-map before f)) (omega (arith, none, length-map suffix g))))

    -- the first digest that is not taken is compared with the suffix's first
    pub longest-compared : (x : A) (y : B) → 0 < length suffix → y ≡ get_or suffix 0 y → (same : Bool)
        → Decides same (f (get_or before prefix x) ≡ g y) → not same
        ≡ is_longest (map f before) prefix (map g suffix) len
    longest-compared x y some is same decides =
        longest-by (not same) (by_answer same (one_answer _ same (bytes_eq-Decides (f (get_or before prefix x)) (g y))
        decides))
      where
        there : drop prefix (map f before) ≡ f (get_or before prefix x) ∷ drop (prefix + 1) (map f before)
        there = drop_more (map f before) prefix (f x) (omega (arith, below, length-map before f))
            ∙ rw (get_or-map f before prefix x (f x) below) refl

        here : map g suffix ≡ g y ∷ drop 1 (map g suffix)
        here = drop_more (map g suffix) 0 (g y) (omega (arith, some, length-map suffix g))
            ∙ rw (get_or-map g suffix 0 y (g y) some, ← is) refl

        by_answer : (same : Bool) → digest_eq (f (get_or before prefix x)) (g y) ≡ same → not same
            ≡ all_shared (map f before) prefix (map g suffix)
        by_answer true e = sym (all_shared-same (map f before) (map g suffix) prefix _ _ _ _ there here
            (omega (arith, below, length-map before f)) e)
        by_answer false e = sym (all_shared-other (map f before) (map g suffix) prefix _ _ _ _ there here
            (omega (arith, below, length-map before f)) e)

-- ---- places

-- what is left to say of the prefixes from place i on, after the digests of the path before
abbrev pub longest_left : MultiWay → ℕ → List Digest → Bool
longest_left m i before = are_longest before (drop i m.prefixes) (decoded_paths_from m i before (drop i m.indexes))

longest-first : (fits : Bool) (before : List Digest) (prefix : ℕ) (prefixes : List ℕ) (way : Way) (next : Way → List
    (Option Way)) → are_longest before (prefix ∷ prefixes) (path_and_rest (if fits then Some way else None) next)
    ≡ fits && nat_eq prefix (shared_count before way.above) && are_longest way.above prefixes (next way)
longest-first true before prefix prefixes way next = refl
longest-first false before prefix prefixes way next = refl

pub longest_left-next : (m : MultiWay) (i : ℕ) (before : List Digest) (suffix : List Digest) (len : ℕ)
    → i < length m.indexes → length m.prefixes ≡ length m.indexes → length m.siblings ≡ length m.indexes
    → length m.suffixes ≡ length m.indexes → get_or m.suffixes i [] ≡ suffix → path_length m ≡ len
    → longest_left m i before ≡ is_longest before (get_or m.prefixes i 0) suffix len && longest_left m (i + 1)
    (take (get_or m.prefixes i 0) before ++ suffix)
longest_left-next m i before suffix len below prefixes siblings suffixes suffix_is len_is =
    rw (
      drop_more m.indexes i 0 below,
      drop_more m.prefixes i 0 (omega (arith, below, prefixes)),
      slice_get-get_or m.siblings i [] (omega (arith, below, siblings)),
      slice_get-get_or m.prefixes i 0 (omega (arith, below, prefixes)),
      slice_get-get_or m.suffixes i [] (omega (arith, below, suffixes)),
      suffix_is,
      len_is,
      add-one i,
    ) (longest-first (nat_eq (get_or m.prefixes i 0 + length suffix) len) before (get_or m.prefixes i 0) _
    (record {
      sibling = get_or m.siblings i [];
      above = take (get_or m.prefixes i 0) before ++ suffix;
      index = get_or m.indexes i 0;
    }) (λ way. decoded_paths_from m (suc i) way.above (drop (suc i) m.indexes)))

-- the multi-proof with these two lists among its four
abbrev pub with_lists : List ℕ → List (List Digest) → List Digest → List ℕ → MultiWay
with_lists prefixes suffixes siblings indexes =
    record { siblings = siblings; prefixes = prefixes; suffixes = suffixes; indexes = indexes }

-- the places before i are as they should be, whatever stands in the two other lists, and the last of them has these
-- digests
pub record LongestTo (prefixes : List ℕ) (suffixes : List (List Digest)) (i : ℕ) (before : List Digest)
    : Type 0 where
  pub same : (siblings : List Digest) (indexes : List ℕ) → length siblings ≡ length suffixes → length indexes
      ≡ length suffixes → longest_left (with_lists prefixes suffixes siblings indexes) 0 []
      ≡ longest_left (with_lists prefixes suffixes siblings indexes) i before

-- one more place
module _ {D Z : Type 0} (numbers : D → Digest) (prefixes : List ℕ) (rows : List (Vec D Z)) {i : ℕ}
    {before : List Digest} (so_far : LongestTo prefixes (map (digests_of numbers) rows) i before)
    (below : i < length rows) (all : length prefixes ≡ length rows) (suffix first : Vec D Z)
    (suffix_is : suffix ≡ get_or rows i suffix) (first_is : first ≡ get_or rows 0 first) (len : ℕ)
    (len_is : len ≡ first.len) where
  LongestTo-next : (siblings : List Digest) (indexes : List ℕ) → length siblings ≡ length rows → length indexes
      ≡ length rows → longest_left (with_lists prefixes (map (digests_of numbers) rows) siblings indexes) 0 []
      ≡ is_longest before (get_or prefixes i 0) (digests_of numbers suffix) len
      && longest_left (with_lists prefixes (map (digests_of numbers) rows) siblings indexes) (i + 1)
      (take (get_or prefixes i 0) before ++ digests_of numbers suffix)
  LongestTo-next siblings indexes long as_long =
      let many = length-map rows (digests_of numbers) in
      so_far.same siblings indexes (long ∙ sym many) (as_long ∙ sym many)
      ∙ longest_left-next (with_lists prefixes (map (digests_of numbers) rows) siblings indexes) i before
      (digests_of numbers suffix) len (omega (arith, below, as_long)) (all ∙ sym as_long) (long ∙ sym as_long)
      (many ∙ sym as_long) (row_read numbers rows i suffix below suffix_is)
      (ap length (row_read numbers rows 0 first (omega (arith, below)) first_is) ∙ length-map first.items numbers
      ∙ omega (arith, len_is, first.ok.0))

  -- a place that does not decode, or takes less or more than it should
  pub LongestTo-refused : is_longest before (get_or prefixes i 0) (digests_of numbers suffix) len ≡ false
      → (siblings : List Digest) (indexes : List ℕ) → length siblings ≡ length rows → length indexes ≡ length rows
      → longest_left (with_lists prefixes (map (digests_of numbers) rows) siblings indexes) 0 [] ≡ false
  LongestTo-refused bad siblings indexes long as_long =
      LongestTo-next siblings indexes long as_long ∙ rw bad refl

  pub LongestTo-more : is_longest before (get_or prefixes i 0) (digests_of numbers suffix) len ≡ true
      → {next : List Digest} → next ≡ take (get_or prefixes i 0) before ++ digests_of numbers suffix
      → LongestTo prefixes (map (digests_of numbers) rows) (i + 1) next
  LongestTo-more good next_is = rw next_is (record {
    same = λ siblings indexes long as_long. LongestTo-next siblings indexes (rw length-map at long)
        (rw length-map at as_long) ∙ rw good refl;
  })

-- ---- all tests

-- the lists of a multi-proof
module _ {S D Z : Type 0} (leaf : S → Digest) (inner : D → Digest) (siblings : List S) (prefixes : List ℕ)
    (suffixes : List (Vec D Z)) (indexes : List ℕ) where
  abbrev as_many : Bool
  as_many = nat_lt 0 (length indexes) && (length siblings == length indexes) && (length prefixes == length indexes) &&
      (length suffixes == length indexes)

  abbrev inside : ℕ → Bool
  inside len = list_all (λ index. nat_lt index (2 ^ (len + 1))) indexes

  abbrev proof : MultiWay
  proof = listed_way leaf inner siblings prefixes suffixes indexes

  first_long : (len : ℕ) → len ≡ length (get_or (map (λ (row : Vec D Z). row.items) suffixes) 0 []) → len
      ≡ path_length proof
  first_long len is = is ∙ sym (first-seen inner suffixes)

  pub as_long : as_many ≡ true → (length siblings ≡ length suffixes) × (length prefixes ≡ length suffixes)
      × (length indexes ≡ length suffixes)
  as_long is =
      let rows = and_parts (nat_lt 0 (length indexes) && (length siblings == length indexes) &&
      (length prefixes == length indexes)) _ is in
      let numbers = and_parts (nat_lt 0 (length indexes) && (length siblings == length indexes)) _ rows.0 in
      let last = sym (eqb-true (length suffixes) (length indexes) rows.1) in (
        eqb-true (length siblings) (length indexes) (and_parts (nat_lt 0 (length indexes)) _ numbers.0).1 ∙ last,
        eqb-true (length prefixes) (length indexes) numbers.1 ∙ last,
        last,
      )

  pub is_strict-uneven : as_many ≡ false → is_strict proof ≡ false
  is_strict-uneven is = rw (length-map siblings leaf, length-map suffixes (digests_of inner), is) refl

  is_strict-even : as_many ≡ true → is_strict proof ≡ (are_rising indexes && inside (path_length proof) && are_longest
      [] prefixes (decoded_paths proof))
  is_strict-even is = rw (length-map siblings leaf, length-map suffixes (digests_of inner), is) refl

  module _ (is : as_many ≡ true) (len : ℕ) (first : len ≡ length (get_or (map (λ (row : Vec D Z). row.items) suffixes)
      0 [])) where
    pub is_strict-misplaced : (are_rising indexes && inside len) ≡ false → is_strict proof ≡ false
    is_strict-misplaced fails = is_strict-even is ∙ rw (← first_long len first, fails) refl

    pub is_strict-placed : (are_rising indexes && inside len) ≡ true → is_strict proof ≡ are_longest [] prefixes
        (decoded_paths proof)
    is_strict-placed holds = is_strict-even is ∙ rw (← first_long len first, holds) refl

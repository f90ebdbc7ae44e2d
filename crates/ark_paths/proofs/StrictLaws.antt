-- Each list of paths in order has one strict multi-proof.
use Rattle.std.proofs.Common.{◌≡◌, ℕ, zero, suc, ◌+◌, ◌<◌, ◌≤◌, ◌^◌, Bool, true, false, ◌&&◌, nat_eq, nat_lt, List, [], ◌∷◌, ◌++◌, length, map, take, drop, get_or, Option, Some, refl, ap, sym, ◌∙◌, arith, add-one}
use Rattle.std.specs.List.{All, AllByRecursion, list_all}
use Rattle.std.specs.List.Sorted.{IsStrictlyIncreasing}
use Rattle.std.proofs.Math.Seq.{drop-append_seam}
use Rattle.std.proofs.lemmas.Bool.{lt-ltb, eq-eqb, eqb-true}
use Rattle.std.proofs.lemmas.List.{drop_more, drop_all, length-append, length-map, length-take-le}
use Rattle.std.proofs.lemmas.Option.{slice_get-get_or}
use Rattle.std.proofs.lemmas.List.Elements.{All-map, recursion_from_All}
use Rattle.std.proofs.lemmas.List.Sums.{list_all-from_AllPass}
use Rattle.ark_paths.specs.MultiPath.{MultiWay, path_length, decoded_path, decoded_paths_from, decoded_paths}
use Rattle.ark_paths.specs.MultiPathStrict.{AreInOrder, are_rising, are_longest, is_strict}
use Rattle.ark_paths.specs.Sharing.{shared_count, prefixes_of, suffixes_of, multi_path_of}
use Rattle.ark_paths.specs.Pair.{Digest}
use Rattle.ark_paths.specs.Path.{Way}
use Rattle.ark_paths.proofs.MultiShared.{HasParts, above_of, decoded-merged}
use Rattle.ark_paths.proofs.MultiStrict.{all_shared, longest_left, longest_left-next, shared-le_before}

-- ---- a strict multi-proof is made of its paths

pub both_hold : (a b : Bool) → a && b ≡ true → (a ≡ true) × (b ≡ true)
both_hold true b e = (refl, e)
both_hold false b e = absurd cc

next-is : {X : Type 0} (xs : List X) (i : ℕ) (d : X) → i < length xs → drop i xs ≡ get_or xs i d ∷ drop (suc i) xs
next-is xs i d below = drop_more xs i d below ∙ ap (λ (n : ℕ). get_or xs i d ∷ drop n xs) (add-one i)

-- the paths from place i on, with the parts that are theirs
pub record IsMadeOf (m : MultiWay) (i : ℕ) (before : List Digest) : Type 0 where
  pub ways : List Way
  pub decoded : decoded_paths_from m i before (drop i m.indexes) ≡ map Some ways
  pub parts : HasParts m i before ways
  pub indexes : drop i m.indexes ≡ map (λ way. way.index) ways
  pub long : AllByRecursion (λ way. length way.above ≡ path_length m) ways

module _ (m : MultiWay) (siblings : length m.siblings ≡ length m.indexes) (prefixes : length m.prefixes
    ≡ length m.indexes) (suffixes : length m.suffixes ≡ length m.indexes) where
  module _ (i : ℕ) (before : List Digest) (below : i < length m.indexes) where
    abbrev here : Way
    here = record {
      sibling = get_or m.siblings i [];
      above = take (get_or m.prefixes i 0) before ++ get_or m.suffixes i
          [];
      index = get_or m.indexes i 0;
    }

    step : nat_eq (get_or m.prefixes i 0 + length (get_or m.suffixes i [])) (path_length m) ≡ true
        → decoded_path m i before (get_or m.indexes i 0) ≡ Some here
    step sums = rw (
      slice_get-get_or m.siblings i [] (omega (arith, siblings)),
      slice_get-get_or m.prefixes i 0 (omega (arith, prefixes)),
      slice_get-get_or m.suffixes i [] (omega (arith, suffixes)),
      sums,
    ) refl

    IsMadeOf-more : nat_eq (get_or m.prefixes i 0 + length (get_or m.suffixes i [])) (path_length m) ≡ true
        → all_shared before (get_or m.prefixes i 0) (get_or m.suffixes i []) ≡ true → IsMadeOf m (suc i) here.above
        → IsMadeOf m i before
    IsMadeOf-more sums shared rest =
        let prefix = get_or m.prefixes i 0 in
        let suffix = get_or m.suffixes i [] in
        let longest : prefix ≡ shared_count before here.above = eqb-true prefix _ shared in
        let within : prefix ≤ length before = omega (arith, longest, shared-le_before before here.above) in
        let sum = eqb-true (prefix + length suffix) (path_length m) sums in
        let others : suffix ≡ drop prefix here.above = sym (ap (λ (n : ℕ). drop n here.above)
        (sym (length-take-le prefix before within)) ∙ drop-append_seam (take prefix before) suffix) in
        record {
          ways = here ∷ rest.ways;
          decoded = rw (next-is m.indexes i 0 below, step sums) (ap (λ (ways : List (Option Way)). Some here
              ∷ ways) rest.decoded);
          parts = record {
            siblings = next-is m.siblings i [] (omega (arith, siblings)) ∙ ap (λ (ds : List Digest). here.sibling ∷ ds)
                rest.parts.siblings;
            prefixes = next-is m.prefixes i 0 (omega (arith, prefixes)) ∙ ap (λ (n : ℕ). n ∷ drop (suc i) m.prefixes)
                longest ∙ ap (λ (ns : List ℕ). shared_count before here.above ∷ ns) rest.parts.prefixes;
            suffixes = next-is m.suffixes i [] (omega (arith, suffixes)) ∙ ap (λ (ds : List Digest). ds ∷ drop (suc i)
                m.suffixes) (others ∙ ap (λ (n : ℕ). drop n here.above) longest) ∙ ap (λ (ds : List (List Digest)). drop
                (shared_count before here.above) here.above ∷ ds) rest.parts.suffixes;
          };
          indexes = next-is m.indexes i 0 below ∙ ap (λ (ns : List ℕ). here.index ∷ ns) rest.indexes;
          long = (
            omega (arith, length-append (take prefix before) suffix, length-take-le prefix before within, sum),
            rest.long,
          );
        }

  IsMadeOf-left : (left i : ℕ) (before : List Digest) → i + left ≡ length m.indexes → longest_left m i before ≡ true
      → IsMadeOf m i before
  IsMadeOf-left zero i before all holds =
      let none = drop_all i m.indexes (omega arith) in
      record {
        ways = [];
        decoded = rw none refl;
        parts = record {
          siblings = drop_all i m.siblings (omega (arith, siblings));
          prefixes = drop_all i m.prefixes
              (omega (arith, prefixes));
          suffixes = drop_all i m.suffixes (omega (arith, suffixes));
        };
        indexes = none;
        long = tt;
      }
  IsMadeOf-left (suc left) i before all holds =
      let prefix = get_or m.prefixes i 0 in
      let suffix = get_or m.suffixes i [] in
      let below : i < length m.indexes = omega arith in
      let next = longest_left-next m i before suffix (path_length m) below prefixes siblings suffixes refl refl in
      let split = both_hold (nat_eq (prefix + length suffix) (path_length m) && all_shared before prefix suffix) _
      (sym next ∙ holds) in
      let tests = both_hold (nat_eq (prefix + length suffix) (path_length m)) _ split.0 in
      let further : longest_left m (suc i) (take prefix before ++ suffix) ≡ true = rw add-one at split.1 in
      IsMadeOf-more i before below tests.0 tests.1 (IsMadeOf-left left (suc i) (take prefix before ++ suffix)
      (omega arith) further)

abbrev tests : MultiWay → Bool
tests m =
    nat_lt 0 (length m.indexes) && nat_eq (length m.siblings) (length m.indexes) && nat_eq (length m.prefixes)
    (length m.indexes) && nat_eq (length m.suffixes) (length m.indexes)
    && are_rising m.indexes && list_all (λ index. nat_lt index (2 ^ (path_length m + 1))) m.indexes

pub made_of : (m : MultiWay) → is_strict m ≡ true → IsMadeOf m 0 []
made_of m strict =
    let longest = both_hold (tests m) (longest_left m 0 []) strict in
    let below = both_hold _ (list_all (λ index. nat_lt index (2 ^ (path_length m + 1))) m.indexes) longest.0 in
    let rising = both_hold _ (are_rising m.indexes) below.0 in
    let suffixes = both_hold _ (nat_eq (length m.suffixes) (length m.indexes)) rising.0 in
    let prefixes = both_hold _ (nat_eq (length m.prefixes) (length m.indexes)) suffixes.0 in
    let siblings = both_hold _ (nat_eq (length m.siblings) (length m.indexes)) prefixes.0 in
    IsMadeOf-left m (eqb-true _ _ siblings.1) (eqb-true _ _ prefixes.1) (eqb-true _ _ suffixes.1) (length m.indexes) 0
    [] (omega arith) longest.1

-- its indexes are inside the tree of its height
pub within_tree : (m : MultiWay) → is_strict m ≡ true → list_all (λ index. nat_lt index (2 ^ (path_length m + 1)))
    m.indexes ≡ true
within_tree m strict = (both_hold _ (list_all (λ index. nat_lt index (2 ^ (path_length m + 1))) m.indexes)
    (both_hold (tests m) (longest_left m 0 []) strict).0).1

is_of_its_paths : (m : MultiWay) (made : IsMadeOf m 0 []) → m ≡ multi_path_of made.ways
is_of_its_paths m made = λ i. record {
  siblings = made.parts.siblings i;
  prefixes = made.parts.prefixes i;
  suffixes =
      made.parts.suffixes i;
  indexes = made.indexes i;
}

same_paths : (ways others : List Way) → map Some ways ≡ map Some others → ways ≡ others
same_paths [] [] e = refl
same_paths [] (other ∷ others) e = absurd cc
same_paths (way ∷ ways) [] e = absurd cc
same_paths (way ∷ ways) (other ∷ others) e =
    let first : way ≡ other = cc in
    let more : map Some ways ≡ map Some others = cc in
    ap (λ (w : Way). w ∷ ways) first ∙ ap (λ (ws : List Way). other ∷ ws) (same_paths ways others more)

-- Two strict multi-proofs that decode to the same paths are the same.
pub one_strict : (a b : MultiWay) → is_strict a ≡ true → is_strict b ≡ true → decoded_paths a ≡ decoded_paths b → a ≡ b
one_strict a b a_strict b_strict same =
    let a_made = made_of a a_strict in
    let b_made = made_of b b_strict in
    is_of_its_paths a a_made ∙ ap multi_path_of (same_paths a_made.ways b_made.ways (sym a_made.decoded ∙ same
    ∙ b_made.decoded)) ∙ sym (is_of_its_paths b b_made)

-- ---- the multi-proof of paths in order is strict

length-prefixes_of : (before : List Digest) (lists : List (List Digest)) → length (prefixes_of before lists)
    ≡ length lists
length-prefixes_of before [] = refl
length-prefixes_of before (list ∷ lists) = ap suc (length-prefixes_of list lists)

length-suffixes_of : (before : List Digest) (lists : List (List Digest)) → length (suffixes_of before lists)
    ≡ length lists
length-suffixes_of before [] = refl
length-suffixes_of before (list ∷ lists) = ap suc (length-suffixes_of list lists)

rising-from : (numbers : List ℕ) → IsStrictlyIncreasing numbers → are_rising numbers ≡ true
rising-from [] rises = refl
rising-from (n ∷ []) rises = refl
rising-from (n ∷ next ∷ numbers) rises =
    let first : n < next = rises 0 (omega arith) in
    rw (lt-ltb n next first) (rising-from (next ∷ numbers) (λ k below. let further : suc k + 1 ≡ suc (k + 1) =
    omega arith in rw further at (rises (suc k) (omega (arith, below)))))

longest-from : (before : List Digest) (ways : List Way) → are_longest before (prefixes_of before (above_of ways))
    (map Some ways) ≡ true
longest-from before [] = refl
longest-from before (way ∷ ways) = rw (eq-eqb (shared_count before way.above) (shared_count before way.above) refl)
    (longest-from way.above ways)

module _ (k : ℕ) (ways : List Way) (order : AreInOrder k ways) where
  first-long : (ways : List Way) → 0 < length ways → All (λ way. length way.above ≡ k) ways
      → path_length (multi_path_of ways) ≡ k
  first-long [] some long = absurd (omega arith)
  first-long (way ∷ ways) some long = long 0 way (omega arith)

  all-inside : (len : ℕ) → len ≡ k → (ways : List Way) → All (λ way. way.index < 2 ^ (k + 1)) ways
      → list_all (λ index. nat_lt index (2 ^ (len + 1))) (map (λ way. way.index) ways) ≡ true
  all-inside len same ways inside =
      list_all-from_AllPass (λ index. nat_lt index (2 ^ (len + 1))) _
      (All-map (λ index. nat_lt index (2 ^ (len + 1)) ≡ true) (λ way. way.index) ways
      (λ i d below. rw same (lt-ltb _ _ (inside i d below))))

  pub decoded-in_order : decoded_paths (multi_path_of ways) ≡ map Some ways
  decoded-in_order = decoded-merged k ways (recursion_from_All (λ way. length way.above ≡ k) ways order.same_length)

  pub strict-in_order : is_strict (multi_path_of ways) ≡ true
  strict-in_order =
      let m = multi_path_of ways in
      let indexes = length-map ways (λ way. way.index) in
      let count = lt-ltb 0 (length m.indexes) (omega (arith, indexes, order.some)) in
      let siblings = eq-eqb (length m.siblings) (length m.indexes) (length-map ways (λ way. way.sibling)
      ∙ sym indexes) in
      let prefixes = eq-eqb (length m.prefixes) (length m.indexes) (length-prefixes_of [] (above_of ways)
      ∙ length-map ways (λ way. way.above) ∙ sym indexes) in
      let suffixes = eq-eqb (length m.suffixes) (length m.indexes) (length-suffixes_of [] (above_of ways)
      ∙ length-map ways (λ way. way.above) ∙ sym indexes) in
      let inside = all-inside (path_length m) (first-long ways order.some order.same_length) ways order.within_tree in
      rw (count, siblings, prefixes, suffixes, rising-from m.indexes order.rising, inside, decoded-in_order)
      (longest-from [] ways)

-- ---- as contracts say it

pub one_spelling : (bytes : MultiWay → List ℕ) (a b : MultiWay) → is_strict a ≡ true → is_strict b ≡ true
    → decoded_paths a ≡ decoded_paths b → (a ≡ b) × (bytes a ≡ bytes b)
one_spelling bytes a b a_strict b_strict same = let one = one_strict a b a_strict b_strict same in (one, ap bytes one)

pub each_has_one : (k : ℕ) (ways : List Way) → AreInOrder k ways → (proof : MultiWay) × (is_strict proof ≡ true)
    × (decoded_paths proof ≡ map Some ways)
each_has_one k ways order = (multi_path_of ways, strict-in_order k ways order, decoded-in_order k ways order)

-- Paths of which each takes from the one before what they have in common.
use Rattle.std.proofs.Common.{◌≡◌, ℕ, zero, suc, ◌+◌, ◌≤◌, Bool, true, false, nat_eq, List, [], ◌∷◌, ◌++◌, length, map, take, drop, slice_get, Option, Some, refl, ap, sym, ◌∙◌, arith, length-drop, add-one, subst}
use Rattle.std.specs.List.{AllByRecursion}
use Rattle.std.proofs.lemmas.Bool.{eq-eqb}
use Rattle.std.proofs.lemmas.List.{drop-drop, take-append-drop}
use Rattle.std.proofs.lemmas.Slice.Eq.{bytes_eq-Decides}
use Rattle.ark_paths.specs.MultiPath.{MultiWay, path_length, decoded_path, decoded_paths_from, decoded_paths}
use Rattle.ark_paths.specs.Sharing.{shared_count, prefixes_of, suffixes_of, multi_path_of}
use Rattle.ark_paths.specs.Pair.{Digest, digest_eq}
use Rattle.ark_paths.specs.Path.{Way}

-- ---- digests in common

pub shared-same : (x y : Digest) (xs ys : List Digest) → digest_eq x y ≡ true → shared_count (x ∷ xs) (y ∷ ys)
    ≡ suc (shared_count xs ys)
shared-same x y xs ys same = rw same refl

pub shared-other : (x y : Digest) (xs ys : List Digest) → digest_eq x y ≡ false → shared_count (x ∷ xs) (y ∷ ys) ≡ 0
shared-other x y xs ys other = rw other refl

shared-by : (x y : Digest) (xs ys : List Digest) (b : Bool) → digest_eq x y ≡ b → (shared_count xs ys ≤ length ys)
    × (take (shared_count xs ys) xs ≡ take (shared_count xs ys) ys) → (shared_count (x ∷ xs) (y ∷ ys) ≤ suc (length ys))
    × (take (shared_count (x ∷ xs) (y ∷ ys)) (x ∷ xs) ≡ take (shared_count (x ∷ xs) (y ∷ ys)) (y ∷ ys))
shared-by x y xs ys true e h = let same : x ≡ y = (bytes_eq-Decides x y).0 e in
    rw e (
      omega (arith, h.0),
      ap (λ (d : Digest). d ∷ take (shared_count xs ys) xs) same
          ∙ ap (λ (ds : List Digest). y ∷ ds) h.1,
    )
shared-by x y xs ys false e h = rw e (omega arith, refl)

-- both lists have as many digests, and these are the same
shared-is : (xs ys : List Digest) → (shared_count xs ys ≤ length ys) × (take (shared_count xs ys) xs
    ≡ take (shared_count xs ys) ys)
shared-is [] ys = (omega arith, refl)
shared-is (x ∷ xs) [] = (omega arith, refl)
shared-is (x ∷ xs) (y ∷ ys) = shared-by x y xs ys (digest_eq x y) refl (shared-is xs ys)

pub shared-le : (xs ys : List Digest) → shared_count xs ys ≤ length ys
shared-le xs ys = (shared-is xs ys).0

pub shared-rest : (before list : List Digest) → take (shared_count before list) before ++ drop
    (shared_count before list) list ≡ list
shared-rest before list = ap (λ (ds : List Digest). ds ++ drop (shared_count before list) list)
    (shared-is before list).1 ∙ take-append-drop (shared_count before list) list

-- ---- lists of lists, from the front

-- the last list, if there is one
abbrev pub last_of : List Digest → List (List Digest) → List Digest
last_of before [] = before
last_of before (list ∷ lists) = last_of list lists

pub last_of-push : (before list : List Digest) (lists : List (List Digest)) → last_of before (lists ++ list ∷ []) ≡ list
last_of-push before list [] = refl
last_of-push before list (l ∷ lists) = last_of-push l list lists

pub prefixes_of-push : (before list : List Digest) (lists : List (List Digest)) → prefixes_of before (lists ++ list
    ∷ []) ≡ prefixes_of before lists ++ shared_count (last_of before lists) list ∷ []
prefixes_of-push before list [] = refl
prefixes_of-push before list (l ∷ lists) =
    ap (λ (ns : List ℕ). shared_count before l ∷ ns) (prefixes_of-push l list lists)

pub suffixes_of-push : (before list : List Digest) (lists : List (List Digest)) → suffixes_of before (lists ++ list
    ∷ []) ≡ suffixes_of before lists ++ drop (shared_count (last_of before lists) list) list ∷ []
suffixes_of-push before list [] = refl
suffixes_of-push before list (l ∷ lists) = ap (λ (ds : List (List Digest)). drop (shared_count before l) l ∷ ds)
    (suffixes_of-push l list lists)

-- ---- decoding

pub slice_get-drop : {X : Type 0} (xs : List X) (i : ℕ) (x : X) (rest : List X) → drop i xs ≡ x ∷ rest
    → slice_get xs i ≡ Some x
slice_get-drop [] zero x rest e = absurd cc
slice_get-drop [] (suc i) x rest e = absurd cc
slice_get-drop (y ∷ xs) zero x rest e = let same : y ≡ x = cc in ap Some same
slice_get-drop (y ∷ xs) (suc i) x rest e = slice_get-drop xs i x rest e

drop-next : {X : Type 0} (xs : List X) (i : ℕ) (x : X) (rest : List X) → drop i xs ≡ x ∷ rest → drop (suc i) xs ≡ rest
drop-next xs i x rest e = rw (← add-one i) (sym (drop-drop 1 i xs) ∙ ap (drop 1) e)

abbrev pub above_of : List Way → List (List Digest)
above_of ways = map (λ way. way.above) ways

-- from place i on, the parts are those of these paths
pub record HasParts (m : MultiWay) (i : ℕ) (before : List Digest) (ways : List Way) : Type 0 where
  pub siblings : drop i m.siblings ≡ map (λ way. way.sibling) ways
  pub prefixes : drop i m.prefixes ≡ prefixes_of before (above_of ways)
  pub suffixes : drop i m.suffixes ≡ suffixes_of before (above_of ways)

decoded_at-part : (m : MultiWay) (i : ℕ) (before : List Digest) (way : Way) (ways : List Way) → HasParts m i before
    (way ∷ ways) → length way.above ≡ path_length m → decoded_path m i before way.index ≡ Some way
decoded_at-part m i before way ways parts long =
    let n = shared_count before way.above in
    let rest = drop n way.above in
    let fit : nat_eq (n + length rest) (path_length m) ≡ true =
    eq-eqb _ _ (omega (arith, long, length-drop n way.above, shared-le before way.above)) in
    rw (
      slice_get-drop m.siblings i way.sibling _ parts.siblings,
      slice_get-drop m.prefixes i n _ parts.prefixes,
      slice_get-drop m.suffixes i rest _ parts.suffixes,
      fit,
    )
    (ap (λ (ds : List Digest). Some (record { sibling = way.sibling; above = ds; index = way.index }))
    (shared-rest before way.above))

decoded_from-parts : (m : MultiWay) (i : ℕ) (before : List Digest) (ways : List Way) → HasParts m i before ways
    → AllByRecursion (λ way. length way.above ≡ path_length m) ways → decoded_paths_from m i before
    (map (λ way. way.index) ways) ≡ map Some ways
decoded_from-parts m i before [] parts long = refl
decoded_from-parts m i before (way ∷ ways) parts long =
    let next : HasParts m (suc i) way.above ways = record {
      siblings = drop-next m.siblings i way.sibling _ parts.siblings;
      prefixes = drop-next m.prefixes i _ _ parts.prefixes;
      suffixes = drop-next m.suffixes i _ _ parts.suffixes;
    } in
    rw (decoded_at-part m i before way ways parts long.0) (ap (λ (os : List (Option Way)). Some way ∷ os)
    (decoded_from-parts m (suc i) way.above ways next long.1))

-- paths of one length are decoded from what they are merged to
pub decoded-merged : (k : ℕ) (ways : List Way) → AllByRecursion (λ way. length way.above ≡ k) ways → decoded_paths
    (multi_path_of ways) ≡ map Some ways
decoded-merged k [] long = refl
decoded-merged k (way ∷ ways) long = decoded_from-parts (multi_path_of (way ∷ ways)) 0 [] (way ∷ ways)
    (record { siblings = refl; prefixes = refl; suffixes = refl }) (subst (λ (n : ℕ). AllByRecursion
    (λ (way : Way). length way.above ≡ n) (way ∷ ways)) (sym long.0) long)

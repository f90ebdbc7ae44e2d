-- The paths of a multi-proof as lists of digests, and what they say of their leaves.
use Rattle.std.proofs.Common.{zero, suc, ◌≡◌, ℕ, ◌==◌, ◌+◌, ◌<◌, ◌≤◌, true, false, List, [], ◌∷◌, ◌++◌, length, map, take, drop, get_or, Some, Ok, arith, refl, ap, sym, subst, ◌∙◌}
use Rattle.std.proofs.lemmas.Bool.Decides.{nat_tests}
use Rattle.std.proofs.lemmas.List.{length-append, length-map, length-take-le, take-append-le, take-map, get_or-take}
use Rattle.std.proofs.lemmas.Option.{slice_get-get_or}
use Rattle.std.proofs.Math.Seq.{drop-append_seam}
use Rattle.std.specs.declared.vec.Vec.{Vec}
use Rattle.ark_base.specs.Outcome.{Outcome}
use Rattle.ark_paths.specs.Nodes.{AllClimb, AllRoot, AreFirsts, ArePaths, HasParts, listed_path, paths_after}
use Rattle.ark_paths.specs.MultiPath.{MultiWay, decoded_path, decoded_paths_from, multi_verdict, multi_verdict_from, path_length}
use Rattle.ark_paths.specs.Pair.{Digest, HashPair}
use Rattle.ark_paths.specs.Path.{path_root}
use Rattle.ark_paths.specs.Root.{all_hashes}
use Rattle.ark_paths.specs.Rows.{digests_of}
use Rattle.ark_paths.proofs.ListOutcomes.{each-cons}
use Rattle.ark_paths.proofs.OwnPaths.{digest_eq-same}

eqb-itself : (n : ℕ) → (n == n) ≡ true
eqb-itself n = grind (arith, nat_tests)

-- ---- the paths

parts-less : (p : ℕ) (ps : List ℕ) (x : List Digest) (xs : List (List Digest)) (count len : ℕ)
    → HasParts (p ∷ ps) (x ∷ xs) (suc count) len → HasParts ps xs count len
parts-less p ps x xs count len parts = record {
  prefixes_long = let long : suc count ≤ suc (length ps) = parts.prefixes_long in omega arith;
  suffixes_long = let long : suc count ≤ suc (length xs) = parts.suffixes_long in omega arith;
  fit = λ i below. parts.fit (suc i) (omega (arith, below));
}

-- such paths, and what the first takes from a path before
record Follow (before : List Digest) (prefixes : List ℕ) (suffixes : List (List Digest)) (count len : ℕ)
    : Type 0 where
  are : ArePaths (paths_after before prefixes suffixes) prefixes suffixes count len
  first : (n : ℕ) → 0 < count → n ≤ get_or prefixes 0 0
      → take n before ≡ take n (get_or (paths_after before prefixes suffixes) 0 [])

take-less : {A : Type 0} (n p : ℕ) (xs : List A) → n ≤ p → take n (take p xs) ≡ take n xs
take-less zero p xs few = refl
take-less (suc n) zero xs few = absurd (omega (arith, few))
take-less (suc n) (suc p) [] few = refl
take-less (suc n) (suc p) (x ∷ xs) few = ap (λ ys. x ∷ ys) (take-less n p xs (omega (arith, few)))

module _ (p : ℕ) (ps : List ℕ) (x : List Digest) (xs : List (List Digest)) (before : List Digest) (count len : ℕ)
    (parts : HasParts (p ∷ ps) (x ∷ xs) (suc count) len) (reaches : p ≤ length before) where
  abbrev path : List Digest
  path = take p before ++ x

  taken : length (take p before) ≡ p
  taken = length-take-le p before reaches

  whole : length path ≡ len
  whole =
      let fit : p + length x ≡ len = parts.fit 0 (omega arith) in
      length-append (take p before) x ∙ omega (arith, taken, fit)

  enough-next : 0 < count → get_or ps 0 0 ≤ length path
  enough-next some =
      let fit : get_or ps 0 0 + length (get_or xs 0 []) ≡ len = parts.fit 1 (omega (arith, some)) in
      omega (arith, whole, fit)

  module _ (others : Follow path ps xs count len) where
    abbrev all : List (List Digest)
    all = paths_after before (p ∷ ps) (x ∷ xs)

    long : (i : ℕ) → i < suc count → length (get_or all i []) ≡ len
    long zero below = whole
    long (suc i) below = others.are.long i (omega (arith, below))

    ends : (i : ℕ) → i < suc count → drop (get_or (p ∷ ps) i 0) (get_or all i []) ≡ get_or (x ∷ xs) i []
    ends zero below = subst (λ (n : ℕ). drop n path ≡ x) taken (drop-append_seam (take p before) x)
    ends (suc i) below = others.are.ends i (omega (arith, below))

    begins : (i n : ℕ) → suc i < suc count → n ≤ get_or (p ∷ ps) (suc i) 0
        → take n (get_or all i []) ≡ take n (get_or all (suc i) [])
    begins zero n below few = others.first n (omega (arith, below)) few
    begins (suc i) n below few = others.are.begins i n (omega (arith, below)) few

    follow-more : Follow before (p ∷ ps) (x ∷ xs) (suc count) len
    follow-more = record {
      are = record { long = long; ends = ends; begins = begins };
      first = λ n some few.
          sym (take-append-le n (take p before) x (omega (arith, taken, few)) ∙ take-less n p before few);
    }

follow : (prefixes : List ℕ) (suffixes : List (List Digest)) (before : List Digest) (count len : ℕ)
    → HasParts prefixes suffixes count len → (0 < count → get_or prefixes 0 0 ≤ length before)
    → Follow before prefixes suffixes count len
follow prefixes suffixes before zero len parts enough = record {
  are = record {
    long = λ i below. absurd (omega (arith, below));
    ends = λ i below. absurd (omega (arith, below));
    begins = λ i n below. absurd (omega (arith, below));
  };
  first = λ n some. absurd (omega (arith, some));
}
follow [] suffixes before (suc count) len parts enough =
    absurd (let long : suc count ≤ 0 = parts.prefixes_long in omega (arith, long))
follow (p ∷ ps) [] before (suc count) len parts enough =
    absurd (let long : suc count ≤ 0 = parts.suffixes_long in omega (arith, long))
follow (p ∷ ps) (x ∷ xs) before (suc count) len parts enough =
    let reaches : p ≤ length before = enough (omega arith) in
    follow-more p ps x xs before count len parts reaches
    (follow ps xs (take p before ++ x) count len (parts-less p ps x xs count len parts)
    (enough-next p ps x xs before count len parts reaches))

-- the path of a place takes from the one before, and goes on with its suffix
path-next : (prefixes : List ℕ) (suffixes : List (List Digest)) (before : List Digest) (i : ℕ)
    → suc i < length prefixes → suc i < length suffixes
    → get_or (paths_after before prefixes suffixes) (suc i) []
    ≡ take (get_or prefixes (suc i) 0) (get_or (paths_after before prefixes suffixes) i [])
    ++ get_or suffixes (suc i) []
path-next [] suffixes before i below inside = absurd (omega (arith, below))
path-next (p ∷ ps) [] before i below inside = absurd (omega (arith, inside))
path-next (p ∷ []) (x ∷ xs) before i below inside = absurd (let b : suc i < 1 = below in omega (arith, b))
path-next (p ∷ q ∷ ps) (x ∷ []) before i below inside = absurd (let b : suc i < 1 = inside in omega (arith, b))
path-next (p ∷ q ∷ ps) (x ∷ y ∷ xs) before zero below inside = refl
path-next (p ∷ q ∷ ps) (x ∷ y ∷ xs) before (suc i) below inside =
    path-next (q ∷ ps) (y ∷ xs) (take p before ++ x) i
    (let b : suc (suc i) < suc (length (q ∷ ps)) = below in omega (arith, b))
    (let b : suc (suc i) < suc (length (y ∷ xs)) = inside in omega (arith, b))

path-first : (prefixes : List ℕ) (suffixes : List (List Digest)) → 0 < length prefixes → 0 < length suffixes
    → take (get_or prefixes 0 0) [] ++ get_or suffixes 0 [] ≡ get_or (paths_after [] prefixes suffixes) 0 []
path-first [] suffixes some here = absurd (omega (arith, some))
path-first (p ∷ ps) [] some here = absurd (omega (arith, here))
path-first (p ∷ ps) (x ∷ xs) some here = refl

module _ (prefixes : List ℕ) (suffixes : List (List Digest)) (count len : ℕ)
    (parts : HasParts prefixes suffixes count len) (first : 0 < count → length (get_or suffixes 0 []) ≡ len) where
  -- the paths of a multi-proof, before whose first there is none
  pub are_paths : ArePaths (paths_after [] prefixes suffixes) prefixes suffixes count len
  are_paths = (follow prefixes suffixes [] count len parts
      (λ some. omega (arith, parts.fit 0 some, first some))).are

-- each path as a node of its own
pub nodes-alone : (above : List (List Digest)) (prefixes : List ℕ) (suffixes : List (List Digest)) (count len most : ℕ)
    (firsts : List ℕ) → ArePaths above prefixes suffixes count len → length firsts ≡ count
    → ((g : ℕ) → g < count → get_or firsts g 0 ≡ g) → AreFirsts above prefixes most firsts
nodes-alone above prefixes suffixes count len most firsts paths many are = λ g n below few takes.
    let here : get_or firsts g 0 ≡ g = are g (omega (arith, below, many)) in
    let next : get_or firsts (suc g) 0 ≡ suc g = are (suc g) (omega (arith, below, many)) in
    rw (here, next) (paths.begins g n (omega (arith, below, many)) (rw next at takes))

-- ---- the verdict

module _ {A : Type 0} (h : HashPair) (leaf : A → Outcome Digest) (root : Digest) (m : MultiWay) (count : ℕ)
    (parts : HasParts m.prefixes m.suffixes count (path_length m)) (siblings : count ≤ length m.siblings) where
  abbrev above : List (List Digest)
  above = paths_after [] m.prefixes m.suffixes

  decoded : (i index : ℕ) (before : List Digest) → i < count
      → take (get_or m.prefixes i 0) before ++ get_or m.suffixes i [] ≡ get_or above i []
      → index ≡ get_or m.indexes i 0
      → decoded_path m i before index ≡ Some (listed_path above m.siblings m.indexes i)
  decoded i index before below is at =
      let fit : (get_or m.prefixes i 0 + length (get_or m.suffixes i []) == path_length m) ≡ true =
      (eqb-same (get_or m.prefixes i 0 + length (get_or m.suffixes i [])) (path_length m) (parts.fit i below)) in
      rw (
        slice_get-get_or m.siblings i [] (omega (arith, below, siblings)),
        slice_get-get_or m.prefixes i 0 (omega (arith, below, parts.prefixes_long)),
        slice_get-get_or m.suffixes i [] (omega (arith, below, parts.suffixes_long)),
        fit,
        at,
        is,
      ) refl
    where
      eqb-same : (a b : ℕ) → a ≡ b → (a == b) ≡ true
      eqb-same a b same = rw same (eqb-itself b)

  verdict-from : (indexes : List ℕ) (leaves : List A) (digests : List Digest) (i : ℕ) (before : List Digest)
      → i + length indexes ≤ count → length indexes ≤ length leaves
      → all_hashes leaf (take (length indexes) leaves) ≡ Ok digests
      → ((j : ℕ) → j < length indexes → get_or indexes j 0 ≡ get_or m.indexes (i + j) 0)
      → (i < count → take (get_or m.prefixes i 0) before ++ get_or m.suffixes i [] ≡ get_or above i [])
      → ((j : ℕ) → j < length indexes
      → path_root h (listed_path above m.siblings m.indexes (i + j)) (get_or digests j []) ≡ Ok root)
      → multi_verdict_from h root i (decoded_paths_from m i before indexes) (map leaf leaves) ≡ Ok true
  verdict-from [] leaves digests i before inside enough hashed at is roots = refl
  verdict-from (index ∷ indexes) [] digests i before inside enough hashed at is roots =
      absurd (let none : suc (length indexes) ≤ 0 = enough in omega (arith, none))
  verdict-from (index ∷ indexes) (x ∷ leaves) digests i before inside enough hashed at is roots =
      let within : i + suc (length indexes) ≤ count = inside in
      let f = each-cons leaf x (take (length indexes) leaves) digests hashed in
      let here : i + 0 ≡ i = omega arith in
      let own : index ≡ get_or m.indexes i 0 = rw here at (at 0 (omega arith)) in
      let root_is : path_root h (listed_path above m.siblings m.indexes i) f.digest ≡ Ok root =
      rw (here, ← f.digests_are) at (roots 0 (omega arith)) in
      let others = verdict-from indexes leaves f.others (suc i) (get_or above i []) (omega (arith, within))
      (let long : suc (length indexes) ≤ suc (length leaves) = enough in omega (arith, long)) f.others_are
      (λ j below. let up : i + suc j ≡ suc i + j = omega arith in rw up at (at (suc j) (omega (arith, below))))
      (λ below. sym (path-next m.prefixes m.suffixes [] i (omega (arith, below, parts.prefixes_long))
      (omega (arith, below, parts.suffixes_long))))
      (λ j below. let up : i + suc j ≡ suc i + j = omega arith in
      rw (up, ← f.digests_are) at (roots (suc j) (omega (arith, below)))) in
      rw (
        decoded i index before (omega (arith, within)) (is (omega (arith, within))) own,
        f.digest_is,
        root_is,
        digest_eq-same root,
      ) others

  pub verdict-true : (leaves : List A) (digests : List Digest) → count ≡ length m.indexes → 0 < count
      → count ≤ length leaves → all_hashes leaf (take count leaves) ≡ Ok digests
      → AllRoot h root above m.siblings m.indexes count digests
      → multi_verdict h (map leaf leaves) m root ≡ Ok true
  verdict-true leaves digests all some enough hashed roots =
      let there : (length m.indexes == 0) ≡ false = grind (arith, nat_tests) in
      let same : take (length m.indexes) leaves ≡ take count leaves = ap (λ (n : ℕ). take n leaves) (sym all) in
      rw there (verdict-from m.indexes leaves digests 0 [] (omega (arith, all)) (omega (arith, all, enough))
      (rw same hashed)
      (λ j below. let e : 0 + j ≡ j = omega arith in rw e refl)
      (λ below. path-first m.prefixes m.suffixes (omega (arith, some, parts.prefixes_long))
      (omega (arith, some, parts.suffixes_long)))
      (λ j below. let e : 0 + j ≡ j = omega arith in rw e (roots j (omega (arith, all, below)))))

-- ---- the first and the last step

-- how many digests each path has
pub first-long : {D Z : Type 0} (inner : D → Digest) (lists : List (Vec D Z))
    → length (get_or (map (λ list. list.items) lists) 0 []) ≡ length (get_or (map (digests_of inner) lists) 0 [])
first-long inner [] = refl
first-long inner (list ∷ lists) = sym (length-map list.items inner)

-- with the siblings behind the last place
pub all-root-of : {S : Type 0} (leaf : S → Digest) (siblings : List S) (h : HashPair) (root : Digest)
    (above : List (List Digest)) (indexes : List ℕ) (count : ℕ) (digests : List Digest)
    → AllRoot h root above (map leaf (take count siblings)) indexes count digests
    → AllRoot h root above (map leaf siblings) indexes count digests
all-root-of leaf siblings h root above indexes count digests roots = λ i below.
    let same : get_or (map leaf (take count siblings)) i [] ≡ get_or (map leaf siblings) i [] =
    ap (λ ds. get_or ds i []) (sym (take-map leaf count siblings)) ∙ get_or-take count (map leaf siblings) i [] below in
    rw same at (roots i below)

-- one node alone has the root's node
pub all-climb-top : (h : HashPair) (root : Digest) (above : List (List Digest)) (indexes : List ℕ) (row most : ℕ)
    (firsts : List ℕ) (digests : List Digest) → most ≡ 0 → length firsts ≡ 1 → get_or digests 0 [] ≡ root
    → AllClimb h root above indexes row most firsts digests
all-climb-top h root above indexes row most firsts digests none one is = λ g below.
    let first : g ≡ 0 = omega (arith, below, one) in
    rw (none, first) (ap Ok is)

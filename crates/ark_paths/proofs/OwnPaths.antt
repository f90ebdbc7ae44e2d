-- A tree's own paths.
use Rattle.std.proofs.Common.{zero, suc, ◌≡◌, ℕ, ◌+◌, ◌-◌, ◌*◌, ◌/◌, ◌%◌, ◌<◌, ◌≤◌, ◌^◌, take, drop, Bool, true, false, if◌then◌else◌, List, [], ◌∷◌, length, get_or, Ok, Err, arith, refl, ap, sym, ◌∙◌, pow_pos}
use Rattle.std.proofs.lemmas.Slice.Eq.{bytes_eq-Decides}
use Rattle.std.proofs.lemmas.Bool.{eqb-true, eqb-false}
use Rattle.std.proofs.Math.Nat.{pow-suc, pow-succ', div-div-eq-div-mul, div-eq_of_lt}
use Rattle.ark_base.specs.Outcome.{Outcome}
use Rattle.ark_paths.specs.Bind.{couple, halves}
use Rattle.ark_paths.specs.Index.{bit_at, neighbour}
use Rattle.ark_paths.specs.Pair.{Digest, HashPair, hash_in_order, digest_eq}
use Rattle.ark_paths.specs.Path.{Way, climb, path_root, verdict}
use Rattle.ark_paths.specs.Root.{Root, place_at, place, outcome_of, root, upper_levels}
use Rattle.ark_paths.specs.Rows.{IsTree, part, beside_in}
use Rattle.ark_paths.specs.Tree.{root_digest, halves_beside, own_path}
use Rattle.ark_paths.proofs.Parts.{part-left, part-right, pair_in, part-pair, part-whole}
use Rattle.ark_paths.proofs.PlaceLemmas.{row-twice, place-inside, neighbour-inside}

at_level-root : (level : ℕ) (o : Outcome Digest) (digest : Digest) → place_at level o ≡ Root digest → o ≡ Ok digest
at_level-root level (Ok d) digest e = let same : d ≡ digest = cc in ap Ok same
at_level-root level (Err f) digest e = absurd cc

pub digest_eq-same : (digest : Digest) → digest_eq digest digest ≡ true
digest_eq-same digest = (bytes_eq-Decides digest digest).1 refl

-- ---- neighbours

-- the place above is the half of a place
pub place-above : (index k : ℕ) → index / 2 ^ suc k ≡ index / 2 ^ k / 2
place-above index k = ap (λ (n : ℕ). index / n) (pow-suc 2 k) ∙ sym (div-div-eq-div-mul index (2 ^ k) 2)

-- the bit of a level is the lowest of the place there
pub bit_at-level : (index k : ℕ) → bit_at (index / 2 ^ k) 0 ≡ bit_at index k
bit_at-level index k = let one : index / 2 ^ k / 2 ^ 0 ≡ index / 2 ^ k = omega arith in rw one refl

-- a place and its neighbour, from the left
pub record IsCouple (b : Bool) (i : ℕ) : Type 0 where
  pub place_is : i ≡ (if b then 2 * (i / 2) + 1 else 2 * (i / 2))
  pub neighbour_is : (if b then i - 1 else i + 1) ≡ (if b then 2 * (i / 2) else 2 * (i / 2) + 1)

pub is_couple : (i : ℕ) (b : Bool) → bit_at i 0 ≡ b → IsCouple b i
is_couple i true is = let odd : (i / 2 ^ 0) % 2 ≡ 1 =
    eqb-true ((i / 2 ^ 0) % 2) 1 is in record { place_is = omega arith; neighbour_is = omega arith }
is_couple i false is = let even : (i / 2 ^ 0) % 2 ≡ 1 → ⊥ =
    eqb-false ((i / 2 ^ 0) % 2) 1 is in record { place_is = omega arith; neighbour_is = omega arith }

pub hashed-couple : (hash : Digest → Digest → Outcome Digest) (b : Bool) (x y : Digest) → hash (couple b x y).0
    (couple b x y).1 ≡ hash_in_order hash b x y
hashed-couple hash true x y = refl
hashed-couple hash false x y = refl

couple-own : (row : List Digest) (i : ℕ) (b : Bool) → IsCouple b i → couple b (get_or row i [])
    (get_or row (if b then i - 1 else i + 1) []) ≡ pair_in row (i / 2)
couple-own row i true c = rw (c.neighbour_is, ← c.place_is) refl
couple-own row i false c = rw (c.neighbour_is, ← c.place_is) refl

-- Two neighbours make one pair, whichever of them comes first.
pub couple-neighbour : (row : List Digest) (i : ℕ) → couple (bit_at i 0) (get_or row i []) (get_or row (neighbour i) [])
    ≡ pair_in row (i / 2)
couple-neighbour row i = couple-own row i (bit_at i 0) (is_couple i (bit_at i 0) refl)

pub ordered-neighbour : (hash : Digest → Digest → Outcome Digest) (row : List Digest) (i : ℕ) → hash_in_order hash
    (bit_at i 0) (get_or row i []) (get_or row (neighbour i) []) ≡ hash (get_or row (2 * (i / 2)) [])
    (get_or row (2 * (i / 2) + 1) [])
ordered-neighbour hash row i = sym (hashed-couple hash (bit_at i 0) (get_or row i []) (get_or row (neighbour i) []))
    ∙ ap (λ (p : Digest × Digest). hash p.0 p.1) (couple-neighbour row i)

pub length-beside_in : (rows : List (List Digest)) (k index : ℕ) → length (beside_in rows k index) ≡ k
length-beside_in rows zero index = refl
length-beside_in rows (suc k) index = ap suc (length-beside_in rows k index)

pub drop-beside_in : (rows : List (List Digest)) (p k index : ℕ) → p ≤ k → drop p (beside_in rows k index)
    ≡ beside_in rows (k - p) index
drop-beside_in rows zero k index le = let e : k - 0 ≡ k = omega arith in rw e refl
drop-beside_in rows (suc p) zero index le = absurd (omega arith)
drop-beside_in rows (suc p) (suc k) index le = let e : suc k - suc p ≡ k - p =
    omega arith in rw e (drop-beside_in rows p k index (omega arith))

-- ---- the halves beside a way

halves_by : (h : HashPair) (leaves : List Digest) (index k q p : ℕ) (b : Bool) → bit_at index (suc k) ≡ b → IsCouple b p
    → q ≡ p / 2 → halves_beside h (suc k) index (part (suc k) q leaves)
    ≡ root_digest (place h k (part k (if b then p - 1 else p + 1) leaves)) ∷ halves_beside h k index (part k p leaves)
halves_by h leaves index k q p true is c half =
    rw (is, part-left k q leaves, part-right k q leaves, c.neighbour_is, half, ← c.place_is) refl
halves_by h leaves index k q p false is c half =
    rw (is, part-left k q leaves, part-right k q leaves, c.neighbour_is, half, ← c.place_is) refl

halves_beside-part : (h : HashPair) (leaves : List Digest) (index k : ℕ)
    → halves_beside h (suc k) index (part (suc k) (index / 2 ^ suc (suc k)) leaves)
    ≡ root_digest (place h k (part k (neighbour (index / 2 ^ suc k)) leaves)) ∷ halves_beside h k index
    (part k (index / 2 ^ suc k) leaves)
halves_beside-part h leaves index k =
    let p = index / 2 ^ suc k in
    let bit : bit_at index (suc k) ≡ bit_at p 0 = sym (bit_at-level index (suc k)) in
    halves_by h leaves index k (index / 2 ^ suc (suc k)) p (bit_at p 0) bit (is_couple p (bit_at p 0) refl)
    (place-above index (suc k))

module _ (h : HashPair) (leaves : List Digest) (rows : List (List Digest)) (tree : IsTree h leaves rows) where
  abbrev top : ℕ
  top = upper_levels leaves

  -- a digest of the lowest row is the hash of two leaf digests
  pub bottom-row : (q : ℕ) → q < length (get_or rows 0 []) → h.bottom (get_or leaves (2 * q) [])
      (get_or leaves (2 * q + 1) []) ≡ Ok (get_or (get_or rows 0 []) q [])
  bottom-row q below = ap (λ (p : Digest × Digest). h.bottom p.0 p.1) (sym (part-pair q leaves))
      ∙ at_level-root 0 _ _ (tree.roots 0 q (omega (arith, tree.count)) below)

  module _ (k q : ℕ) (inside : suc k < length rows) (below : q < length (get_or rows (suc k) [])) where
    -- the roots of the halves of a part
    halves-rooted : (place h k (take (2 ^ suc k) (part (suc k) q leaves)) ≡ Root (get_or (get_or rows k []) (2 * q) []))
        × (place h k (drop (2 ^ suc k) (part (suc k) q leaves)) ≡ Root (get_or (get_or rows k []) (2 * q + 1) []))
    halves-rooted =
        let twice = row-twice rows (length leaves) tree.levels k inside in (
          rw (part-left k q leaves) (tree.roots k (2 * q) (omega arith) (omega (arith, twice))),
          rw (part-right k q leaves) (tree.roots k (2 * q + 1) (omega arith) (omega (arith, twice))),
        )

    pub halves-row : halves h (suc k) (part (suc k) q leaves)
        ≡ pair_in (get_or rows k []) q
    halves-row = rw (halves-rooted.0, halves-rooted.1) refl

    -- a digest of each other row is the hash of two of the row below
    pub upper-row : h.upper (get_or (get_or rows k []) (2 * q) []) (get_or (get_or rows k []) (2 * q + 1) [])
        ≡ Ok (get_or (get_or rows (suc k) []) q [])
    upper-row = at_level-root (suc k) (h.upper (get_or (get_or rows k []) (2 * q) []) (get_or (get_or rows k [])
        (2 * q + 1) [])) (get_or (get_or rows (suc k) []) q [])
        (rw (halves-rooted.0, halves-rooted.1) at (tree.roots (suc k) q inside below))

  pub top-row-some : 0 < length (get_or rows (upper_levels leaves) [])
  top-row-some =
      let one : 0 / 2 ^ suc top < length (get_or rows top []) = place-inside rows (length leaves) tree.levels top 0
      (omega (arith, tree.count)) (omega (arith, tree.size, pow_pos (suc top))) in
      omega arith

  pub root-top : root h leaves ≡ Ok (get_or (get_or rows (upper_levels leaves) []) 0 [])
  root-top = ap outcome_of (rw (part-whole top leaves tree.size) at (tree.roots top 0 (omega (arith, tree.count))
      top-row-some))

  module _ (index : ℕ) (inside : index < length leaves) where
    beside_in-halves : (k : ℕ) → k < length rows → beside_in rows k index ≡ halves_beside h k index
        (part k (index / 2 ^ suc k) leaves)
    beside_in-halves zero below = refl
    beside_in-halves (suc k) below =
        let p = index / 2 ^ suc k in
        let twice = row-twice rows (length leaves) tree.levels k below in
        let here = place-inside rows (length leaves) tree.levels k index (omega arith) inside in
        let next : neighbour p < 2 * length (get_or rows (suc k) []) =
        neighbour-inside p (length (get_or rows (suc k) [])) (omega arith) in
        let beside = tree.roots k (neighbour p) (omega arith) (rw twice next) in
        rw (halves_beside-part h leaves index k, beside) (ap (λ ds. get_or (get_or rows k []) (neighbour p) [] ∷ ds)
        (beside_in-halves k (omega arith)))

    pub first_place : index / 2 ^ suc (upper_levels leaves) ≡ 0
    first_place = let below : index < 2 ^ suc (upper_levels leaves) = rw (← tree.size) inside in div-eq_of_lt below

    -- a tree's own path, from its rows
    pub own_path-rows : (above : List Digest) → above ≡ beside_in rows (upper_levels leaves) index → own_path h index
        leaves ≡ record { sibling = get_or leaves (neighbour index) []; above = above; index = index }
    own_path-rows above is =
        let whole : part top (index / 2 ^ suc top) leaves ≡ leaves = rw first_place (part-whole top leaves tree.size) in
        let same : halves_beside h top index leaves ≡ above =
        ap (halves_beside h top index) (sym whole) ∙ sym (beside_in-halves top (omega (arith, tree.count))) ∙ sym is in
        ap (λ (ds : List Digest). record { sibling = get_or leaves (neighbour index) []; above = ds; index = index })
        same

    pub climbed-own : (k : ℕ) → k < length rows → (lowest : Digest) → lowest ≡ get_or (get_or rows 0 []) (index / 2 ^ 1)
        [] → climb h.upper index (beside_in rows k index) lowest ≡ Ok (get_or (get_or rows k []) (index / 2 ^ suc k) [])
    climbed-own zero below lowest is = ap Ok is
    climbed-own (suc k) below lowest is =
        let p = index / 2 ^ suc k in
        let half : index / 2 ^ suc (suc k) ≡ p / 2 = place-above index (suc k) in
        let above = place-inside rows (length leaves) tree.levels (suc k) index below inside in
        let under : climb h.upper index (beside_in rows k index) lowest ≡ Ok (get_or (get_or rows k []) p []) =
        climbed-own k (omega arith) lowest is in
        let hashed = upper-row k (p / 2) below (omega arith) in
        rw (under, length-beside_in rows k index, half, ← bit_at-level index (suc k))
        (ordered-neighbour h.upper (get_or rows k []) p ∙ hashed)

    own_path-top : path_root h (own_path h index leaves) (get_or leaves index []) ≡ root h leaves
    own_path-top =
        let half : index / 2 ^ 1 ≡ index / 2 = omega arith in
        let here : index / 2 ^ 1 < length (get_or rows 0 []) =
        place-inside rows (length leaves) tree.levels 0 index (omega (arith, tree.count)) inside in
        let lowest = bottom-row (index / 2) (omega arith) in
        let own = own_path-rows (beside_in rows top index) refl in
        let up = climbed-own top (omega (arith, tree.count)) (get_or (get_or rows 0 []) (index / 2) [])
        (rw half refl) in
        ap (λ (way : Way). path_root h way (get_or leaves index [])) own
        ∙ rw (ordered-neighbour h.bottom leaves index, lowest, up, first_place, root-top) refl

    -- beside a leaf stands another
    pub leaf-neighbour : neighbour index < length leaves
    leaf-neighbour =
        let twice : length leaves ≡ 2 * 2 ^ upper_levels leaves = tree.size ∙ pow-succ' 2 (upper_levels leaves) in
        rw twice (neighbour-inside index (2 ^ upper_levels leaves) (omega arith))

    -- a tree's own path is accepted with its leaf's digest
    pub own_path-accepted : (way : Way) (leaf : Outcome Digest) (r : Digest) → own_path h index leaves ≡ way → leaf
        ≡ Ok (get_or leaves index []) → root h leaves ≡ Ok r → verdict h leaf way r ≡ Ok true
    own_path-accepted way leaf r own digest rooted = rw (← own, digest, own_path-top, rooted) (ap Ok (digest_eq-same r))

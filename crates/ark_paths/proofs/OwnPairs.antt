-- The pairs of a tree's own paths.
use Rattle.std.proofs.Common.{zero, suc, ◌≡◌, ℕ, ◌-◌, ◌/◌, ◌<◌, ◌≤◌, ◌^◌, Bool, true, false, List, [], length, take, drop, get_or, Ok, arith, refl, ap, sym, ◌∙◌}
use Rattle.ark_paths.specs.Bind.{couple, halves, pair_beside, path_pair}
use Rattle.ark_paths.specs.Index.{IsTreeSize, bit_at, neighbour, log2}
use Rattle.ark_paths.specs.Pair.{Digest, HashPair}
use Rattle.ark_paths.specs.Path.{Way, path_root}
use Rattle.ark_paths.specs.Root.{root, upper_levels}
use Rattle.ark_paths.specs.Rows.{IsTree, part, beside_in}
use Rattle.ark_paths.specs.Tree.{halves_beside, own_path}
use Rattle.ark_paths.proofs.Clients.{rooted-tree}
use Rattle.ark_paths.proofs.Logs.{log2-pow}
use Rattle.ark_paths.proofs.OwnPaths.{bit_at-level, couple-neighbour, drop-beside_in, halves-row, place-above, ordered-neighbour, length-beside_in, bottom-row, own_path-rows, climbed-own}
use Rattle.ark_paths.proofs.Parts.{part-pair}
use Rattle.ark_paths.proofs.PlaceLemmas.{place-inside}

-- ---- the height

pub log2-size : (digests : List Digest) → IsTreeSize (length digests) → log2 (length digests)
    ≡ suc (upper_levels digests)
log2-size digests size = let e : log2 (length digests) ≡ suc size.0 =
    ap log2 size.1 ∙ log2-pow (suc size.0) in omega arith

length-halves_beside : (h : HashPair) (m index : ℕ) (digests : List Digest) → length (halves_beside h m index digests)
    ≡ m
length-halves_beside h zero index digests = refl
length-halves_beside h (suc m) index digests = by_bit (bit_at index (suc m)) refl (length-halves_beside h m index
    (take (2 ^ suc m) digests)) (length-halves_beside h m index (drop (2 ^ suc m) digests))
  where
    by_bit : (b : Bool) → bit_at index (suc m) ≡ b → length (halves_beside h m index (take (2 ^ suc m) digests)) ≡ m
        → length (halves_beside h m index (drop (2 ^ suc m) digests)) ≡ m
        → length (halves_beside h (suc m) index digests)
        ≡ suc m
    by_bit true is left right = rw is (ap suc right)
    by_bit false is left right = rw is (ap suc left)

-- a tree's own path has the tree's height
pub length-own_path : (h : HashPair) (index : ℕ) (digests : List Digest) → length (own_path h index digests).above
    ≡ upper_levels digests
length-own_path h index digests = length-halves_beside h (upper_levels digests) index digests

-- ---- the pairs

module _ (h : HashPair) (leaves : List Digest) (rows : List (List Digest)) (tree : IsTree h leaves rows) (index : ℕ)
    (inside : index < length leaves) where
  abbrev own : Way
  own = record {
    sibling = get_or leaves (neighbour index) [];
    above = beside_in rows (upper_levels leaves) index;
    index = index;
  }

  -- the pair of the leaf digests
  pair-lowest : couple (bit_at index 0) (get_or leaves index []) (get_or leaves (neighbour index) [])
      ≡ halves h 0 (part 0 (index / 2 ^ 1) leaves)
  pair-lowest =
      let half : index / 2 ^ 1 ≡ index / 2 = omega arith in
      couple-neighbour leaves index ∙ rw half (sym (part-pair (index / 2) leaves))

  -- what the path makes of the digests below a row
  below-row : (k : ℕ) → k < length rows → path_root h (record {
    sibling = get_or leaves (neighbour index) [];
    above = beside_in rows k index;
    index = index;
  }) (get_or leaves index []) ≡ Ok (get_or (get_or rows k []) (index / 2 ^ suc k) [])
  below-row k under =
      let half : index / 2 ^ 1 ≡ index / 2 = omega arith in
      let here : index / 2 ^ 1 < length (get_or rows 0 []) =
      place-inside rows (length leaves) tree.levels 0 index (omega (arith, tree.count)) inside in
      let lowest = bottom-row h leaves rows tree (index / 2) (omega arith) in
      let up = climbed-own h leaves rows tree index inside k under (get_or (get_or rows 0 []) (index / 2) [])
      (rw half refl) in
      rw (ordered-neighbour h.bottom leaves index, lowest, up) refl

  -- the pair of a row's digests
  pair-row : (k : ℕ) → suc k ≤ upper_levels leaves
      → couple (bit_at index (suc k)) (get_or (get_or rows k []) (index / 2 ^ suc k) []) (get_or (get_or rows k [])
      (neighbour (index / 2 ^ suc k)) []) ≡ halves h (suc k) (part (suc k) (index / 2 ^ suc (suc k)) leaves)
  pair-row k under =
      let row = get_or rows k [] in
      let at = index / 2 ^ suc k in
      let within : suc k < length rows = omega (arith, tree.count) in
      ap (λ b. couple b (get_or row at []) (get_or row (neighbour at) [])) (sym (bit_at-level index (suc k)))
      ∙ couple-neighbour row at ∙ rw (← place-above index (suc k)) (sym (halves-row h leaves rows tree k
      (index / 2 ^ suc (suc k)) within (place-inside rows (length leaves) tree.levels (suc k) index within inside)))

  -- the pair below whose digest the digests beside the way below a row stand
  pair-at : (level : ℕ) → level ≤ upper_levels leaves → pair_beside h own (get_or leaves index [])
      (beside_in rows level index) ≡ Ok (halves h level (part level (index / 2 ^ suc level) leaves))
  pair-at zero under = ap Ok pair-lowest
  pair-at (suc k) under = rw (below-row k (omega (arith, tree.count)), length-beside_in rows k index)
      (ap Ok (pair-row k under))

  pair-own : (level : ℕ) → level ≤ upper_levels leaves → path_pair h (own_path h index leaves) (get_or leaves index [])
      (upper_levels leaves - level) ≡ Ok (halves h level (part level (index / 2 ^ suc level) leaves))
  pair-own level under =
      let m = upper_levels leaves in
      let back : m - (m - level) ≡ level = omega arith in
      let lower : drop (m - level) (beside_in rows m index) ≡ beside_in rows level index =
      drop-beside_in rows (m - level) m index (omega arith) ∙ ap (λ (k : ℕ). beside_in rows k index) back in
      ap (λ (way : Way). path_pair h way (get_or leaves index []) (m - level)) (own_path-rows h leaves rows tree index
      inside (beside_in rows m index) refl)
      ∙ ap (pair_beside h own (get_or leaves index [])) lower ∙ pair-at level under

-- Each pair of a tree's own path is that of the halves of the part of the leaf digests which holds the index.
pub own_path-pairs : (h : HashPair) (digests : List Digest) (r : Digest) → IsTreeSize (length digests) → root h digests
    ≡ Ok r → (index : ℕ) → index < length digests → (level : ℕ) → level ≤ length (own_path h index digests).above
    → path_pair h (own_path h index digests) (get_or digests index []) (length (own_path h index digests).above - level)
    ≡ Ok (halves h level (part level (index / 2 ^ suc level) digests))
own_path-pairs h digests r size rooted index inside level under =
    let tree = rooted-tree h digests r size rooted in
    let long = length-own_path h index digests in
    ap (λ (n : ℕ). path_pair h (own_path h index digests) (get_or digests index []) (n - level)) long
    ∙ pair-own h digests tree.0 tree.1 index inside level (omega (arith, long, under))

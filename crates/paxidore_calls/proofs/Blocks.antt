-- The root of a tree is that of the tree above the roots of its blocks.
use Rattle.std.proofs.Common.{◌≡◌, ◌≢◌, ◌⊎◌, inl, inr, ℕ, zero, suc, ◌+◌, ◌-◌, ◌*◌, ◌/◌, ◌<◌, ◌≤◌, ◌^◌, List, [], length, take, drop, map, get_or, set, Option, None, Some, IfSome, Ok, eqb, leb, true, false, refl, sym, ap, ◌∙◌, arith}
use Rattle.std.proofs.Math.Nat.{pow-le-pow_right, pow-succ'}
use Rattle.std.proofs.lemmas.List.{drop-drop, drop-map, get_or-set_other, get_or-set_same, length-drop, length-map, length-take-le, take-map, take_all}
use Rattle.std.proofs.lemmas.Bool.Decides.{eqb_tells, leb_tells}
use Rattle.std.proofs.lemmas.Nat.{pow-add}
use Rattle.std.proofs.lemmas.Option.{IfSome_then}
use Rattle.ark_base.specs.Laws.Steps.{done_injective}
use Rattle.ark_paths.proofs.Logs.{upper_levels-is}
use Rattle.ark_paths.proofs.Parts.{get_or-part, part-left, part-right, part-whole}
use Rattle.ark_paths.specs.Index.{IsTreeSize, is_tree_size}
use Rattle.ark_paths.specs.Pair.{Digest}
use Rattle.ark_paths.specs.Root.{Place, Root, outcome_of, place, place_of_halves, root}
use Rattle.ark_paths.specs.Rows.{part}
use Rattle.ark_paths.specs.Tree.{root_in}
use Rattle.kept_tree.specs.KeptTree.{PlainNode, alike}
use Rattle.paxidore_calls.specs.Blocks.{AreBlockRoots, block_of}
use Rattle.paxidore_calls.specs.Cut.{parts_by}
use Rattle.paxidore_calls.specs.Answer.{tree_leaves_in}
use Rattle.paxidore_calls.specs.Hashing.{hashing_by, tree_over}
use Rattle.std.specs.Option.{is_some}
use Rattle.paxidore_calls.proofs.Parts.{parts-count}
use Rattle.paxidore_calls.proofs.TreeLemmas.{place-node}

module _ (node : PlainNode) where
  -- nothing is refused
  rooted : (m : ℕ) (digests : List Digest) → (d : Digest) × (place (alike node) m digests ≡ Root d)
  rooted = place-node (hashing_by (λ leaf. leaf) node)

  -- so a level names no refusal
  level-free : (l j : ℕ) (a b : Place) (x y : Digest) → a ≡ Root x → b ≡ Root y
      → place_of_halves (alike node) l a b ≡ place_of_halves (alike node) j a b
  level-free l j a b x y left right = rw (left, right) refl

  module _ (k : ℕ) (digests roots : List Digest) (are : (r : ℕ) → r < length roots
      → place (alike node) k (part k r digests) ≡ Root (get_or roots r [])) where
    -- a part of the digests, and that of the roots of the parts below
    by-parts : (m l q : ℕ) → l ≡ m + suc k → (q + 1) * 2 ^ suc m ≤ length roots
        → place (alike node) l (part l q digests) ≡ place (alike node) m (part m q roots)
    by-parts zero l q level fits =
        let lowest : l ≡ suc k = omega arith in
        let two : (q + 1) * 2 ^ 1 ≡ 2 * q + 2 = omega arith in
        let even : 2 * q + 0 ≡ 2 * q = omega arith in
        rw lowest (rw (
          part-left k q digests,
          part-right k q digests,
          are (2 * q) (omega (arith, fits, two)),
          are (2 * q + 1) (omega (arith, fits, two)),
          get_or-part q 0 roots (omega arith),
          get_or-part q 1 roots (omega arith),
          even,
        ) refl)
    by-parts (suc m) l q level fits =
        let p = 2 ^ suc m in
        let above : l ≡ suc (m + suc k) = omega arith in
        let twice : 2 ^ suc (suc m) ≡ 2 * p = pow-succ' 2 (suc m) in
        let whole : (q + 1) * 2 ^ suc (suc m) ≡ (2 * q + 1) * p + p = rw twice (grind arith) in
        let last : (2 * q + 1 + 1) * p ≡ (2 * q + 1) * p + p = grind arith in
        let left = by-parts m (m + suc k) (2 * q) refl (omega (arith, fits, whole)) in
        let right = by-parts m (m + suc k) (2 * q + 1) refl (omega (arith, fits, whole, last)) in
        let a = rooted m (part m (2 * q) roots) in
        let b = rooted m (part m (2 * q + 1) roots) in
        rw above (rw (
          part-left (m + suc k) q digests,
          part-right (m + suc k) q digests,
          left,
          right,
          part-left m q roots,
          part-right m q roots,
        ) (level-free (suc (m + suc k)) (suc m) _ _ a.0 b.0 a.1 b.1))

  -- a block is a part of 2 ^ 10 leaf digests
  block-part : (r : ℕ) (digests : List Digest) → block_of r digests ≡ part 9 r digests
  block-part r digests = let at : 1024 * r ≡ r * 1024 = omega arith in
      ap (λ (n : ℕ). take 1024 (drop n digests)) at

  -- the root of a list whose length is known
  place-of-root : (m : ℕ) (digests : List Digest) (d : Digest) → length digests ≡ 2 ^ suc m
      → root (alike node) digests ≡ Ok d → place (alike node) m digests ≡ Root d
  place-of-root m digests d long is =
      let top = rooted m digests in
      let found : outcome_of (place (alike node) m digests) ≡ Ok d =
      ap (λ (n : ℕ). outcome_of (place (alike node) n digests)) (sym (upper_levels-is m digests long)) ∙ is in
      let same : top.0 ≡ d = done_injective top.0 d (sym (ap outcome_of top.1) ∙ found) in
      top.1 ∙ ap Root same

  module _ (digests roots : List Digest) (m : ℕ) (count : length roots ≡ 2 ^ suc m)
      (long : length digests ≡ 1024 * length roots) (are : AreBlockRoots node digests roots) where
    long-block : (r : ℕ) → r < length roots → length (block_of r digests) ≡ 1024
    long-block r below = length-take-le 1024 (drop (1024 * r) digests)
        (omega (arith, below, long, length-drop (1024 * r) digests))

    placed-blocks : (r : ℕ) → r < length roots → place (alike node) 9 (part 9 r digests) ≡ Root (get_or roots r [])
    placed-blocks r below =
        let is : block_of r digests ≡ part 9 r digests = block-part r digests in
        ap (place (alike node) 9) (sym is)
        ∙ place-of-root 9 (block_of r digests) (get_or roots r []) (long-block r below) (are r below)

    pub root-by-blocks : root (alike node) digests ≡ root (alike node) roots
    root-by-blocks =
        let one : (0 + 1) * 2 ^ suc m ≤ length roots = omega (arith, count) in
        let up : suc m + 10 ≡ suc (m + 10) = omega arith in
        let ten : 2 ^ suc (m + 10) ≡ 2 ^ suc m * 1024 = ap (λ (n : ℕ). 2 ^ n) (sym up) ∙ pow-add 2 (suc m) 10 in
        let size : length digests ≡ 2 ^ suc (m + 10) = omega (arith, long, count, ten) in
        let top = by-parts 9 digests roots placed-blocks m (m + 10) 0 refl one in
        let all = part-whole (m + 10) digests size in
        let each = part-whole m roots count in
        let above : place (alike node) (m + 10) digests ≡ place (alike node) m roots =
        ap (place (alike node) (m + 10)) (sym all) ∙ top ∙ ap (place (alike node) m) each in
        ap (λ (n : ℕ). outcome_of (place (alike node) n digests)) (upper_levels-is (m + 10) digests size)
        ∙ ap outcome_of above
        ∙ ap (λ (n : ℕ). outcome_of (place (alike node) n roots)) (sym (upper_levels-is m roots count))

-- ---- the blocks of leaves that are cut off in turn

module _ (node : PlainNode) (made : List ℕ → Digest) (lengths : List ℕ) (xs : List (List ℕ)) where
  -- Of the blocks before one the roots are there; the rest has the others.
  pub record AreBefore (number : ℕ) (roots : List Digest) (rest : List ℕ) : Type 0 where
    pub before : (q : ℕ) → q < number → root (alike node) (block_of q (map made xs)) ≡ Ok (get_or roots q [])
    pub others : parts_by rest (drop (1024 * number) lengths) ≡ Some (drop (1024 * number) xs)

  pub before-more : (number : ℕ) (roots : List Digest) (rest behind : List ℕ) (d : Digest)
      → AreBefore number roots rest → number < length roots
      → IfSome (parts_by rest (drop (1024 * number) lengths))
      (λ ys. root (alike node) (map made (take 1024 ys)) ≡ Ok d)
      → IfSome (parts_by rest (drop (1024 * number) lengths))
      (λ ys. parts_by behind (drop (1024 * number + 1024) lengths) ≡ Some (drop 1024 ys))
      → AreBefore (number + 1) (set roots number d) behind
  before-more number roots rest behind d so below rooted left =
      let at = 1024 * number in
      let next : root (alike node) (map made (take 1024 (drop at xs))) ≡ Ok d = rw so.others at rooted in
      let more : parts_by behind (drop (at + 1024) lengths) ≡ Some (drop 1024 (drop at xs)) =
      rw so.others at left in
      let up : 1024 * (number + 1) ≡ at + 1024 = omega arith in
      let block : block_of number (map made xs) ≡ map made (take 1024 (drop at xs)) =
      ap (take 1024) (drop-map made at xs) ∙ take-map made 1024 (drop at xs) in
      record {
        before = λ q before. by_place q before (ap (root (alike node)) block ∙ next) (eqb_tells q number);
        others = rw up (more ∙ ap Some (drop-drop 1024 at xs));
      }
    where
      by_place : (q : ℕ) → q < number + 1 → root (alike node) (block_of number (map made xs)) ≡ Ok d
          → ((eqb q number ≡ true) × (q ≡ number)) ⊎ ((eqb q number ≡ false) × (q ≢ number))
          → root (alike node) (block_of q (map made xs)) ≡ Ok (get_or (set roots number d) q [])
      by_place q before own (inl (test, same)) = rw (same, get_or-set_same roots number d [] below) own
      by_place q before own (inr (test, other)) = rw (get_or-set_other roots number q d [] other)
          (so.before q (omega arith))

-- more leaves than one block has are two blocks, or a larger power of two
pub blocks-count : (n : ℕ) → IsTreeSize n → 1024 < n
    → (m : ℕ) × ((n / 1024 ≡ 2 ^ suc m) × (n ≡ 1024 * (n / 1024)))
blocks-count n (k, power) many = by_levels (leb_tells 10 k)
  where
    by_levels : ((leb 10 k ≡ true) × (10 ≤ k)) ⊎ ((leb 10 k ≡ false) × (k < 10))
        → (m : ℕ) × ((n / 1024 ≡ 2 ^ suc m) × (n ≡ 1024 * (n / 1024)))
    by_levels (inl (test, enough)) =
        let m = k - 10 in
        let up : 10 + suc m ≡ suc k = omega arith in
        let ten : 2 ^ suc k ≡ 1024 * 2 ^ suc m = ap (λ (n : ℕ). 2 ^ n) (sym up) ∙ pow-add 2 10 (suc m) in
        let count : n / 1024 ≡ 2 ^ suc m = omega (arith, power, ten) in
        (m, (count, omega (arith, power, ten, count)))
    by_levels (inr (test, few)) =
        let two : 0 < 2 = omega arith in
        let less : suc k ≤ 10 = omega arith in
        let low : 2 ^ suc k ≤ 2 ^ 10 = pow-le-pow_right two less in
        absurd (omega (arith, power, low, many))

module _ (node : PlainNode) (made : List ℕ → Digest) (lengths : List ℕ) where
  -- the same of leaves that are perhaps not there
  abbrev pub AreGone : Option (List (List ℕ)) → ℕ → List Digest → List ℕ → Type 0
  AreGone cut number roots rest = IfSome cut (λ xs. AreBefore node made lengths xs number roots rest)

  pub gone-more : (cut : Option (List (List ℕ))) (number : ℕ) (roots : List Digest) (rest behind : List ℕ) (d : Digest)
      → AreGone cut number roots rest → number < length roots
      → IfSome (parts_by rest (drop (1024 * number) lengths))
      (λ ys. root (alike node) (map made (take 1024 ys)) ≡ Ok d)
      → IfSome (parts_by rest (drop (1024 * number) lengths))
      (λ ys. parts_by behind (drop (1024 * number + 1024) lengths) ≡ Some (drop 1024 ys))
      → AreGone cut (number + 1) (set roots number d) behind
  gone-more cut number roots rest behind d so below rooted left =
      IfSome_then cut so (λ xs so. before-more node made lengths xs number roots rest behind d so below rooted left)

-- the root above leaves is that above the roots of their blocks
pub root-cut : (node : PlainNode) (made : List ℕ → Digest) (leaves lengths : List ℕ) (roots : List Digest) (d : Digest)
    → IsTreeSize (length lengths) → 1024 < length lengths → length roots ≡ length lengths / 1024
    → IfSome (parts_by leaves lengths) (λ xs. AreBlockRoots node (map made xs) roots) → root (alike node) roots ≡ Ok d
    → IfSome (parts_by leaves lengths) (λ xs. root (alike node) (map made xs) ≡ Ok d)
root-cut node made leaves lengths roots d size many count are top = by_cut (parts_by leaves lengths) refl are
  where
    by_cut : (cut : Option (List (List ℕ))) → parts_by leaves lengths ≡ cut
        → IfSome cut (λ xs. AreBlockRoots node (map made xs) roots)
        → IfSome cut (λ xs. root (alike node) (map made xs) ≡ Ok d)
    by_cut None is are = tt
    by_cut (Some xs) is are =
        let blocks = blocks-count (length lengths) size many in
        let long : length (map made xs) ≡ 1024 * length roots =
        length-map xs made ∙ parts-count leaves lengths xs is ∙ blocks.1.1 ∙ ap (λ (n : ℕ). 1024 * n) (sym count) in
        root-by-blocks node (map made xs) roots blocks.0 (count ∙ blocks.1.0) long are ∙ top

-- as many leaves as lengths are all of them
pub root-all : (node : PlainNode) (made : List ℕ → Digest) (leaves lengths : List ℕ) (d : Digest)
    → IfSome (parts_by leaves lengths) (λ xs. root (alike node) (map made (take (length lengths) xs)) ≡ Ok d)
    → IfSome (parts_by leaves lengths) (λ xs. root (alike node) (map made xs) ≡ Ok d)
root-all node made leaves lengths d rooted = by_cut (parts_by leaves lengths) refl rooted
  where
    by_cut : (cut : Option (List (List ℕ))) → parts_by leaves lengths ≡ cut
        → IfSome cut (λ xs. root (alike node) (map made (take (length lengths) xs)) ≡ Ok d)
        → IfSome cut (λ xs. root (alike node) (map made xs) ≡ Ok d)
    by_cut None is rooted = tt
    by_cut (Some xs) is rooted =
        let all : take (length lengths) xs ≡ xs =
        take_all (length lengths) xs (omega (arith, parts-count leaves lengths xs is)) in
        ap (λ (ys : List (List ℕ)). root (alike node) (map made ys)) (sym all) ∙ rooted

-- the root of a tree's leaves, as an outcome
pub root-over : (leaf : List ℕ → Digest) (node : PlainNode) (leaves lengths : List ℕ) (d : Digest)
    → is_tree_size (length lengths) ≡ true → is_some (parts_by leaves lengths) ≡ true
    → IfSome (parts_by leaves lengths) (λ xs. root (alike node) (map leaf xs) ≡ Ok d)
    → (xs : List (List ℕ)) × (tree_leaves_in leaves lengths ≡ Ok xs)
    × (root_in (tree_over (hashing_by leaf node) xs) ≡ Ok d)
root-over leaf node leaves lengths d sized some rooted = by_cut (parts_by leaves lengths) refl some rooted
  where
    by_cut : (cut : Option (List (List ℕ))) → parts_by leaves lengths ≡ cut → is_some cut ≡ true
        → IfSome cut (λ xs. root (alike node) (map leaf xs) ≡ Ok d)
        → (xs : List (List ℕ)) × (tree_leaves_in leaves lengths ≡ Ok xs)
        × (root_in (tree_over (hashing_by leaf node) xs) ≡ Ok d)
    by_cut None is never rooted = absurd cc
    by_cut (Some xs) is some rooted = (xs, rw (sized, is) refl, rooted)

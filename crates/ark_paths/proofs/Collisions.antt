-- Where the pairs of a path and of a tree agree, and where they collide.
use Rattle.std.proofs.Common.{zero, suc, ◌≡◌, ℕ, ◌+◌, ◌-◌, ◌/◌, ◌%◌, ◌<◌, ◌^◌, Bool, true, false, nat_lt, not, ◌&&◌, Some, None, List, [], length, get_or, Ok, Err, arith, refl, ap, sym, subst, ◌∙◌, inl, inr}
use Rattle.std.proofs.lemmas.Bool.{cases_lt, false≢true}
use Rattle.std.proofs.lemmas.Bool.Decides.{nat_tests}
use Rattle.std.proofs.lemmas.Slice.Eq.{bytes_eq-Decides}
use Rattle.std.proofs.Math.Nat.{div-eq_of_lt}
use Rattle.ark_base.specs.Outcome.{Outcome}
use Rattle.ark_base.specs.Laws.Steps.{bind_ok}
use Rattle.ark_paths.specs.Bind.{tree_pair, path_pair, hash_at, is_other, difference, Collides}
use Rattle.ark_paths.specs.Index.{bit_at}
use Rattle.ark_paths.specs.Pair.{Digest, HashPair, digest_eq}
use Rattle.ark_paths.specs.Path.{Way, path_root}
use Rattle.ark_paths.specs.Root.{root, upper_levels}
use Rattle.ark_paths.specs.Rows.{IsTree}
use Rattle.ark_paths.proofs.Binds.{first_level-none, first_level-some, IsFirst, top_from, top_from-up, top_from-last, path_pair-up, path_pair-is, path_pair-last, own-inside, tree-hash-last, tree-hash-row, differs, differs-last, differs-row}
use Rattle.ark_paths.proofs.OwnPaths.{digest_eq-same, hashed-couple, root-top}

pub digest_eq-true : (a b : Digest) → digest_eq a b ≡ true → a ≡ b
digest_eq-true a b = (bytes_eq-Decides a b).0

-- both of two tests
both_true : (a b : Bool) → not (a && b) ≡ false → (a ≡ true) × (b ≡ true)
both_true true true e = (refl, refl)
both_true true false e = absurd cc
both_true false b e = absurd cc

is_other-false : (o : Outcome (Digest × Digest)) (b : Digest × Digest) → is_other o b ≡ false → o ≡ Ok b
is_other-false (Ok (x, y)) (u, v) e =
    let both = both_true (digest_eq x u) (digest_eq y v) e in
    let left = digest_eq-true x u both.0 in
    let right = digest_eq-true y v both.1 in
    rw (left, right) refl
is_other-false (Err f) b e = absurd cc

is_other-same : (a b : Digest × Digest) → a ≡ b → is_other (Ok a) b ≡ false
is_other-same (x, y) b same = subst (λ (c : Digest × Digest). is_other (Ok (x, y)) c ≡ false) same
    (rw (digest_eq-same x, digest_eq-same y) refl)

module _ (h : HashPair) (leaves : List Digest) (rows : List (List Digest)) (tree : IsTree h leaves rows) (way : Way)
    (digest : Digest) (long : length way.above ≡ upper_levels leaves) where
  abbrev other : ℕ → Bool
  other = differs h leaves rows tree way digest long

  abbrev index : ℕ
  index = way.index % length leaves

  -- the tree's digest on the way, above row k
  abbrev own : ℕ → Digest
  own k = get_or (get_or rows k []) (index / 2 ^ suc k) []

  -- where all pairs agree, the leaf's digest stands at its place
  pub same-leaf : other (upper_levels leaves) ≡ false → digest ≡ get_or leaves index []
  same-leaf same =
      let both = both_true _ _ (sym (differs-last h leaves rows tree way digest long (upper_levels leaves) refl _ refl)
      ∙ same) in
      digest_eq-true digest (get_or leaves index []) both.0

  -- where the pairs above agree, the path gives the tree's digest
  top-own : (level k : ℕ) → level + k ≡ upper_levels leaves → ((l : ℕ) → l < level → other l ≡ false) → path_root h way
      digest ≡ root h leaves → top_from h way digest level ≡ Ok (own k)
  top-own zero k at before whole =
      let m = upper_levels leaves in
      let last : k ≡ m = omega arith in
      let inside : index < 2 ^ suc m = rw (← tree.size) (own-inside h leaves rows tree way.index) in
      let first : index / 2 ^ suc m ≡ 0 = div-eq_of_lt inside in
      rw (last, first) (whole ∙ root-top h leaves rows tree)
  top-own (suc l) k at before whole =
      let agree : path_pair h way digest l ≡ Ok (tree_pair h leaves way.index l) =
      is_other-false _ _ (before l (omega arith)) in
      let under : l < length way.above = omega (arith, long, at) in
      let step = bind_ok (top_from h way digest (suc l)) _ _ (sym (path_pair-up h way digest l under) ∙ agree) in
      let below = step.0 in
      let both = both_true _ _ (sym (differs-row h leaves rows tree way digest long l k (omega (arith, at)) below step.1
      _ refl) ∙ before l (omega arith)) in
      step.1 ∙ ap Ok (digest_eq-true below (own k) both.0)

  pub collides : (level : ℕ) → IsFirst other 0 (suc (upper_levels leaves)) level → path_root h way digest
      ≡ root h leaves → Collides h leaves way digest level
  collides level first whole =
      let m = upper_levels leaves in
      let before : (l : ℕ) → l < level → other l ≡ false = λ l under. first.before l (omega arith) under in
      elim (cases_lt level m) [
        | inl lt ↦
            let k = m - suc level in
            let at : level + suc k ≡ m = omega arith in
            let under : level < length way.above = omega (arith, long) in
            let step = bind_ok (top_from h way digest (suc level)) _ _ (sym (top_from-up h way digest level under)
            ∙ top-own level (suc k) at before whole) in
            let upper : nat_lt level m ≡ true = grind (arith, nat_tests) in
            colliding _ (own (suc k)) (path_pair-is h way digest level under step.0 step.1)
            (rw (upper) (hashed-couple h.upper (bit_at way.index (length way.above - level)) step.0
            (get_or way.above level []) ∙ step.2)) (tree-hash-row h leaves rows tree way.index level k at)
        | inr ge ↦
            let last : level ≡ m = omega (arith, first.high) in
            let bottom : nat_lt level m ≡ false = grind (arith, nat_tests) in
            colliding _ (own 0) (path_pair-last h way digest level (omega (arith, long, last)))
            (rw (bottom) (hashed-couple h.bottom (bit_at way.index 0) digest way.sibling
            ∙ sym (top_from-last h way digest level (omega (arith, long, last)))
            ∙ top-own level 0 (omega (arith, last)) before whole))
            (tree-hash-last h leaves rows tree way.index level last)
      ]
    where
      colliding : (given : Digest × Digest) (common : Digest) → path_pair h way digest level ≡ Ok given
          → hash_at h (upper_levels leaves) level given ≡ Ok common
          → hash_at h (upper_levels leaves) level (tree_pair h leaves way.index level) ≡ Ok common
          → Collides h leaves way digest level
      colliding given common is hashed tree_hashed = record {
        in_range = omega (arith, first.high);
        given = given;
        given_is = is;
        differ = λ same. false≢true (sym (is_other-same given (tree_pair h leaves way.index level) same)
            ∙ ap (λ o. is_other o (tree_pair h leaves way.index level)) (sym is) ∙ first.holds);
        common = common;
        given_hash = hashed;
        tree_hash = tree_hashed;
        agree_above = λ l under. is_other-false _ _ (first.before l (omega arith) under);
      }

  -- where no level differs, the leaf's digest stands at its place
  pub agreed-leaf : difference h leaves way digest ≡ None → digest ≡ get_or leaves index []
  agreed-leaf none = same-leaf (first_level-none other 0 (suc (upper_levels leaves)) none (upper_levels leaves)
      (omega arith) (omega arith))

  -- the first level that differs has pairs that collide, where the path gives the root
  pub differing-collides : (level : ℕ) → difference h leaves way digest ≡ Some level → path_root h way digest
      ≡ root h leaves → Collides h leaves way digest level
  differing-collides level found = collides level (first_level-some other 0 (suc (upper_levels leaves)) level found)

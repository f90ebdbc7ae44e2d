-- Two paths of one index and one length that give one root for two leaf digests: where their pairs collide.
use Rattle.std.proofs.Common.{zero, suc, ◌≡◌, ℕ, ◌+◌, ◌-◌, ◌<◌, ◌≤◌, ◌⊎◌, inl, inr, Bool, true, false, [], length, get_or, Ok, arith, refl, ap, ap₂, sym, ◌∙◌}
use Rattle.std.proofs.lemmas.Bool.{false≢true}
use Rattle.ark_base.specs.Outcome.{Outcome}
use Rattle.ark_base.specs.Laws.Steps.{bind_ok}
use Rattle.ark_paths.specs.Bind.{couple, path_pair}
use Rattle.ark_paths.specs.Index.{bit_at}
use Rattle.ark_paths.specs.Pair.{Digest, HashPair, digest_eq, hash_in_order}
use Rattle.ark_paths.specs.Path.{Way}
use Rattle.ark_paths.proofs.Binds.{top_from, top_from-up, top_from-last, path_pair-is, path_pair-last}
use Rattle.ark_paths.proofs.Collisions.{digest_eq-true}
use Rattle.ark_paths.proofs.OwnPaths.{hashed-couple, digest_eq-same}

-- the pair of both hashes that are one
abbrev pub alike : (Digest → Digest → Outcome Digest) → HashPair
alike hash = record { bottom = hash; upper = hash }

-- two pairs that differ and have one hash
pub record PairsMeet (hash : Digest → Digest → Outcome Digest) (left right : Digest × Digest) : Type 0 where
  pub differ : left ≡ right → ⊥
  pub common : Digest
  pub left_hash : hash left.0 left.1 ≡ Ok common
  pub right_hash : hash right.0 right.1 ≡ Ok common

-- the numbers of a digest
abbrev pub IsNumbered : {D : Type 0} → (D → Digest) → Digest → Type 0
IsNumbered {D} numbers n = (x : D) × (numbers x ≡ n)

-- both digests of a pair stand in a set
pub record AreOf (Is : Digest → Type 0) (pair : Digest × Digest) : Type 0 where
  pub left : Is pair.0
  pub right : Is pair.1

-- The digests of a path, and of a leaf, stand in a set.
pub record IsWayOf (Is : Digest → Type 0) (way : Way) (digest : Digest) : Type 0 where
  pub leaf : Is digest
  pub sibling : Is way.sibling
  pub above : (i : ℕ) → i < length way.above → Is (get_or way.above i [])

pub couple-of : (Is : Digest → Type 0) (b : Bool) (x y : Digest) → Is x → Is y → AreOf Is (couple b x y)
couple-of Is true x y is_x is_y = record { left = is_y; right = is_x }
couple-of Is false x y is_x is_y = record { left = is_x; right = is_y }

-- the first of two digests is known by their couple
pub couple-first : (b c : Bool) (x y u v : Digest) → b ≡ c → couple b x y ≡ couple c u v → x ≡ u
couple-first true true x y u v same e = ap (λ (p : Digest × Digest). p.1) e
couple-first true false x y u v same e = absurd cc
couple-first false true x y u v same e = absurd cc
couple-first false false x y u v same e = ap (λ (p : Digest × Digest). p.0) e

-- whether two digests are the same
pub same_or_other : (x y : Digest) → (x ≡ y → ⊥) ⊎ (x ≡ y)
same_or_other x y = by_test (digest_eq x y) refl
  where
    by_test : (t : Bool) → digest_eq x y ≡ t → (x ≡ y → ⊥) ⊎ (x ≡ y)
    by_test true is = inr (digest_eq-true x y is)
    by_test false is = inl (λ same. false≢true (sym is ∙ ap (λ d. digest_eq x d) (sym same) ∙ digest_eq-same x))

-- Pairs of two paths at a level, counted from the root, differ and have one hash.
pub record Meet (hash : Digest → Digest → Outcome Digest) (Is : Digest → Type 0) (a b : Way) (x y : Digest)
    (level : ℕ) : Type 0 where
  pub in_range : level ≤ length a.above
  pub left : Digest × Digest
  pub left_is : path_pair (alike hash) a x level ≡ Ok left
  pub left_of : AreOf Is left
  pub right : Digest × Digest
  pub right_is : path_pair (alike hash) b y level ≡ Ok right
  pub right_of : AreOf Is right
  pub meet : PairsMeet hash left right

module _ (hash : Digest → Digest → Outcome Digest) (Is : Digest → Type 0)
    (made : (x y d : Digest) → hash x y ≡ Ok d → Is d) (a b : Way) (x y : Digest) (index : a.index ≡ b.index)
    (height : length a.above ≡ length b.above) where
  -- what is made in any order is in the set
  made-in_order : (t : Bool) (u v d : Digest) → hash_in_order hash t u v ≡ Ok d → Is d
  made-in_order true u v d e = made v u d e
  made-in_order false u v d e = made u v d e

  -- each digest that a path gives on the way is in the set
  top-of : (way : Way) (leaf : Digest) (k level : ℕ) → level + k ≡ length way.above → (d : Digest)
      → top_from (alike hash) way leaf level ≡ Ok d → Is d
  top-of way leaf zero level at d is =
      made-in_order (bit_at way.index 0) leaf way.sibling d
      (sym (top_from-last (alike hash) way leaf level (omega (arith, at))) ∙ is)
  top-of way leaf (suc k) level at d is =
      let step = bind_ok (top_from (alike hash) way leaf (suc level)) _ _
      (sym (top_from-up (alike hash) way leaf level (omega (arith, at))) ∙ is) in
      made-in_order (bit_at way.index (length way.above - level)) step.0 (get_or way.above level []) d step.2

  module _ (of_a : IsWayOf Is a x) (of_b : IsWayOf Is b y) (differ : x ≡ y → ⊥) where
    abbrev h : HashPair
    h = alike hash

    -- from a level down
    pub meets : (top : Digest) (k level : ℕ) → level + k ≡ length a.above → top_from h a x level ≡ Ok top
        → top_from h b y level ≡ Ok top → (l : ℕ) × Meet hash Is a b x y l
    meets top zero level at is_a is_b =
        let last_b : level ≡ length b.above = omega (arith, at, height) in (
          level,
          record {
            in_range = omega (arith, at);
            left = couple (bit_at a.index 0) x a.sibling;
            left_is = path_pair-last h a x level (omega (arith, at));
            left_of = couple-of Is (bit_at a.index 0) x a.sibling of_a.leaf of_a.sibling;
            right = couple (bit_at b.index 0) y b.sibling;
            right_is = path_pair-last h b y level last_b;
            right_of = couple-of Is (bit_at b.index 0) y b.sibling of_b.leaf of_b.sibling;
            meet = record {
              differ = λ same. differ (couple-first (bit_at a.index 0) (bit_at b.index 0) x a.sibling y b.sibling
                  (ap (λ n. bit_at n 0) index) same);
              common = top;
              left_hash = hashed-couple hash (bit_at a.index 0) x a.sibling
                  ∙ sym (top_from-last h a x level (omega (arith, at))) ∙ is_a;
              right_hash = hashed-couple hash (bit_at b.index 0) y b.sibling
                  ∙ sym (top_from-last h b y level last_b) ∙ is_b;
            };
          },
        )
    meets top (suc k) level at is_a is_b =
        let under_a : level < length a.above = omega (arith, at) in
        let under_b : level < length b.above = omega (arith, at, height) in
        let at_b : suc level + k ≡ length b.above = omega (arith, at, height) in
        let bit_a = bit_at a.index (length a.above - level) in
        let bit_b = bit_at b.index (length b.above - level) in
        let bits : bit_a ≡ bit_b = ap₂ (λ n m. bit_at n (m - level)) index height in
        let from_a = bind_ok (top_from h a x (suc level)) _ _ (sym (top_from-up h a x level under_a) ∙ is_a) in
        let from_b = bind_ok (top_from h b y (suc level)) _ _ (sym (top_from-up h b y level under_b) ∙ is_b) in
        let beside_a = get_or a.above level [] in
        let beside_b = get_or b.above level [] in
        elim (same_or_other from_a.0 from_b.0) [
          | inl other ↦ (
            level,
            record {
              in_range = omega (arith, at);
              left = couple bit_a from_a.0 beside_a;
              left_is = path_pair-is h a x level under_a from_a.0 from_a.1;
              left_of = couple-of Is bit_a from_a.0 beside_a (top-of a x k (suc level) (omega (arith, at)) from_a.0
                  from_a.1) (of_a.above level under_a);
              right = couple bit_b from_b.0 beside_b;
              right_is = path_pair-is h b y level under_b from_b.0 from_b.1;
              right_of = couple-of Is bit_b from_b.0 beside_b (top-of b y k (suc level) at_b from_b.0 from_b.1)
                  (of_b.above level under_b);
              meet = record {
                differ = λ same. other (couple-first bit_a bit_b from_a.0 beside_a from_b.0 beside_b bits same);
                common = top;
                left_hash = hashed-couple hash bit_a from_a.0 beside_a ∙ from_a.2;
                right_hash = hashed-couple hash bit_b from_b.0 beside_b ∙ from_b.2;
              };
            },
          )
          | inr same ↦ meets from_a.0 k (suc level) (omega (arith, at)) from_a.1 (from_b.1 ∙ ap Ok (sym same))
        ]

-- A conflict gives what two leaves of one digest give, or two pairs that differ and have one hash.
use Rattle.std.proofs.Common.{◌≡◌, ℕ, zero, suc, ◌<◌, inl, inr, true, List, [], ◌∷◌, length, map, get_or, Ok, arith, refl, ap, sym, ◌∙◌}
use Rattle.std.proofs.lemmas.List.{length-map}
use Rattle.ark_base.specs.Reading.{IsBytes}
use Rattle.ark_base.specs.Laws.Steps.{bind_ok, done_injective}
use Rattle.ark_crypto_primitives.specs.Conflicts.{TreeHashes, ShownLeaf, IsShownUnder, PairsGive, ConflictsGive, one_hash, shown_way}
use Rattle.ark_paths.specs.Pair.{Digest}
use Rattle.ark_paths.specs.Path.{path_root}
use Rattle.ark_paths.proofs.Collisions.{digest_eq-true}
use Rattle.ark_crypto_primitives.proofs.PathPairs.{AreOf, IsNumbered, IsWayOf, PairsMeet, Meet, same_or_other, meets}

-- what hashes of a tree owe: which digests they make, and what two leaves, or two pairs, of one digest give
pub record GiveAt {D : Type 0} (tree : TreeHashes D) (LeavesGive : List ℕ → List ℕ → Type 0)
    (Gives : Digest × Digest → Digest × Digest → Type 0) : Type 0 where
  pub hashed : (leaf : List ℕ) (d : Digest) → tree.leaf leaf ≡ Ok d → IsNumbered tree.numbers d
  pub made : (left right d : Digest) → tree.pair left right ≡ Ok d → IsNumbered tree.numbers d
  pub leaves : (a b : List ℕ) (d : Digest) → IsBytes a × IsBytes b → length a ≡ length b → (a ≡ b → ⊥)
      → tree.leaf a ≡ Ok d → tree.leaf b ≡ Ok d → LeavesGive a b
  pub pairs : (left right : Digest × Digest) → AreOf (IsNumbered tree.numbers) left
      → AreOf (IsNumbered tree.numbers) right → PairsMeet tree.pair left right → Gives left right

module _ {D : Type 0} (tree : TreeHashes D) (LeavesGive : List ℕ → List ℕ → Type 0)
    (Gives : Digest × Digest → Digest × Digest → Type 0) (at : GiveAt tree LeavesGive Gives) where
  above-numbered : (ds : List D) (i : ℕ) → i < length (map tree.numbers ds)
      → IsNumbered tree.numbers (get_or (map tree.numbers ds) i [])
  above-numbered [] i under = absurd (omega (arith, under))
  above-numbered (d ∷ ds) zero under = (d, refl)
  above-numbered (d ∷ ds) (suc i) under = above-numbered ds i (omega (arith, under))

  way-numbered : (a : ShownLeaf D) (d : Digest) → tree.leaf a.leaf ≡ Ok d
      → IsWayOf (IsNumbered tree.numbers) (shown_way tree a) d
  way-numbered a d is = record {
    leaf = at.hashed a.leaf d is;
    sibling = (a.sibling, refl);
    above = above-numbered a.above;
  }

  -- the digest of an opened leaf, of which its path gives the root
  opened : (root : Digest) (a : ShownLeaf D) → IsShownUnder tree root a
      → (d : Digest) × (tree.leaf a.leaf ≡ Ok d) × (path_root (one_hash tree) (shown_way tree a) d ≡ Ok root)
  opened root a is =
      let leaf = bind_ok (tree.leaf a.leaf) _ true is in
      let top = bind_ok (path_root (one_hash tree) (shown_way tree a) leaf.0) _ true leaf.2 in
      (leaf.0, leaf.1, top.1 ∙ ap Ok (digest_eq-true top.0 root (done_injective _ _ top.2)))

  pub conflicts_give : ConflictsGive tree LeavesGive Gives
  conflicts_give root a b conflict is_a is_b =
      let of_a = opened root a is_a in
      let of_b = opened root b is_b in
      let height : length (map tree.numbers a.above) ≡ length (map tree.numbers b.above) =
      length-map a.above tree.numbers ∙ conflict.height ∙ sym (length-map b.above tree.numbers) in
      elim (same_or_other of_a.0 of_b.0) [
        | inr same ↦ inl (at.leaves a.leaf b.leaf of_a.0 conflict.bytes conflict.as_long conflict.differ of_a.1
            (of_b.1 ∙ ap Ok (sym same)))
        | inl other ↦
            let found = meets tree.pair (IsNumbered tree.numbers) at.made (shown_way tree a) (shown_way tree b)
            of_a.0 of_b.0 conflict.index height (way-numbered a of_a.0 of_a.1) (way-numbered b of_b.0 of_b.1) other root
            (length (map tree.numbers a.above)) 0 (omega arith) of_a.2 of_b.2 in
            inr (found.0, given_at found.0 found.1 of_a.1 of_b.1)
      ]
    where
      given_at : (level : ℕ) → {x y : Digest}
          → Meet tree.pair (IsNumbered tree.numbers) (shown_way tree a) (shown_way tree b) x y level
          → tree.leaf a.leaf ≡ Ok x → tree.leaf b.leaf ≡ Ok y → PairsGive tree Gives a b level
      given_at level meet leaf_a leaf_b = record {
        in_range = omega (arith, meet.in_range, length-map a.above tree.numbers);
        left = meet.left;
        left_is = rw leaf_a meet.left_is;
        right = meet.right;
        right_is = rw leaf_b meet.right_is;
        given = at.pairs meet.left meet.right meet.left_of meet.right_of meet.meet;
      }

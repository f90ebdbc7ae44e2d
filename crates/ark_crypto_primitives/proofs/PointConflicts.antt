-- Conflicts in trees over Pedersen hashes whose digests are elements.
use Rattle.std.proofs.Common.{◌≡◌, ℕ, List, Ok, ap, sym, ◌∙◌}
use Rattle.ark_groups.specs.Group.{Group}
use Rattle.ark_pedersen.specs.declared.window.Window.{Ghosts as Windows}
use Rattle.ark_crypto_primitives.specs.TreeRelations.{DigestView, HaveWidth, PointConflictsGiveRelations}
use Rattle.ark_crypto_primitives.proofs.ConflictLemmas.{conflicts_give}
use Rattle.ark_crypto_primitives.proofs.DigestBytes.{AreSpelled}
use Rattle.ark_crypto_primitives.proofs.PedersenConflicts.{IsOrder, inputs_give, couples_give}
use Rattle.ark_crypto_primitives.proofs.SegmentConflicts.{seen_by-ok}

-- The canonical bytes of an element tell it, and its numbers give them.
pub record TellElements {G : Type 0} (view : DigestView G) (spelled : G → List ℕ) : Type 0 where
  pub are : (x : G) → view.bytes_of (view.numbers x) ≡ spelled x
  pub alone : (x y : G) → spelled x ≡ spelled y → x ≡ y

module _ {G W V : Type 0} {g : Group G} (r : ℕ) (order : IsOrder g r) (leaf_windows : Windows W)
    (pair_windows : Windows V) (view : DigestView G) (spelled : G → List ℕ) (tells : TellElements view spelled)
    (width : ℕ) (have : HaveWidth view width) where
  -- the bytes of numbers tell the element
  element-alone : (x y : G) → view.bytes_of (view.numbers x) ≡ view.bytes_of (view.numbers y) → x ≡ y
  element-alone x y same = tells.alone x y (sym (tells.are x) ∙ same ∙ tells.are y)

  are_spelled : AreSpelled view
  are_spelled = record {
    width = width;
    long = have.long;
    bytes = have.bytes;
    alone = λ x y same. ap view.numbers (element-alone x y same);
  }

  pub points_give : PointConflictsGiveRelations g r leaf_windows pair_windows view
  points_give leaf_lists pair_lists leaf pair root a b leaf_binding pair_binding conflict is_a is_b =
      conflicts_give _ _ _ (record {
        hashed = λ t d is. let found = seen_by-ok view.numbers _ d is in (found.0, found.2);
        made = λ left right d is. let found = seen_by-ok view.numbers _ d is in (found.0, found.2);
        leaves = λ a b d bytes long differ is_a is_b.
            let of_a = seen_by-ok view.numbers _ d is_a in
            let of_b = seen_by-ok view.numbers _ d is_b in
            let same = element-alone of_b.0 of_a.0 (ap view.bytes_of (of_b.2 ∙ sym of_a.2)) in
            inputs_give order leaf_windows leaf leaf_lists leaf_binding a b of_a.0 bytes long differ of_a.1
            (of_b.1 ∙ ap Ok same);
        pairs = λ left right of_left of_right meet.
            let of_a = seen_by-ok view.numbers _ meet.common meet.left_hash in
            let of_b = seen_by-ok view.numbers _ meet.common meet.right_hash in
            let same = element-alone of_b.0 of_a.0 (ap view.bytes_of (of_b.2 ∙ sym of_a.2)) in
            couples_give order pair_windows pair pair_lists pair_binding view are_spelled left right of_a.0 of_left
            of_right meet.differ of_a.1 (of_b.1 ∙ ap Ok same);
      }) root a b conflict is_a is_b

-- Conflicts in trees over Pedersen hashes.
use Rattle.std.proofs.Common.{◌≡◌, ℕ, ◌*◌, ◌/◌, ◌<◌, cond, List, length, Ok, Err, refl, ap, sym, ◌∙◌}
use Rattle.std.specs.Prelude.{nat_lt, ◌==◌}
use Rattle.std.proofs.lemmas.Bool.{leb-true, ltb-false}
use Rattle.ark_base.specs.Outcome.{Outcome}
use Rattle.ark_base.specs.declared.error.Error.TheVariants.{IncorrectInputLength}
use Rattle.ark_base.specs.Digits.{bytes_for, bytes_of_number}
use Rattle.ark_base.specs.Reading.{IsBytes}
use Rattle.ark_base.specs.Laws.Steps.{done_injective, guarded_ok}
use Rattle.ark_groups.specs.Group.{Group, IsCommutativeGroup, times}
use Rattle.ark_paths.specs.Pair.{Digest}
use Rattle.ark_pedersen.specs.Pedersen.{window_bits, pedersen_hash, windows_hash, full_halves, of_halves, seen_image}
use Rattle.ark_pedersen.specs.Binding.{coefficients_of}
use Rattle.ark_crypto_primitives.specs.TreeRelations.{DigestView, AreBinding, GiveRelation, CouplesGiveRelation}
use Rattle.ark_crypto_primitives.specs.TreeRelations.{PedersenConflictsGiveRelations, bytes_of_pair}
use Rattle.ark_pedersen.specs.declared.window.Window.{Ghosts as Windows}
use Rattle.ark_crypto_primitives.proofs.ConflictLemmas.{conflicts_give}
use Rattle.ark_pedersen.proofs.Couples.{give_relations, are_some}
use Rattle.ark_crypto_primitives.proofs.DigestBytes.{AreSpelled, AreCoordinates, couple_of_halves, bytes-of, long-as, pair-alone, are_spelled, image-numbered, image-alone}
use Rattle.ark_crypto_primitives.proofs.PathPairs.{AreOf, IsNumbered}
use Rattle.ark_pedersen.proofs.Relations.{is_relation, same_inputs}
use Rattle.ark_pedersen.proofs.Windows.{pedersen_hash-windows}

-- an image's numbers that are there are those of an element's image
seen_image-ok : {A B D : Type 0} (view : B → D) (made : A → B) (outcome : Outcome A) (d : D)
    → seen_image view (λ x. Ok (made x)) outcome ≡ Ok d → (x : A) × (outcome ≡ Ok x) × (view (made x) ≡ d)
seen_image-ok view made (Ok x) d e = (x, refl, done_injective _ _ e)
seen_image-ok view made (Err f) d e = absurd cc

-- an order of a group
pub record IsOrder {G : Type 0} (g : Group G) (r : ℕ) : Type 0 where
  pub laws : IsCommutativeGroup g
  pub positive : 0 < r
  pub kills : (x : G) → times g r x ≡ g.identity

module _ {G W : Type 0} {g : Group G} {r : ℕ} (order : IsOrder g r) (windows : Windows W) (elements : List G)
    (lists : List (List G)) (binding : AreBinding g r windows elements lists) where
  -- the hash of halves is the sum over the windows
  halves-windows : (left right : List ℕ) → of_halves windows (pedersen_hash g windows lists) left right
      ≡ of_halves windows (windows_hash g windows elements) left right
  halves-windows left right =
      let half = window_bits windows / 2 in
      ap (λ (o : Outcome G). cond (length left == length right) (cond (nat_lt half (8 * length left))
      (Err (IncorrectInputLength (length left))) o) (Err (IncorrectInputLength (length right))))
      (pedersen_hash-windows g windows elements lists (full_halves half left right) order.laws binding.generators)

  -- two inputs with one hash
  pub inputs_give : (a b : List ℕ) (x : G) → IsBytes a × IsBytes b → length a ≡ length b → (a ≡ b → ⊥)
      → pedersen_hash g windows lists a ≡ Ok x → pedersen_hash g windows lists b ≡ Ok x
      → GiveRelation g r windows elements a b
  inputs_give a b x bytes long differ is_a is_b =
      let as_windows = λ (t : List ℕ).
      pedersen_hash-windows g windows elements lists t order.laws binding.generators in
      let sum_a = sym (as_windows a) ∙ is_a in
      let sum_b = sym (as_windows b) ∙ is_b in
      let fits_a = ltb-false (window_bits windows) (8 * length a) (guarded_ok _ _ _ x sum_a).0 in
      let fits_b = ltb-false (window_bits windows) (8 * length b) (guarded_ok _ _ _ x sum_b).0 in
      record {
        is_zero = is_relation order.laws r order.positive order.kills windows a b (coefficients_of r windows a b)
            fits_a fits_b refl elements binding.generators.0 (sum_a ∙ sym sum_b);
        some = λ none. differ (same_inputs order.laws r order.positive order.kills windows a b
            (coefficients_of r windows a b) fits_a fits_b refl (leb-true _ _ binding.fit) bytes.0 bytes.1 none long);
      }

  -- two couples of digests with one hash
  pub couples_give : {D : Type 0} (view : DigestView D) → AreSpelled view → (left right : Digest × Digest) (x : G)
      → AreOf (IsNumbered view.numbers) left → AreOf (IsNumbered view.numbers) right → (left ≡ right → ⊥)
      → of_halves windows (pedersen_hash g windows lists) (view.bytes_of left.0) (view.bytes_of left.1) ≡ Ok x
      → of_halves windows (pedersen_hash g windows lists) (view.bytes_of right.0) (view.bytes_of right.1) ≡ Ok x
      → CouplesGiveRelation g r windows view elements left right
  couples_give view spelled left right x of_left of_right differ is_left is_right =
      let sum_left = sym (halves-windows (view.bytes_of left.0) (view.bytes_of left.1)) ∙ is_left in
      let sum_right = sym (halves-windows (view.bytes_of right.0) (view.bytes_of right.1)) ∙ is_right in
      let hash = windows_hash g windows elements in
      let couple_left = couple_of_halves windows hash _ _ x sum_left in
      let couple_right = couple_of_halves windows hash _ _ x sum_right in
      record {
        is_zero = give_relations order.laws r order.positive order.kills windows elements
            (bytes_of_pair view left) (bytes_of_pair view right) binding.generators.0 couple_left couple_right
            (sum_left ∙ sym sum_right);
        some = λ none.
            let same = are_some order.laws r order.positive order.kills windows binding.fit (bytes_of_pair view left)
            (bytes_of_pair view right) (bytes-of view spelled left.0 of_left.left)
            (bytes-of view spelled left.1 of_left.right) (bytes-of view spelled right.0 of_right.left)
            (bytes-of view spelled right.1 of_right.right) couple_left couple_right
            (long-as view spelled left.0 right.0 of_left.left of_right.left) none in
            differ (pair-alone view spelled left right of_left of_right same.0 same.1);
      }

module _ {G F W V : Type 0} {g : Group G} (r : ℕ) (order : IsOrder g r) (leaf_windows : Windows W)
    (pair_windows : Windows V) (p bits : ℕ) (x : G → ℕ) (value : F → ℕ) (view : DigestView F)
    (are : AreCoordinates p bits x value view) where
  abbrev spelled : G → List ℕ
  spelled a = bytes_of_number (bytes_for bits) (x a)

  pub coordinates_give : PedersenConflictsGiveRelations g r leaf_windows pair_windows (λ a. Ok (spelled a)) view
  coordinates_give leaf_lists pair_lists root a b conflict is_a is_b leaf pair leaf_binding pair_binding =
      conflicts_give _ _ _ (record {
        hashed = λ t d is.
            let found = seen_image-ok view.numbers_of spelled _ d is in
            let made = image-numbered p bits x value view are found.0 in (made.0, made.1 ∙ found.2);
        made = λ left right d is.
            let found = seen_image-ok view.numbers_of spelled _ d is in
            let made = image-numbered p bits x value view are found.0 in (made.0, made.1 ∙ found.2);
        leaves = λ a b d bytes long differ is_a is_b.
            let of_a = seen_image-ok view.numbers_of spelled _ d is_a in
            let of_b = seen_image-ok view.numbers_of spelled _ d is_b in
            let same = image-alone p bits x value view are of_a.0 of_b.0 (of_a.2 ∙ sym of_b.2) in
            inputs_give order leaf_windows leaf leaf_lists leaf_binding a b of_a.0 bytes long differ of_a.1
            (of_b.1 ∙ ap Ok (sym same));
        pairs = λ left right of_left of_right meet.
            let of_a = seen_image-ok view.numbers_of spelled _ meet.common meet.left_hash in
            let of_b = seen_image-ok view.numbers_of spelled _ meet.common meet.right_hash in
            let same = image-alone p bits x value view are of_a.0 of_b.0 (of_a.2 ∙ sym of_b.2) in
            couples_give order pair_windows pair pair_lists pair_binding view (are_spelled p bits x value view are)
            left right of_a.0 of_left of_right meet.differ of_a.1 (of_b.1 ∙ ap Ok (sym same));
      }) root a b conflict is_a is_b

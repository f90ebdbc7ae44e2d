-- Conflicts in trees over Bowe-Hopwood hashes.
use Rattle.std.proofs.Common.{◌≡◌, ℕ, ◌*◌, ◌/◌, List, ◌∷◌, [], ◌++◌, length, Ok, Err, refl, ap, sym, ◌∙◌, append_assoc}
use Rattle.std.proofs.lemmas.Bool.{ltb-false}
use Rattle.ark_base.specs.Outcome.{Outcome}
use Rattle.ark_base.specs.Reading.{IsBytes}
use Rattle.ark_base.specs.Laws.Steps.{done_injective, guarded_ok}
use Rattle.ark_groups.specs.Group.{Group}
use Rattle.ark_groups.specs.Laws.Fp.{alone}
use Rattle.ark_bowe_hopwood.specs.BoweHopwood.{bowe_hopwood_hash, segments_hash, segments_sum, chunks_of}
use Rattle.ark_bowe_hopwood.proofs.Relations.{give_relations, are_some}
use Rattle.ark_bowe_hopwood.proofs.Segments.{bowe_hopwood_hash-segments}
use Rattle.ark_pedersen.specs.Pedersen.{bits_of_bytes, window_bits, of_halves, seen_by}
use Rattle.ark_pedersen.specs.Binding.{IsCouple, couple_bytes}
use Rattle.ark_pedersen.specs.declared.window.Window.{Ghosts as Windows}
use Rattle.ark_pedersen.proofs.ByteLists.{IsBytes-append, IsBytes-zeros}
use Rattle.ark_pedersen.proofs.Couples.{half_within}
use Rattle.ark_pedersen.proofs.Halves.{length-full_halves, of_halves-full}
use Rattle.ark_pedersen.proofs.Relations.{fronts, backs}
use Rattle.ark_paths.specs.Pair.{Digest}
use Rattle.ark_crypto_primitives.specs.TreeRelations.{DigestView, AreBindingSegments, GiveSignedRelation, CouplesGiveSignedRelation}
use Rattle.ark_crypto_primitives.specs.TreeRelations.{BoweHopwoodConflictsGiveRelations, bytes_of_pair}
use Rattle.ark_crypto_primitives.proofs.ConflictLemmas.{conflicts_give}
use Rattle.ark_crypto_primitives.proofs.DigestBytes.{AreSpelled, AreCoordinates, couple_of_halves, bytes-of, long-as, pair-alone, are_spelled, coordinate-numbered}
use Rattle.ark_crypto_primitives.proofs.PathPairs.{AreOf, IsNumbered}
use Rattle.ark_crypto_primitives.proofs.PedersenConflicts.{IsOrder}

-- what is seen of a value that is there
pub seen_by-ok : {A B : Type 0} (view : A → B) (outcome : Outcome A) (d : B) → seen_by view outcome ≡ Ok d
    → (x : A) × (outcome ≡ Ok x) × (view x ≡ d)
seen_by-ok view (Ok x) d e = (x, refl, done_injective _ _ e)
seen_by-ok view (Err f) d e = absurd cc

-- couples of one length with the same bytes are the same
couple-alone : {W : Type 0} (windows : Windows W) (left right : List ℕ × List ℕ) → IsCouple windows left
    → IsCouple windows right → length left.0 ≡ length right.0 → couple_bytes windows left ≡ couple_bytes windows right
    → (left.0 ≡ right.0) × (left.1 ≡ right.1)
couple-alone windows left right is_left is_right long one =
    let whole = sym (append_assoc left.0 left.1 _) ∙ one ∙ append_assoc right.0 right.1 _ in (
      fronts left.0 right.0 _ _ long whole,
      fronts left.1 right.1 _ _ (sym is_left.as_long ∙ long ∙ is_right.as_long)
          (backs left.0 right.0 _ _ long whole),
    )

module _ {W : Type 0} (windows : Windows W) where
  -- the bytes of a couple of bytes
  couple_bytes-bytes : (couple : List ℕ × List ℕ) → IsBytes couple.0 → IsBytes couple.1
      → IsBytes (couple_bytes windows couple)
  couple_bytes-bytes couple first second =
      IsBytes-append (couple.0 ++ couple.1) _ (IsBytes-append couple.0 couple.1 first second) (IsBytes-zeros _)

  -- as many as both halves have
  length-couple_bytes : (couple : List ℕ × List ℕ) → IsCouple windows couple
      → length (couple_bytes windows couple) ≡ 2 * (window_bits windows / 2) / 8
  length-couple_bytes couple is =
      length-full_halves (window_bits windows / 2) couple.0 couple.1 is.as_long (half_within windows couple is)

module _ {G W : Type 0} {g : Group G} {r : ℕ} (order : IsOrder g r) (x : G → ℕ)
    (told : (a b : G) → x a ≡ x b → a ≡ b) (windows : Windows W) (elements : List G)
    (lists : List (List G)) (binding : AreBindingSegments g r windows elements lists) where
  as_segments : (t : List ℕ) → bowe_hopwood_hash g x windows lists t ≡ segments_hash g x windows elements t
  as_segments t = bowe_hopwood_hash-segments order.laws x windows elements lists t binding.generators

  -- a hash is the coordinate of an element
  element_of : (t : List ℕ) (n : ℕ) → bowe_hopwood_hash g x windows lists t ≡ Ok n → (a : G) × (x a ≡ n)
  element_of t n is =
      let sum = segments_sum g windows.WINDOW_SIZE elements (chunks_of (bits_of_bytes t)) in
      (sum, done_injective (x sum) n (guarded_ok _ _ _ n (sym (as_segments t) ∙ is)).1)

  -- two inputs with one hash
  pub inputs_give : (a b : List ℕ) (n : ℕ) → IsBytes a × IsBytes b → length a ≡ length b → (a ≡ b → ⊥)
      → bowe_hopwood_hash g x windows lists a ≡ Ok n → bowe_hopwood_hash g x windows lists b ≡ Ok n
      → GiveSignedRelation g r windows elements a b
  inputs_give a b n bytes long differ is_a is_b =
      let sum_a = sym (as_segments a) ∙ is_a in
      let sum_b = sym (as_segments b) ∙ is_b in
      let most = 3 * (windows.WINDOW_SIZE * windows.NUM_WINDOWS) in
      let fits_a = ltb-false most (8 * length a) (guarded_ok _ _ _ n sum_a).0 in
      let fits_b = ltb-false most (8 * length b) (guarded_ok _ _ _ n sum_b).0 in
      record {
        is_zero = give_relations order.laws x windows told elements a b binding.generators.0 fits_a fits_b
            (sum_a ∙ sym sum_b);
        some = λ none. differ (are_some r windows order.positive binding.fit a b bytes.0 bytes.1 long fits_a none);
      }

  -- two couples of digests with one hash
  pub couples_give : {D : Type 0} (view : DigestView D) → AreSpelled view → (left right : Digest × Digest) (n : ℕ)
      → AreOf (IsNumbered view.numbers) left → AreOf (IsNumbered view.numbers) right → (left ≡ right → ⊥)
      → of_halves windows (bowe_hopwood_hash g x windows lists) (view.bytes_of left.0) (view.bytes_of left.1) ≡ Ok n
      → of_halves windows (bowe_hopwood_hash g x windows lists) (view.bytes_of right.0) (view.bytes_of right.1)
      ≡ Ok n → CouplesGiveSignedRelation g r windows view elements left right
  couples_give view spelled left right n of_left of_right differ is_left is_right =
      let hash = bowe_hopwood_hash g x windows lists in
      let one = bytes_of_pair view left in
      let other = bytes_of_pair view right in
      let is_one = couple_of_halves windows hash one.0 one.1 n is_left in
      let is_other = couple_of_halves windows hash other.0 other.1 n is_right in
      inputs_give (couple_bytes windows one) (couple_bytes windows other) n (
        couple_bytes-bytes windows one (bytes-of view spelled left.0 of_left.left)
            (bytes-of view spelled left.1 of_left.right),
        couple_bytes-bytes windows other (bytes-of view spelled right.0 of_right.left)
            (bytes-of view spelled right.1 of_right.right),
      )
      (length-couple_bytes windows one is_one ∙ sym (length-couple_bytes windows other is_other))
      (λ same.
      let alone = couple-alone windows one other is_one is_other
      (long-as view spelled left.0 right.0 of_left.left of_right.left) same in
      differ (pair-alone view spelled left right of_left of_right alone.0 alone.1))
      (sym (of_halves-full windows hash one.0 one.1 is_one.as_long (half_within windows one is_one)) ∙ is_left)
      (sym (of_halves-full windows hash other.0 other.1 is_other.as_long (half_within windows other is_other))
      ∙ is_right)

module _ {G F W V : Type 0} {g : Group G} (r : ℕ) (order : IsOrder g r) (leaf_windows : Windows W)
    (pair_windows : Windows V) (p bits : ℕ) (x : G → ℕ) (value : F → ℕ) (view : DigestView F)
    (are : AreCoordinates p bits x value view) where
  pub segments_give : BoweHopwoodConflictsGiveRelations g r x leaf_windows pair_windows view
  segments_give leaf_lists pair_lists root a b conflict is_a is_b leaf pair leaf_binding pair_binding =
      conflicts_give _ _ _ (record {
        hashed = λ t d is.
            let found = seen_by-ok (λ (n : ℕ). n ∷ []) _ d is in
            numbered (element_of order x are.told leaf_windows leaf leaf_lists leaf_binding t found.0 found.1) d
            found.2;
        made = λ left right d is.
            let found = seen_by-ok (λ (n : ℕ). n ∷ []) _ d is in
            numbered (element_in (view.bytes_of left) (view.bytes_of right) found.0 found.1) d found.2;
        leaves = λ a b d bytes long differ is_a is_b.
            let of_a = seen_by-ok (λ (n : ℕ). n ∷ []) _ d is_a in
            let of_b = seen_by-ok (λ (n : ℕ). n ∷ []) _ d is_b in
            inputs_give order x are.told leaf_windows leaf leaf_lists leaf_binding a b of_a.0 bytes long differ of_a.1
            (of_b.1 ∙ ap Ok (alone (of_b.2 ∙ sym of_a.2)));
        pairs = λ left right of_left of_right meet.
            let of_a = seen_by-ok (λ (n : ℕ). n ∷ []) _ meet.common meet.left_hash in
            let of_b = seen_by-ok (λ (n : ℕ). n ∷ []) _ meet.common meet.right_hash in
            couples_give order x are.told pair_windows pair pair_lists pair_binding view
            (are_spelled p bits x value view are) left right of_a.0 of_left of_right meet.differ of_a.1
            (of_b.1 ∙ ap Ok (alone (of_b.2 ∙ sym of_a.2)));
      }) root a b conflict is_a is_b
    where
      numbered : {n : ℕ} → (a : G) × (x a ≡ n) → (d : Digest) → n ∷ [] ≡ d → IsNumbered view.numbers d
      numbered of d is =
          let made = coordinate-numbered p bits x value view are of.0 in
          (made.0, made.1 ∙ ap (λ (k : ℕ). k ∷ []) of.1 ∙ is)

      element_in : (left right : List ℕ) (n : ℕ)
          → of_halves pair_windows (bowe_hopwood_hash g x pair_windows pair_lists) left right ≡ Ok n
          → (a : G) × (x a ≡ n)
      element_in left right n is =
          let hash = bowe_hopwood_hash g x pair_windows pair_lists in
          let couple = couple_of_halves pair_windows hash left right n is in
          element_of order x are.told pair_windows pair pair_lists pair_binding
          (couple_bytes pair_windows (left, right)) n
          (sym (of_halves-full pair_windows hash left right couple.as_long
          (half_within pair_windows (left, right) couple)) ∙ is)

-- Conflicts in trees over the hash of two nodes and their level.
use Rattle.std.proofs.Common.{◌≡◌, ℕ, zero, suc, ◌+◌, ◌*◌, ◌/◌, ◌^◌, ◌<◌, ◌≤◌, inl, inr, Bool, true, false, cond, List, [], ◌∷◌, length, map, take, get_or, Ok, Err, arith, refl, ap, ap₂, sym, subst, zero-add, ◌∙◌}
use Rattle.std.specs.Prelude.{nat_lt}
use Rattle.std.proofs.lemmas.Bool.{ltb-true}
use Rattle.std.proofs.lemmas.List.{length-map}
use Rattle.std.proofs.lemmas.Nat.{shr-shr}
use Rattle.ark_base.specs.Outcome.{Outcome}
use Rattle.ark_base.specs.declared.error.Error.{Error}
use Rattle.ark_base.specs.Laws.Steps.{bind_ok, done_injective}
use Rattle.ark_groups.specs.Group.{Group}
use Rattle.ark_groups.specs.Laws.Fp.{alone}
use Rattle.ark_pedersen.specs.Pedersen.{concatenation}
use Rattle.ark_pedersen.specs.declared.window.Window.{Ghosts as Windows}
use Rattle.ark_bowe_hopwood.specs.Binding.{AreInBits, bits_in}
use Rattle.ark_bowe_hopwood.specs.BoweHopwood.{chunks_of, digits_sum}
use Rattle.ark_bowe_hopwood.specs.Nodes.{leveled_hash, node_hash}
use Rattle.ark_bowe_hopwood.proofs.BitRelations.{nodes_give, nodes_are_some}
use Rattle.ark_paths.specs.Bind.{couple}
use Rattle.ark_paths.specs.Index.{bit_at}
use Rattle.ark_paths.specs.Pair.{Digest, hash_in_order}
use Rattle.ark_paths.proofs.Collisions.{digest_eq-true}
use Rattle.ark_paths.proofs.OwnPaths.{hashed-couple}
use Rattle.incremental_trees.specs.Nodes.{LevelHash, rising_root}
use Rattle.ark_crypto_primitives.specs.NodeConflicts.{ShownNode, AreNodesInConflict, IsNodeShown, NodesGiveRelation}
use Rattle.ark_crypto_primitives.specs.NodeConflicts.{NodeConflictsGiveRelations, children_of, node_coefficients, nodes_at}
use Rattle.ark_crypto_primitives.specs.TreeRelations.{AreBindingSegments, IsSomeSignedRelation}
use Rattle.ark_crypto_primitives.proofs.PathPairs.{AreOf, couple-of, couple-first, same_or_other}
use Rattle.ark_crypto_primitives.proofs.PedersenConflicts.{IsOrder}
use Rattle.ark_crypto_primitives.proofs.SegmentConflicts.{seen_by-ok}

-- ---- two ways

-- At so many levels up, two nodes on ways differ, and the hashes with the nodes beside them are one.
pub record NodesMeet (hash : LevelHash) (Is : Digest → Type 0) (level place : ℕ) (bs cs : List Digest)
    (x y : Digest) (n : ℕ) : Type 0 where
  pub in_range : n < length bs
  pub first : Digest
  pub first_is : rising_root hash level place (take n bs) x ≡ Ok first
  pub first_of : Is first
  pub second : Digest
  pub second_is : rising_root hash level place (take n cs) y ≡ Ok second
  pub second_of : Is second
  pub differ : first ≡ second → ⊥
  pub common : Digest
  pub first_hash : hash_in_order (hash (level + n)) (bit_at (place / 2 ^ n) 0) first (get_or bs n []) ≡ Ok common
  pub second_hash : hash_in_order (hash (level + n)) (bit_at (place / 2 ^ n) 0) second (get_or cs n []) ≡ Ok common

module _ (hash : LevelHash) (Is : Digest → Type 0)
    (made : (level : ℕ) (x y d : Digest) → hash level x y ≡ Ok d → Is d) where
  made-in_order : (level : ℕ) (t : Bool) (u v d : Digest) → hash_in_order (hash level) t u v ≡ Ok d → Is d
  made-in_order level true u v d e = made level v u d e
  made-in_order level false u v d e = made level u v d e

  pub nodes_meet : (level place : ℕ) (bs cs : List Digest) (x y top : Digest) → length bs ≡ length cs → Is x → Is y
      → (x ≡ y → ⊥) → rising_root hash level place bs x ≡ Ok top → rising_root hash level place cs y ≡ Ok top
      → (n : ℕ) × NodesMeet hash Is level place bs cs x y n
  nodes_meet level place [] [] x y top long is_x is_y differ one other =
      absurd (differ (done_injective x y (one ∙ sym other)))
  nodes_meet level place [] (c ∷ cs) x y top long is_x is_y differ one other = absurd (omega (arith, long))
  nodes_meet level place (b ∷ bs) [] x y top long is_x is_y differ one other = absurd (omega (arith, long))
  nodes_meet level place (b ∷ bs) (c ∷ cs) x y top long is_x is_y differ one other =
      let bit = bit_at place 0 in
      let up_x = bind_ok (hash_in_order (hash level) bit x b) _ top one in
      let up_y = bind_ok (hash_in_order (hash level) bit y c) _ top other in
      elim (same_or_other up_x.0 up_y.0) [
        | inl apart ↦
            let rest = nodes_meet (suc level) (place / 2) bs cs up_x.0 up_y.0 top (omega (arith, long))
            (made-in_order level bit x b up_x.0 up_x.1) (made-in_order level bit y c up_y.0 up_y.1) apart up_x.2
            up_y.2 in
            (suc rest.0, further rest.0 up_x.0 up_y.0 up_x.1 up_y.1 rest.1)
        | inr same ↦ (0, here up_x.0 up_x.1 (up_y.1 ∙ ap Ok (sym same)))
      ]
    where
      here : (d : Digest) → hash_in_order (hash level) (bit_at place 0) x b ≡ Ok d
          → hash_in_order (hash level) (bit_at place 0) y c ≡ Ok d
          → NodesMeet hash Is level place (b ∷ bs) (c ∷ cs) x y 0
      here d first second =
          let one : place / 2 ^ 0 ≡ place = omega arith in
          let up : level + 0 ≡ level = omega arith in
          record {
            in_range = omega arith;
            first = x;
            first_is = refl;
            first_of = is_x;
            second = y;
            second_is = refl;
            second_of = is_y;
            differ = differ;
            common = d;
            first_hash = rw (up, one) first;
            second_hash = rw (up, one) second;
          }

      further : (n : ℕ) (u v : Digest) → hash_in_order (hash level) (bit_at place 0) x b ≡ Ok u
          → hash_in_order (hash level) (bit_at place 0) y c ≡ Ok v
          → NodesMeet hash Is (suc level) (place / 2) bs cs u v n
          → NodesMeet hash Is level place (b ∷ bs) (c ∷ cs) x y (suc n)
      further n u v first second rest =
          let half : place / 2 ^ suc n ≡ place / 2 / 2 ^ n =
          sym (shr-shr place 1 n ∙ ap (λ k. place / 2 ^ k) (one-more n)) in
          let up : level + suc n ≡ suc level + n = omega arith in
          record {
            in_range = omega (arith, rest.in_range);
            first = rest.first;
            first_is = rw first rest.first_is;
            first_of = rest.first_of;
            second = rest.second;
            second_is = rw second rest.second_is;
            second_of = rest.second_of;
            differ = rest.differ;
            common = rest.common;
            first_hash = rw (up, half) rest.first_hash;
            second_hash = rw (up, half) rest.second_hash;
          }
        where
          one-more : (n : ℕ) → 1 + n ≡ suc n
          one-more n = omega arith

-- ---- one couple of nodes

-- a digest is the number of an element of the field alone
abbrev pub IsNumberBelow : ℕ → Digest → Type 0
IsNumberBelow p d = (n : ℕ) × (n < p) × (d ≡ n ∷ [])

-- three tests that did not fail
three_tests : (a b c : Bool) (value n : ℕ) (e f h : Error)
    → (let o : Outcome ℕ = cond a (cond b (Err f) (cond c (Ok value) (Err h))) (Err e) in o ≡ Ok n)
    → (a ≡ true) × (value ≡ n)
three_tests true true c value n e f h is = absurd cc
three_tests true false true value n e f h is = (refl, done_injective value n is)
three_tests true false false value n e f h is = absurd cc
three_tests false b c value n e f h is = absurd cc

module _ {G W : Type 0} {g : Group G} {r : ℕ} (order : IsOrder g r) (x : G → ℕ)
    (told : (a b : G) → x a ≡ x b → a ≡ b) (p : ℕ) (below : (a : G) → x a < p) (windows : Windows W)
    (elements : List G) (lists : List (List G)) (binding : AreBindingSegments g r windows elements lists) where
  -- a hash of two nodes has a level of six bits, and is a number of the field
  node_hash-ok : (level left right n : ℕ) → node_hash g x windows lists level left right ≡ Ok n → (level < 64) × (n < p)
  node_hash-ok level left right n is =
      let sum = digits_sum g (concatenation lists) (chunks_of (bits_in (record {
        level = level;
        left = left;
        right = right;
      }))) in
      let tests = three_tests (nat_lt level 64) _ _ (x sum) n _ _ _ is in
      (ltb-true level 64 tests.0, subst (λ (k : ℕ). k < p) tests.1 (below sum))

  pub node-made : (level : ℕ) (left right d : Digest) → leveled_hash g x windows lists level left right ≡ Ok d
      → IsNumberBelow p d
  node-made level left right d is =
      let found = seen_by-ok (λ (n : ℕ). n ∷ []) _ d is in
      (found.0, (node_hash-ok level (get_or left 0 0) (get_or right 0 0) found.0 found.1).1, sym found.2)

  module _ (small : p ≤ 2 ^ 255) (room : 516 ≤ 3 * (windows.WINDOW_SIZE * windows.NUM_WINDOWS)) where
    in_bits : (level : ℕ) (nodes : Digest × Digest) → level < 64 → AreOf (IsNumberBelow p) nodes
        → AreInBits (children_of level nodes)
    in_bits level nodes within of = record {
      level = within;
      left = under nodes.0 of.left;
      right = under nodes.1 of.right;
    }
      where
        under : (d : Digest) → IsNumberBelow p d → get_or d 0 0 < 2 ^ 255
        under d is =
            let first : get_or d 0 0 ≡ is.0 = ap (λ (t : Digest). get_or t 0 0) is.2 in
            omega (arith, first, is.1, small)

    -- digests of one number are known by it
    same-number : (d e : Digest) → IsNumberBelow p d → IsNumberBelow p e → get_or d 0 0 ≡ get_or e 0 0 → d ≡ e
    same-number d e is_d is_e same =
        let first = ap (λ (t : Digest). get_or t 0 0) is_d.2 in
        let second = ap (λ (t : Digest). get_or t 0 0) is_e.2 in
        is_d.2 ∙ ap (λ (n : ℕ). n ∷ []) (sym first ∙ same ∙ second) ∙ sym is_e.2

    pub nodes_give_at : (level : ℕ) (left right : Digest × Digest) (d : Digest) → AreOf (IsNumberBelow p) left
        → AreOf (IsNumberBelow p) right → (left.0 ≡ right.0 → left.1 ≡ right.1 → ⊥)
        → leveled_hash g x windows lists level left.0 left.1 ≡ Ok d
        → leveled_hash g x windows lists level right.0 right.1 ≡ Ok d
        → IsSomeSignedRelation g r elements (node_coefficients windows level left right)
    nodes_give_at level left right d of_left of_right differ one other =
        let first = seen_by-ok (λ (n : ℕ). n ∷ []) _ d one in
        let second = seen_by-ok (λ (n : ℕ). n ∷ []) _ d other in
        let same = alone (second.2 ∙ sym first.2) in
        let within = (node_hash-ok level (get_or left.0 0 0) (get_or left.1 0 0) first.0 first.1).0 in
        record {
          is_zero = nodes_give order.laws x windows told elements lists (children_of level left)
              (children_of level right) first.0 binding.generators first.1 (second.1 ∙ ap Ok same);
          some = λ none.
              let alike = nodes_are_some r windows order.positive binding.fit room (children_of level left)
              (children_of level right) (in_bits level left within of_left) (in_bits level right within of_right)
              none in
              differ (same-number left.0 right.0 of_left.left of_right.left alike.1)
              (same-number left.1 right.1 of_left.right of_right.right alike.2);
        }

module _ {F G W : Type 0} {g : Group G} {r : ℕ} (order : IsOrder g r) (x : G → ℕ)
    (told : (a b : G) → x a ≡ x b → a ≡ b) (p : ℕ) (below : (a : G) → x a < p) (small : p ≤ 2 ^ 255)
    (windows : Windows W) (numbers : F → Digest) (are : (f : F) → IsNumberBelow p (numbers f)) where
  beside-below : (fs : List F) (i : ℕ) → i < length (map numbers fs) → IsNumberBelow p (get_or (map numbers fs) i [])
  beside-below [] i under = absurd (omega (arith, under))
  beside-below (f ∷ fs) zero under = are f
  beside-below (f ∷ fs) (suc i) under = beside-below fs i (omega (arith, under))

  -- the hash of two nodes of a level
  abbrev hash_of : List (List G) → LevelHash
  hash_of lists = leveled_hash g x windows lists

  -- the nodes beside a leaf's way, by numbers
  abbrev beside_in : ShownNode F → List Digest
  beside_in c = map numbers c.beside

  module _ (lists : List (List G)) (elements : List G) (root : Digest) (a b : ShownNode F)
      (binding : AreBindingSegments g r windows elements lists)
      (room : 516 ≤ 3 * (windows.WINDOW_SIZE * windows.NUM_WINDOWS)) (conflict : AreNodesInConflict numbers a b) where
    -- the nodes beside a way make the root
    shown : (c : ShownNode F) → IsNodeShown numbers (hash_of lists) root c
        → rising_root (hash_of lists) 0 c.index (beside_in c) (numbers c.leaf) ≡ Ok root
    shown c is =
        let top = bind_ok (rising_root (hash_of lists) 0 c.index (beside_in c) (numbers c.leaf)) _ true is in
        top.1 ∙ ap Ok (digest_eq-true top.0 root (done_injective _ _ top.2))

    given : (n : ℕ) → NodesMeet (hash_of lists) (IsNumberBelow p) 0 a.index (beside_in a) (beside_in b)
        (numbers a.leaf) (numbers b.leaf) n
        → NodesGiveRelation numbers (hash_of lists) g r windows elements a b n
    given n meet =
        let bit = bit_at (a.index / 2 ^ n) 0 in
        let beside_a = get_or (beside_in a) n [] in
        let beside_b = get_or (beside_in b) n [] in
        let under : n < length a.beside = omega (arith, meet.in_range, length-map a.beside numbers) in
        let inside : n < length (beside_in b) = omega (arith, under, conflict.depth, length-map b.beside numbers) in
        record {
          in_range = under;
          left = couple bit meet.first beside_a;
          left_is = rw meet.first_is refl;
          right = couple bit meet.second beside_b;
          right_is = ap (λ k. nodes_at numbers (hash_of lists)
              (record { leaf = b.leaf; beside = b.beside; index = k }) n) (sym conflict.index)
              ∙ rw meet.second_is refl;
          relation = nodes_give_at order x told p below windows elements lists binding small room n
              (couple bit meet.first beside_a) (couple bit meet.second beside_b) meet.common
              (couple-of (IsNumberBelow p) bit meet.first beside_a meet.first_of
              (beside-below a.beside n meet.in_range))
              (couple-of (IsNumberBelow p) bit meet.second beside_b meet.second_of (beside-below b.beside n inside))
              (λ same also. meet.differ (couple-first bit bit meet.first beside_a meet.second beside_b refl
              (ap₂ (λ (u v : Digest). (u, v)) same also)))
              (hashed n bit meet.first beside_a meet.common meet.first_hash)
              (hashed n bit meet.second beside_b meet.common meet.second_hash);
        }
      where
        hashed : (n : ℕ) (bit : Bool) (u v d : Digest) → hash_in_order (hash_of lists (0 + n)) bit u v ≡ Ok d
            → hash_of lists n (couple bit u v).0 (couple bit u v).1 ≡ Ok d
        hashed n bit u v d is =
            hashed-couple (hash_of lists n) bit u v
            ∙ subst (λ k. hash_in_order (hash_of lists k) bit u v ≡ Ok d) (zero-add n) is

    both_shown : IsNodeShown numbers (hash_of lists) root a → IsNodeShown numbers (hash_of lists) root b
        → (level : ℕ) × NodesGiveRelation numbers (hash_of lists) g r windows elements a b level
    both_shown is_a is_b =
        let made = node-made order x told p below windows elements lists binding in
        let long = length-map a.beside numbers ∙ conflict.depth ∙ sym (length-map b.beside numbers) in
        let top_b = ap (λ n. rising_root (hash_of lists) 0 n (beside_in b) (numbers b.leaf)) conflict.index
        ∙ shown b is_b in
        let found = nodes_meet (hash_of lists) (IsNumberBelow p) made 0 a.index (beside_in a) (beside_in b)
        (numbers a.leaf) (numbers b.leaf) root long (are a.leaf) (are b.leaf) conflict.differ (shown a is_a) top_b in
        (found.0, given found.0 found.1)

  pub node_conflicts_give : NodeConflictsGiveRelations numbers g r x windows
  node_conflicts_give lists elements root a b binding room conflict is_a is_b =
      both_shown lists elements root a b binding room conflict is_a is_b

-- What a conflict in a tree over Pedersen's or a Bowe-Hopwood hash gives: a relation among the elements of a hash.
use Rattle.std.specs.Prelude.{◌≡◌, ◌∷◌, [], ℕ, true, List, length, ℤ}
use Rattle.ark_base.specs.Outcome.{Outcome}
use Rattle.ark_base.specs.Reading.{IsBytes}
use Rattle.ark_groups.specs.Group.{Group}
use Rattle.ark_paths.specs.Pair.{Digest}
use Rattle.ark_crypto_primitives.specs.Conflicts.{TreeHashes, ShownLeaf, AreInConflict, IsShownUnder, Give}
use Rattle.ark_pedersen.specs.Pedersen.{AreGeneratorsOf, pedersen_hash, of_halves, seen_by, seen_image}
use Rattle.ark_pedersen.specs.Binding.{AreAllZero, combination, coefficients_of, couple_bytes, couple_coefficients, windows_fit}
use Rattle.ark_bowe_hopwood.specs.BoweHopwood.{AreSegmentsOf, bowe_hopwood_hash, is_fitting}
use Rattle.ark_bowe_hopwood.specs.Binding.{AreAllMultiples, coefficients_of as segment_coefficients, signed_combination}
use Rattle.ark_pedersen.specs.declared.window.Window.{Ghosts as Windows}

-- how contracts see a type of digests: the numbers of one, the digest of canonical bytes, and the bytes of a digest
pub record DigestView (D : Type 0) : Type 0 where
  pub numbers : D → Digest
  pub numbers_of : List ℕ → Digest
  pub bytes_of : Digest → List ℕ

-- the canonical bytes of two digests
abbrev pub bytes_of_pair : {D : Type 0} → DigestView D → Digest × Digest → List ℕ × List ℕ
bytes_of_pair view pair = (view.bytes_of pair.0, view.bytes_of pair.1)

-- how they are seen by these maps
abbrev pub digest_view : {D : Type 0} → (D → Digest) → (List ℕ → Digest) → (Digest → List ℕ) → DigestView D
digest_view numbers numbers_of bytes_of = record { numbers = numbers; numbers_of = numbers_of; bytes_of = bytes_of }

-- ---- Pedersen

-- The combination of the elements by these coefficients is zero, and a coefficient is not 0.
pub record IsSomeRelation {G : Type 0} (g : Group G) (elements : List G) (coefficients : List ℕ) : Type 0 where
  pub is_zero : combination g coefficients elements ≡ g.identity
  pub some : AreAllZero coefficients → ⊥

-- The generators are those of the elements, and each number of a window stays below the order.
pub record AreBinding {G W : Type 0} (g : Group G) (order : ℕ) (windows : Windows W) (elements : List G)
    (lists : List (List G)) : Type 0 where
  pub generators : AreGeneratorsOf g windows elements lists
  pub fit : windows_fit order windows ≡ true

-- the tree whose digests are the images of Pedersen hashes, by their canonical bytes
abbrev pub pedersen_tree : {G D W V : Type 0} → Group G → Windows W → Windows V → (G → Outcome (List ℕ))
    → DigestView D → List (List G) → List (List G) → TreeHashes D
pedersen_tree g leaf_windows pair_windows image view leaf_lists pair_lists = record {
  numbers = view.numbers;
  leaf = λ leaf. seen_image view.numbers_of image (pedersen_hash g leaf_windows leaf_lists leaf);
  pair = λ left right. seen_image view.numbers_of image
      (of_halves pair_windows (pedersen_hash g pair_windows pair_lists) (view.bytes_of left) (view.bytes_of right));
}

-- two inputs give a relation among the elements
abbrev pub GiveRelation : {G W : Type 0} → Group G → ℕ → Windows W → List G → List ℕ → List ℕ → Type 0
GiveRelation g order windows elements left right =
    IsSomeRelation g elements (coefficients_of order windows left right)

-- two couples of digests do
abbrev pub CouplesGiveRelation : {G D W : Type 0} → Group G → ℕ → Windows W → DigestView D → List G
    → Digest × Digest → Digest × Digest → Type 0
CouplesGiveRelation g order windows view elements left right =
    IsSomeRelation g elements (couple_coefficients order windows (bytes_of_pair view left) (bytes_of_pair view right))

-- Whatever elements the generators are those of, two leaves give a relation among the elements of the leaves' hash, or
-- the pairs of their paths at a level do among those of the pairs' hash.
abbrev pub GivePedersenRelations : {G D W V : Type 0} → Group G → ℕ → Windows W → Windows V → (G → Outcome (List ℕ))
    → DigestView D → List (List G) → List (List G) → ShownLeaf D → ShownLeaf D → Type 0
GivePedersenRelations {G} g order leaf_windows pair_windows image view leaf_lists pair_lists a b =
    (leaf pair : List G) → AreBinding g order leaf_windows leaf leaf_lists
    → AreBinding g order pair_windows pair pair_lists
    → Give (pedersen_tree g leaf_windows pair_windows image view leaf_lists pair_lists)
    (GiveRelation g order leaf_windows leaf) (CouplesGiveRelation g order pair_windows view pair) a b

-- conflicts in trees over Pedersen hashes give relations
abbrev pub PedersenConflictsGiveRelations : {G D W V : Type 0} → Group G → ℕ → Windows W → Windows V
    → (G → Outcome (List ℕ)) → DigestView D → Type 0
PedersenConflictsGiveRelations {G} {D} g order leaf_windows pair_windows image view =
    (leaf_lists pair_lists : List (List G)) (root : Digest) (a b : ShownLeaf D) → AreInConflict a b
    → IsShownUnder (pedersen_tree g leaf_windows pair_windows image view leaf_lists pair_lists) root a
    → IsShownUnder (pedersen_tree g leaf_windows pair_windows image view leaf_lists pair_lists) root b
    → GivePedersenRelations g order leaf_windows pair_windows image view leaf_lists pair_lists a b

-- the tree whose digests are the elements that Pedersen hashes are
abbrev pub point_tree : {G W V : Type 0} → Group G → Windows W → Windows V → DigestView G → List (List G)
    → List (List G) → TreeHashes G
point_tree g leaf_windows pair_windows view leaf_lists pair_lists = record {
  numbers = view.numbers;
  leaf = λ leaf. seen_by view.numbers (pedersen_hash g leaf_windows leaf_lists leaf);
  pair = λ left right. seen_by view.numbers
      (of_halves pair_windows (pedersen_hash g pair_windows pair_lists) (view.bytes_of left) (view.bytes_of right));
}

-- The canonical bytes of all digests are as many, and are bytes.
pub record HaveWidth {D : Type 0} (view : DigestView D) (width : ℕ) : Type 0 where
  pub long : (d : D) → length (view.bytes_of (view.numbers d)) ≡ width
  pub bytes : (d : D) → IsBytes (view.bytes_of (view.numbers d))

-- conflicts in trees of elements give relations
abbrev pub PointConflictsGiveRelations : {G W V : Type 0} → Group G → ℕ → Windows W → Windows V → DigestView G → Type 0
PointConflictsGiveRelations {G} g order leaf_windows pair_windows view =
    (leaf_lists pair_lists : List (List G)) (leaf pair : List G) (root : Digest) (a b : ShownLeaf G)
    → AreBinding g order leaf_windows leaf leaf_lists → AreBinding g order pair_windows pair pair_lists
    → AreInConflict a b → IsShownUnder (point_tree g leaf_windows pair_windows view leaf_lists pair_lists) root a
    → IsShownUnder (point_tree g leaf_windows pair_windows view leaf_lists pair_lists) root b
    → Give (point_tree g leaf_windows pair_windows view leaf_lists pair_lists)
    (GiveRelation g order leaf_windows leaf) (CouplesGiveRelation g order pair_windows view pair) a b

-- ---- Bowe-Hopwood

-- The combination of the elements by these coefficients is zero, and the order does not divide all of them.
pub record IsSomeSignedRelation {G : Type 0} (g : Group G) (order : ℕ) (elements : List G) (coefficients : List ℤ) :
    Type 0 where
  pub is_zero : signed_combination g coefficients elements ≡ g.identity
  pub some : AreAllMultiples order coefficients → ⊥

-- The generators are those of the elements, and segments fit the order, as `setup` tests.
pub record AreBindingSegments {G W : Type 0} (g : Group G) (order : ℕ) (windows : Windows W) (elements : List G)
    (lists : List (List G)) : Type 0 where
  pub generators : AreSegmentsOf g windows elements lists
  pub fit : is_fitting order windows.WINDOW_SIZE ≡ true

-- the tree whose digests are Bowe-Hopwood hashes
abbrev pub bowe_hopwood_tree : {G D W V : Type 0} → Group G → (G → ℕ) → Windows W → Windows V
    → DigestView D → List (List G) → List (List G) → TreeHashes D
bowe_hopwood_tree g coordinate leaf_windows pair_windows view leaf_lists pair_lists = record {
  numbers = view.numbers;
  leaf = λ leaf. seen_by (λ x. x ∷ []) (bowe_hopwood_hash g coordinate leaf_windows leaf_lists leaf);
  pair = λ left right. seen_by (λ x. x ∷ []) (of_halves pair_windows
      (bowe_hopwood_hash g coordinate pair_windows pair_lists) (view.bytes_of left) (view.bytes_of right));
}

-- two inputs give a relation among the elements
abbrev pub GiveSignedRelation : {G W : Type 0} → Group G → ℕ → Windows W → List G → List ℕ → List ℕ → Type 0
GiveSignedRelation g order windows elements left right =
    IsSomeSignedRelation g order elements (segment_coefficients windows left right)

-- two couples of digests do
abbrev pub CouplesGiveSignedRelation : {G D W : Type 0} → Group G → ℕ → Windows W → DigestView D → List G
    → Digest × Digest → Digest × Digest → Type 0
CouplesGiveSignedRelation g order windows view elements left right =
    GiveSignedRelation g order windows elements (couple_bytes windows (bytes_of_pair view left))
    (couple_bytes windows (bytes_of_pair view right))

-- the same of trees over Bowe-Hopwood hashes
abbrev pub GiveSegmentRelations : {G D W V : Type 0} → Group G → ℕ → (G → ℕ) → Windows W → Windows V → DigestView D
    → List (List G) → List (List G) → ShownLeaf D → ShownLeaf D → Type 0
GiveSegmentRelations {G} g order coordinate leaf_windows pair_windows view leaf_lists pair_lists a b =
    (leaf pair : List G) → AreBindingSegments g order leaf_windows leaf leaf_lists
    → AreBindingSegments g order pair_windows pair pair_lists
    → Give (bowe_hopwood_tree g coordinate leaf_windows pair_windows view leaf_lists pair_lists)
    (GiveSignedRelation g order leaf_windows leaf) (CouplesGiveSignedRelation g order pair_windows view pair) a b

-- conflicts in trees over Bowe-Hopwood hashes give relations
abbrev pub BoweHopwoodConflictsGiveRelations : {G D W V : Type 0} → Group G → ℕ → (G → ℕ) → Windows W → Windows V
    → DigestView D → Type 0
BoweHopwoodConflictsGiveRelations {G} {D} g order coordinate leaf_windows pair_windows view =
    (leaf_lists pair_lists : List (List G)) (root : Digest) (a b : ShownLeaf D) → AreInConflict a b
    → IsShownUnder (bowe_hopwood_tree g coordinate leaf_windows pair_windows view leaf_lists pair_lists) root a
    → IsShownUnder (bowe_hopwood_tree g coordinate leaf_windows pair_windows view leaf_lists pair_lists) root b
    → GiveSegmentRelations g order coordinate leaf_windows pair_windows view leaf_lists pair_lists a b

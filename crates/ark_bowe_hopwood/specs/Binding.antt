-- What two inputs with one Bowe-Hopwood hash give: a relation among the elements of the segments.
use Rattle.std.specs.Prelude.{◌≡◌, ℕ, zero, suc, ◌*◌, ◌^◌, ◌<◌, ◌≤◌, Bool, true, All, List, [], ◌∷◌, length, take, drop, Ok, ℤ, pos, ◌-ℤ◌}
use Rattle.std.specs.Int.{int_rem_euclid}
use Rattle.ark_base.specs.Reading.{IsBytes}
use Rattle.ark_groups.specs.Group.{Group}
use Rattle.ark_pedersen.specs.Pedersen.{bits_of_bytes}
use Rattle.ark_pedersen.specs.declared.window.Window.{Ghosts as Windows}
use Rattle.ark_bowe_hopwood.specs.BitHashes.{bits_hash}
use Rattle.ark_bowe_hopwood.specs.BoweHopwood.{Chunk, chunks_of, segment_scalar, signed_times, segments_hash, is_fitting}
use Rattle.ark_bowe_hopwood.specs.BoweHopwood.{AreSegmentsOf}
use Rattle.ark_bowe_hopwood.specs.Nodes.{node_bits, node_hash}

-- the scalars of the segments, so many as are asked for, each of so many chunks
unfoldable pub segment_scalars : ℕ → ℕ → List Chunk → List ℤ
segment_scalars size zero chunks = []
segment_scalars size (suc count) chunks =
    segment_scalar (take size chunks) ∷ segment_scalars size count (drop size chunks)

-- place by place, the first less the second
unfoldable pub scalar_differences : List ℤ → List ℤ → List ℤ
scalar_differences [] bs = []
scalar_differences (a ∷ as_scalars) [] = []
scalar_differences (a ∷ as_scalars) (b ∷ bs) = (a -ℤ b) ∷ scalar_differences as_scalars bs

-- the sum of the elements, each as often as its whole number says
unfoldable pub signed_combination : {G : Type 0} → Group G → List ℤ → List G → G
signed_combination g [] xs = g.identity
signed_combination g (z ∷ zs) [] = g.identity
signed_combination g (z ∷ zs) (x ∷ xs) = g.plus (signed_times g z x) (signed_combination g zs xs)

-- the coefficients that two lists of bits give, one for each segment: its scalar in the left less that in the right
abbrev pub bit_coefficients : {W : Type 0} → Windows W → List Bool → List Bool → List ℤ
bit_coefficients windows left right =
    scalar_differences (segment_scalars windows.WINDOW_SIZE windows.NUM_WINDOWS (chunks_of left))
    (segment_scalars windows.WINDOW_SIZE windows.NUM_WINDOWS (chunks_of right))

-- those that two inputs give
abbrev pub coefficients_of : {W : Type 0} → Windows W → List ℕ → List ℕ → List ℤ
coefficients_of windows left right = bit_coefficients windows (bits_of_bytes left) (bits_of_bytes right)

-- each coefficient is a multiple of the order
abbrev pub AreAllMultiples : ℕ → List ℤ → Type 0
AreAllMultiples order coefficients = All (λ z. int_rem_euclid z (pos order) ≡ pos 0) coefficients

-- the bytes have at most three bits for each element
abbrev pub IsWithinSegments : {W : Type 0} → Windows W → List ℕ → Type 0
IsWithinSegments windows input = 8 * length input ≤ 3 * (windows.WINDOW_SIZE * windows.NUM_WINDOWS)

-- where two inputs have one hash, the combination of the elements by their coefficients is zero
abbrev pub HashesGiveRelations : {G W : Type 0} → Group G → (G → ℕ) → Windows W → Type 0
HashesGiveRelations {G} g coordinate windows =
    (elements : List G) (left right : List ℕ) → length elements ≡ windows.NUM_WINDOWS
    → IsWithinSegments windows left → IsWithinSegments windows right
    → segments_hash g coordinate windows elements left ≡ segments_hash g coordinate windows elements right
    → signed_combination g (coefficients_of windows left right) elements ≡ g.identity

-- where the segments fit the order, inputs of one length whose coefficients are all multiples of it are the same
abbrev pub RelationsAreSome : {W : Type 0} → ℕ → Windows W → Type 0
RelationsAreSome order windows =
    is_fitting order windows.WINDOW_SIZE ≡ true → (left right : List ℕ) → IsBytes left → IsBytes right
    → length left ≡ length right → IsWithinSegments windows left
    → AreAllMultiples order (coefficients_of windows left right) → left ≡ right

-- ---- bits

-- where two lists of bits have one hash, the combination of the elements by their coefficients is zero
abbrev pub BitHashesGiveRelations : {G W : Type 0} → Group G → (G → ℕ) → Windows W → Type 0
BitHashesGiveRelations {G} g coordinate windows =
    (elements : List G) (lists : List (List G)) (left right : List Bool) (hash : ℕ)
    → AreSegmentsOf g windows elements lists → bits_hash g coordinate windows lists left ≡ Ok hash
    → bits_hash g coordinate windows lists right ≡ Ok hash
    → signed_combination g (bit_coefficients windows left right) elements ≡ g.identity

-- where the segments fit the order, as many bits whose coefficients are all multiples of it are the same
abbrev pub BitRelationsAreSome : {W : Type 0} → ℕ → Windows W → Type 0
BitRelationsAreSome order windows =
    is_fitting order windows.WINDOW_SIZE ≡ true → (left right : List Bool) → length left ≡ length right
    → length left ≤ 3 * (windows.WINDOW_SIZE * windows.NUM_WINDOWS)
    → AreAllMultiples order (bit_coefficients windows left right) → left ≡ right

-- ---- nodes of a tree

-- two nodes and their level
pub record Children : Type 0 where
  pub level : ℕ
  pub left : ℕ
  pub right : ℕ

-- their bits
abbrev pub bits_in : Children → List Bool
bits_in children = node_bits children.level children.left children.right

-- all of the level and of both nodes is in these bits
pub record AreInBits (children : Children) : Type 0 where
  pub level : children.level < 64
  pub left : children.left < 2 ^ 255
  pub right : children.right < 2 ^ 255

-- where two couples of nodes have one hash, the combination of the elements by their coefficients is zero
abbrev pub NodesGiveRelations : {G W : Type 0} → Group G → (G → ℕ) → Windows W → Type 0
NodesGiveRelations {G} g coordinate windows =
    (elements : List G) (lists : List (List G)) (a b : Children) (hash : ℕ)
    → AreSegmentsOf g windows elements lists
    → node_hash g coordinate windows lists a.level a.left a.right ≡ Ok hash
    → node_hash g coordinate windows lists b.level b.left b.right ≡ Ok hash
    → signed_combination g (bit_coefficients windows (bits_in a) (bits_in b)) elements ≡ g.identity

-- where the segments fit the order and hold all bits, couples whose coefficients are all multiples of it are the same
abbrev pub NodeRelationsAreSome : {W : Type 0} → ℕ → Windows W → Type 0
NodeRelationsAreSome order windows =
    is_fitting order windows.WINDOW_SIZE ≡ true → 516 ≤ 3 * (windows.WINDOW_SIZE * windows.NUM_WINDOWS)
    → (a b : Children) → AreInBits a → AreInBits b
    → AreAllMultiples order (bit_coefficients windows (bits_in a) (bits_in b))
    → (a.level ≡ b.level) × (a.left ≡ b.left) × (a.right ≡ b.right)

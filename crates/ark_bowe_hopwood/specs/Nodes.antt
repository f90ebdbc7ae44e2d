-- Hashes of two nodes of a Merkle tree and their level. Zcash's protocol specification, 5.4.1.3.
use Rattle.std.specs.Prelude.{ℕ, Bool, List, [], ◌∷◌, ◌++◌, get_or, nat_lt, Err, if◌then◌else◌}
use Rattle.ark_base.specs.Outcome.{Outcome}
use Rattle.ark_base.specs.declared.error.Error.TheVariants.{GenericError}
use Rattle.ark_base.specs.declared.error.Refusal.TheVariants.{LengthOverflow}
use Rattle.ark_groups.specs.Bits.{bits_of_number}
use Rattle.ark_groups.specs.Group.{Group}
use Rattle.ark_pedersen.specs.Pedersen.{seen_by}
use Rattle.ark_pedersen.specs.declared.window.Window.{Ghosts as Windows}
use Rattle.ark_bowe_hopwood.specs.BitHashes.{bits_hash}

-- what is seen of a hash's parameters: a level, and the lists of elements
pub record Leveled (G : Type 0) : Type 0 where
  pub level : ℕ
  pub lists : List (List G)

-- the bits of two nodes and their level: 6 of the level, then the lowest 255 of the left node, then those of the right
unfoldable pub node_bits : ℕ → ℕ → ℕ → List Bool
node_bits level left right = bits_of_number 6 level ++ (bits_of_number 255 left ++ bits_of_number 255 right)

-- the hash of these bits, refused where the level has more than 6 of them
abbrev pub node_hash : {G W : Type 0} → Group G → (G → ℕ) → Windows W → List (List G) → ℕ → ℕ → ℕ → Outcome ℕ
node_hash g coordinate windows lists level left right =
    if nat_lt level 64 then bits_hash g coordinate windows lists (node_bits level left right)
    else Err (GenericError LengthOverflow)

-- the hash of two nodes of a level, each of them the number of a first coordinate alone
abbrev pub leveled_hash : {G W : Type 0} → Group G → (G → ℕ) → Windows W → List (List G)
    → ℕ → List ℕ → List ℕ → Outcome (List ℕ)
leveled_hash g coordinate windows lists level left right =
    seen_by (λ x. x ∷ []) (node_hash g coordinate windows lists level (get_or left 0 0) (get_or right 0 0))

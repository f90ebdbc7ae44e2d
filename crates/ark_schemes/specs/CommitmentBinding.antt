-- What two openings of one Pedersen commitment give: a relation among its elements.
use Rattle.std.specs.Prelude.{◌≡◌, ℕ, List, ◌∷◌, length}
use Rattle.ark_groups.specs.Group.{Group}
use Rattle.ark_pedersen.specs.Binding.{combination}
use Rattle.ark_pedersen.specs.declared.window.Window.{Ghosts as Windows}
use Rattle.ark_schemes.specs.PedersenCommitments.{windows_commitment}

-- an input and a randomness
pub record Opening : Type 0 where
  pub input : List ℕ
  pub randomness : ℕ

-- whatever the elements are: where two openings have one commitment, this combination of the randomness element and the
-- windows' elements is zero
abbrev pub IsCommitmentRelation : {G W : Type 0} → Group G → Windows W → List ℕ → Opening → Opening → Type 0
IsCommitmentRelation {G} g windows coefficients left right =
    (element : G) (elements : List G) → length elements ≡ windows.NUM_WINDOWS
    → windows_commitment g windows element elements left.input left.randomness
    ≡ windows_commitment g windows element elements right.input right.randomness
    → combination g coefficients (element ∷ elements) ≡ g.identity

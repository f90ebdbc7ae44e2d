-- The first node of each level that is not complete.
use Rattle.std.proofs.Common.{Bool, true, false, if◌then◌else◌, ◌≡◌, ℕ, zero, suc, ◌+◌, ◌-◌, ◌*◌, ◌/◌, ◌%◌, ◌^◌, ◌<◌, ◌≤◌, List, [], length, get_or, Ok, Err, arith, refl, ap, sym, ◌∙◌, inl, inr}
use Rattle.std.proofs.lemmas.Bool.{cases_lt, eqb-true, eqb-false}
use Rattle.ark_base.specs.Outcome.{Outcome}
use Rattle.ark_base.specs.declared.error.Error.{Error}
use Rattle.ark_paths.specs.Index.{bit_at}
use Rattle.ark_paths.specs.Pair.{Digest}
use Rattle.incremental_trees.specs.Nodes.{LevelHash, node_at}
use Rattle.incremental_trees.specs.Incremental.{AreEmpty, AreFilled, last_left}
use Rattle.incremental_trees.proofs.LevelNodes.{node-empty, node-above, node-left_refused, node-right_refused}
use Rattle.incremental_trees.proofs.Halves.{half-up, complete_inside, place_outside}

-- a tree's leaves, and the nodes that it keeps
pub record IsKept (hash : LevelHash) (empty : Digest) (leaves : List Digest) (size depth : ℕ)
    (empties filled : List Digest) : Type 0 where
  pub long : length leaves ≡ size
  pub empties_are : AreEmpty hash empty depth empties
  pub filled_are : AreFilled hash empty leaves depth filled

module _ {hash : LevelHash} {empty : Digest} {leaves : List Digest} {size depth : ℕ} {empties filled : List Digest}
    (kept : IsKept hash empty leaves size depth empties filled) where
  abbrev pub edge : ℕ → ℕ
  edge level = size / 2 ^ level

  edge-up : (level : ℕ) (outcome : Outcome Digest)
      → node_at hash empty leaves (suc level) (edge level / 2) ≡ outcome
      → node_at hash empty leaves (suc level) (edge (suc level)) ≡ outcome
  edge-up level outcome is = ap (node_at hash empty leaves (suc level)) (half-up size level) ∙ is

  -- On a level where an odd number of nodes is complete, the last of them stands left of the edge.
  pub left-of_edge : (level : ℕ) → level ≤ depth → edge level % 2 ≡ 1
      → node_at hash empty leaves level (2 * (edge level / 2)) ≡ Ok (get_or filled level [])
  left-of_edge level le odd =
      let one : 1 * 2 ^ level ≤ size = complete_inside level size 1 (omega arith) in
      let last : last_left level size ≡ 2 * (edge level / 2) = omega arith in
      ap (node_at hash empty leaves level) (sym (ap (last_left level) kept.long ∙ last))
      ∙ kept.filled_are.at level le (omega (arith, kept.long))

  -- The node to the right of the edge has no leaf.
  pub right-of_edge : (level : ℕ) → level ≤ depth
      → node_at hash empty leaves level (edge level + 1) ≡ Ok (get_or empties level [])
  right-of_edge level le =
      node-empty hash empty leaves level (edge level + 1) (omega (arith, kept.long, place_outside level size))
      ∙ kept.empties_are.at level le

  pub edge-odd : (level : ℕ) (node : Digest) (outcome : Outcome Digest) → level ≤ depth → edge level % 2 ≡ 1
      → node_at hash empty leaves level (edge level) ≡ Ok node → hash level (get_or filled level []) node ≡ outcome
      → node_at hash empty leaves (suc level) (edge (suc level)) ≡ outcome
  edge-odd level node outcome le odd is hashed =
      let next : 2 * (edge level / 2) + 1 ≡ edge level = omega arith in
      edge-up level outcome
      (node-above hash empty leaves level (edge level / 2) (get_or filled level []) node (left-of_edge level le odd)
      (ap (node_at hash empty leaves level) next ∙ is) ∙ hashed)

  pub edge-even : (level : ℕ) (node : Digest) (outcome : Outcome Digest) → level ≤ depth → edge level % 2 ≡ 0
      → node_at hash empty leaves level (edge level) ≡ Ok node → hash level node (get_or empties level []) ≡ outcome
      → node_at hash empty leaves (suc level) (edge (suc level)) ≡ outcome
  edge-even level node outcome le even is hashed =
      let same : 2 * (edge level / 2) ≡ edge level = omega arith in
      edge-up level outcome
      (node-above hash empty leaves level (edge level / 2) node (get_or empties level [])
      (ap (node_at hash empty leaves level) same ∙ is)
      (ap (λ n. node_at hash empty leaves level (n + 1)) same ∙ right-of_edge level le) ∙ hashed)

  edge-refused : (level : ℕ) (error : Error) → level ≤ depth
      → node_at hash empty leaves level (edge level) ≡ Err error
      → node_at hash empty leaves (suc level) (edge (suc level)) ≡ Err error
  edge-refused level error le is = elim (cases_lt (edge level % 2) 1) [
    | inl even ↦
        let same : 2 * (edge level / 2) ≡ edge level = omega arith in
        edge-up level (Err error) (node-left_refused hash empty leaves level (edge level / 2) error
        (ap (node_at hash empty leaves level) same ∙ is))
    | inr odd ↦
        let next : 2 * (edge level / 2) + 1 ≡ edge level = omega arith in
        edge-up level (Err error) (node-right_refused hash empty leaves level (edge level / 2)
        (get_or filled level []) error (left-of_edge level le (omega arith))
        (ap (node_at hash empty leaves level) next ∙ is))
  ]

  -- What is refused on the edge is so further up.
  pub refused-up : (level more : ℕ) (error : Error) → level + more ≤ depth + 1
      → node_at hash empty leaves level (edge level) ≡ Err error
      → node_at hash empty leaves (more + level) (edge (more + level)) ≡ Err error
  refused-up level zero error le is =
      let same : zero + level ≡ level = omega arith in ap (λ n. node_at hash empty leaves n (edge n)) same ∙ is
  refused-up level (suc more) error le is =
      let up : suc more + level ≡ suc (more + level) = omega arith in
      ap (λ n. node_at hash empty leaves n (edge n)) up
      ∙ edge-refused (more + level) error (omega arith) (refused-up level more error (omega arith) is)

  -- Where no leaf stands on the edge of a level, its node is that of a tree without leaves.
  pub edge-empty : (level : ℕ) → level ≤ depth → size ≡ edge level * 2 ^ level
      → node_at hash empty leaves level (edge level) ≡ Ok (get_or empties level [])
  edge-empty level le whole =
      node-empty hash empty leaves level (edge level) (omega (arith, kept.long)) ∙ kept.empties_are.at level le

  -- The node on the edge a level further up, by the bit of the size.
  pub edge-step : (level : ℕ) (node left right : Digest) (outcome : Outcome Digest) → level ≤ depth
      → node_at hash empty leaves level (edge level) ≡ Ok node → get_or filled level [] ≡ left
      → get_or empties level [] ≡ right
      → (if bit_at size level then hash level left node else hash level node right) ≡ outcome
      → node_at hash empty leaves (suc level) (edge (suc level)) ≡ outcome
  edge-step level node left right outcome le is read_left read_right hashed =
      by_bit (bit_at size level) refl hashed
    where
      by_bit : (bit : Bool) → bit_at size level ≡ bit
          → (if bit then hash level left node else hash level node right) ≡ outcome
          → node_at hash empty leaves (suc level) (edge (suc level)) ≡ outcome
      by_bit true set made = edge-odd level node outcome le (eqb-true (edge level % 2) 1 set) is
          (ap (λ d. hash level d node) read_left ∙ made)
      by_bit false unset made =
          let even : edge level % 2 ≡ 1 → ⊥ = eqb-false (edge level % 2) 1 unset in
          edge-even level node outcome le (omega arith) is (ap (hash level node) read_right ∙ made)

  -- Where the next node on the edge is refused, so is each further up.
  pub edge-refused_at : (level top : ℕ) (node left right : Digest) (error : Error) → level < top → top ≤ depth
      → node_at hash empty leaves level (edge level) ≡ Ok node → get_or filled level [] ≡ left
      → get_or empties level [] ≡ right
      → (if bit_at size level then hash level left node else hash level node right) ≡ Err error
      → node_at hash empty leaves top (edge top) ≡ Err error
  edge-refused_at level top node left right error below le is read_left read_right hashed =
      let there : top ≡ top - suc level + suc level = omega arith in
      ap (λ n. node_at hash empty leaves n (edge n)) there
      ∙ refused-up (suc level) (top - suc level) error (omega arith)
      (edge-step level node left right (Err error) (omega arith) is read_left read_right hashed)

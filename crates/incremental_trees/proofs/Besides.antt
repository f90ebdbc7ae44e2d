-- Nodes beside the way of a leaf.
use Rattle.std.proofs.Common.{Bool, true, false, if◌then◌else◌, ◌≡◌, ◌≢◌, ℕ, zero, suc, ◌+◌, ◌-◌, ◌*◌, ◌/◌, ◌%◌, ◌^◌, ◌<◌, ◌≤◌, List, [], ◌∷◌, ◌++◌, length, get_or, set, take, Ok, Err, arith, refl, ap, sym, subst, ◌∙◌, inl, inr, length-append}
use Rattle.std.proofs.lemmas.Bool.{cases_lt, cases_eq, eqb-true, eqb-false}
use Rattle.std.proofs.lemmas.List.{get_or-set_same, get_or-set_other, get_or-take, length-set, length-take-le}
use Rattle.std.proofs.lemmas.Nat.{pow_pos, shr_high, shr-shr, div_below}
use Rattle.std.proofs.Math.Pow.{shr_mono}
use Rattle.ark_base.specs.declared.error.Error.{Error}
use Rattle.ark_paths.specs.Index.{bit_at, neighbour}
use Rattle.ark_paths.specs.Pair.{Digest}
use Rattle.incremental_trees.specs.Nodes.{LevelHash, node_at, nodes_beside}
use Rattle.incremental_trees.specs.Incremental.{AreFilled, HoldsLeaves, IncrementalValue, last_left}
use Rattle.incremental_trees.specs.KeptPaths.{AreCompleted, CompletedValue, HasBeside, IsKeptPath, KeptPathValue}
use Rattle.incremental_trees.proofs.Halves.{complete_inside, place_outside}
use Rattle.incremental_trees.proofs.LevelNodes.{node-same}

-- a place and its neighbour, by the place's lowest bit
pub record IsBeside (odd : Bool) (place : ℕ) : Type 0 where
  pub place_is : place ≡ (if odd then 2 * (place / 2) + 1 else 2 * (place / 2))
  pub beside_is : neighbour place ≡ (if odd then 2 * (place / 2) else 2 * (place / 2) + 1)

beside_by : (place : ℕ) (odd : Bool) → bit_at place 0 ≡ odd → IsBeside odd place
beside_by place true is =
    let odd : (place / 2 ^ 0) % 2 ≡ 1 = eqb-true ((place / 2 ^ 0) % 2) 1 is in
    record { place_is = omega arith; beside_is = rw is (omega arith) }
beside_by place false is =
    let even : (place / 2 ^ 0) % 2 ≡ 1 → ⊥ = eqb-false ((place / 2 ^ 0) % 2) 1 is in
    record { place_is = omega arith; beside_is = rw is (omega arith) }

pub is_beside : (place : ℕ) → IsBeside (bit_at place 0) place
is_beside place = beside_by place (bit_at place 0) refl

apart_by : (place : ℕ) (odd : Bool) → IsBeside odd place → neighbour place ≢ place
apart_by place true b same = omega (arith, b.place_is, b.beside_is)
apart_by place false b same = omega (arith, b.place_is, b.beside_is)

half_by : (place : ℕ) (odd : Bool) → IsBeside odd place → neighbour place / 2 ≡ place / 2
half_by place true b = omega (arith, b.beside_is)
half_by place false b = omega (arith, b.beside_is)

pub beside-apart : (place : ℕ) → neighbour place ≢ place
beside-apart place = apart_by place (bit_at place 0) (is_beside place)

pub beside-half : (place : ℕ) → neighbour place / 2 ≡ place / 2
beside-half place = half_by place (bit_at place 0) (is_beside place)

-- Two ways are one from the level on above which they are beside each other.
pub ways-join : (index other level more : ℕ) → neighbour (index / 2 ^ level) ≡ other / 2 ^ level
    → index / 2 ^ (level + suc more) ≡ other / 2 ^ (level + suc more)
ways-join index other level more is =
    let sum : suc more ≡ 1 + more = omega arith in
    let down : (n : ℕ) → n / 2 ^ (level + suc more) ≡ n / 2 ^ level / 2 / 2 ^ more = λ n.
    sym (shr-shr n level (suc more)) ∙ ap (λ k. n / 2 ^ level / 2 ^ k) sum ∙ sym (shr-shr (n / 2 ^ level) 1 more)
    in
    down index ∙ ap (λ n. n / 2 ^ more) (sym (beside-half (index / 2 ^ level)) ∙ ap (λ n. n / 2) is) ∙ sym (down other)

-- They are beside each other on one level alone.
pub one-level : (index other level k : ℕ) → neighbour (index / 2 ^ level) ≡ other / 2 ^ level → level < k
    → neighbour (index / 2 ^ k) ≢ other / 2 ^ k
one-level index other level k is below again =
    let there : level + suc (k - level - 1) ≡ k = omega arith in
    let joined : index / 2 ^ k ≡ other / 2 ^ k =
    subst (λ (n : ℕ). index / 2 ^ n ≡ other / 2 ^ n) there (ways-join index other level (k - level - 1) is) in
    beside-apart (index / 2 ^ k) (again ∙ sym joined)

-- the place of the node that the last of so many leaves completes
pub last-place : (index place level : ℕ) → (place + 1) * 2 ^ level ≡ index + 1 → index / 2 ^ level ≡ place
last-place index place level whole =
    let low : index ≡ place * 2 ^ level + (2 ^ level - 1) = omega (arith, pow_pos level) in
    ap (λ n. n / 2 ^ level) low ∙ shr_high place level (2 ^ level - 1) (omega (arith, pow_pos level))

-- ---- what a leaf completes is taken up

-- the place beside a path's way on a level
abbrev pub beside_at : KeptPathValue → ℕ → ℕ
beside_at path level = neighbour (path.index / 2 ^ level)

module _ {hash : LevelHash} {empty : Digest} {leaves : List Digest} (leaf : Digest) {depth : ℕ} {path : KeptPathValue}
    {completed : CompletedValue} (own : IsKeptPath hash empty leaves depth path)
    (made : AreCompleted hash empty (leaves ++ (leaf ∷ [])) completed) where
  one_more : length (leaves ++ (leaf ∷ [])) ≡ length leaves + 1
  one_more = length-append leaves (leaf ∷ [])

  -- Of the levels on which nothing was completed beside the way, the node stays.
  stays : (level : ℕ) → level < depth → (beside_at path level + 1) * 2 ^ level ≤ length leaves
      → node_at hash empty (leaves ++ (leaf ∷ [])) level (beside_at path level) ≡ Ok (get_or path.nodes level [])
  stays level below inside =
      node-same hash empty leaves (leaf ∷ []) level (beside_at path level) inside ∙ own.complete level below inside

  -- A node that is complete since this leaf stands on the way of the leaf.
  met : (level : ℕ) → length leaves < (beside_at path level + 1) * 2 ^ level
      → (beside_at path level + 1) * 2 ^ level ≤ length (leaves ++ (leaf ∷ []))
      → (beside_at path level + 1) * 2 ^ level ≡ length (leaves ++ (leaf ∷ []))
  met level above inside = omega (arith, one_more)

  -- On the level at which the way of the new leaf is beside it, the node was not complete before.
  late : (level : ℕ) → beside_at path level ≡ completed.index / 2 ^ level
      → length leaves < (beside_at path level + 1) * 2 ^ level
  late level is =
      let last : length leaves ≡ completed.index = omega (arith, one_more, made.last) in
      let outside = place_outside level (length leaves) in
      let same : beside_at path level ≡ length leaves / 2 ^ level = is ∙ ap (λ n. n / 2 ^ level) (sym last) in
      omega (arith, outside, ap (λ n. (n + 1) * 2 ^ level) same)

  module _ (count : ℕ) (long : count ≤ length path.nodes) (some : count ≤ length completed.nodes)
      (least : (level : ℕ) → level < length path.nodes → level < length completed.nodes → level < count)
      (level : ℕ) (only : (k : ℕ) → k < count → k ≢ level → beside_at path k ≢ completed.index / 2 ^ k) where
    fresh : (k : ℕ) → k < depth → length leaves < (beside_at path k + 1) * 2 ^ k
        → (beside_at path k + 1) * 2 ^ k ≤ length (leaves ++ (leaf ∷ []))
        → (k < count) × (k ≡ level) × (node_at hash empty (leaves ++ (leaf ∷ [])) k (beside_at path k)
        ≡ Ok (get_or completed.nodes k []))
    fresh k below above inside =
        let whole = met k above inside in
        let there = made.all k (beside_at path k) whole in
        let here = least k (omega (arith, own.long)) there in
        let place = last-place completed.index (beside_at path k) k (whole ∙ made.last) in
        let same : k ≡ level = elim (cases_eq k level) [
          | inl is ↦ is
          | inr apart ↦ absurd (only k here apart (sym place))
        ] in
        (here, same, ap (node_at hash empty (leaves ++ (leaf ∷ [])) k) (sym place) ∙ made.at k there)

    -- The path follows by the node on this level.
    pub followed : (nodes : List Digest) → level < count → beside_at path level ≡ completed.index / 2 ^ level
        → nodes ≡ set path.nodes level (get_or completed.nodes level [])
        → IsKeptPath hash empty (leaves ++ (leaf ∷ [])) depth (record { index = path.index; nodes = nodes })
    followed nodes within found is = record {
      inside = omega (arith, one_more, own.inside);
      long = ap length is ∙ length-set path.nodes level (get_or completed.nodes level []) ∙ own.long;
      complete = λ k below inside. elim (cases_lt (length leaves) ((beside_at path k + 1) * 2 ^ k)) [
        | inl above ↦
            let new = fresh k below above inside in
            let put : get_or nodes k [] ≡ get_or completed.nodes k [] =
            ap (λ l. get_or l k []) is
            ∙ ap (λ n. get_or (set path.nodes level (get_or completed.nodes level [])) n []) new.1
            ∙ get_or-set_same path.nodes level (get_or completed.nodes level []) [] (omega arith)
            ∙ ap (λ n. get_or completed.nodes n []) (sym new.1) in
            new.2 ∙ ap Ok (sym put)
        | inr old ↦
            let apart : k ≢ level = λ same. absurd (omega (
              arith,
              late level found,
              ap (λ n. (beside_at path n + 1) * 2 ^ n) same,
            )) in
            stays k below old ∙ ap Ok (sym (ap (λ l. get_or l k []) is
            ∙ get_or-set_other path.nodes level k (get_or completed.nodes level []) [] apart))
      ];
    }

    -- The path follows as it is where no node on its levels was completed beside it.
    pub unchanged : count ≤ level → IsKeptPath hash empty (leaves ++ (leaf ∷ [])) depth path
    unchanged past = record {
      inside = omega (arith, one_more, own.inside);
      long = own.long;
      complete = λ k below inside. elim (cases_lt (length leaves) ((beside_at path k + 1) * 2 ^ k)) [
        | inl above ↦ let new = fresh k below above inside in absurd (omega (arith, new.0, new.1))
        | inr old ↦ stays k below old
      ];
    }

-- ---- the path of the last leaf

module _ {hash : LevelHash} {empty : Digest} {leaves : List Digest} {depth : ℕ} {filled : List Digest}
    (filled_are : AreFilled hash empty leaves depth filled) (index : ℕ) (last : index + 1 ≡ length leaves) where
  own_left : (level : ℕ) (odd : Bool) → IsBeside odd (index / 2 ^ level) → level ≤ depth
      → (neighbour (index / 2 ^ level) + 1) * 2 ^ level ≤ length leaves
      → node_at hash empty leaves level (neighbour (index / 2 ^ level)) ≡ Ok (get_or filled level [])
  own_left level true b le inside =
      let m = index / 2 ^ level in
      let n = length leaves / 2 ^ level in
      let low : m ≤ n = shr_mono level (omega arith) in
      let next : length leaves < (m + 2) * 2 ^ level = omega (arith, place_outside level index, pow_pos level) in
      let high : n < m + 2 = div_below (length leaves) (2 ^ level) (m + 2) (pow_pos level) next in
      let same : last_left level (length leaves) ≡ neighbour m = omega (arith, b.place_is, b.beside_is) in
      let one : 1 * 2 ^ level ≤ length leaves = complete_inside level (length leaves) 1 (omega (arith, b.place_is)) in
      ap (node_at hash empty leaves level) (sym same) ∙ filled_are.at level le (omega arith)
  own_left level false b le inside =
      let m = index / 2 ^ level in
      let next : neighbour m ≡ m + 1 = omega (arith, b.place_is, b.beside_is) in
      let past = ap (λ n. (n + 1) * 2 ^ level) next in
      absurd (omega (arith, place_outside level index, pow_pos level, past))

  pub last-beside : (level : ℕ) → level ≤ depth → HasBeside hash empty leaves index level filled
  last-beside level le inside =
      own_left level (bit_at (index / 2 ^ level) 0) (is_beside (index / 2 ^ level)) le inside

-- The last leaf's path has the nodes that stand left.
pub last-kept : {T : Type 0} {hash : LevelHash} {leaves : List Digest} {tree : IncrementalValue T}
    → HoldsLeaves hash leaves tree → length tree.filled ≡ tree.depth + 1 → (index : ℕ) → index + 1 ≡ tree.size
    → (nodes : List Digest) → nodes ≡ take tree.depth tree.filled
    → IsKeptPath hash tree.empty leaves tree.depth (record { index = index; nodes = nodes })
last-kept {T} {hash} {leaves} {tree} holds long index last nodes is = record {
  inside = omega (arith, holds.size_is);
  long = ap length is ∙ length-take-le tree.depth tree.filled (omega arith);
  complete = λ level below inside.
      last-beside holds.filled index (last ∙ sym holds.size_is) level (omega arith) inside
      ∙ ap Ok (sym (ap (λ l. get_or l level []) is ∙ get_or-take tree.depth tree.filled level [] below));
}

-- ---- all nodes beside a way

module _ (hash : LevelHash) (empty : Digest) (leaves : List Digest) (index : ℕ) where
  pub beside-more : (level : ℕ) (below : List Digest) (node : Digest)
      → nodes_beside hash empty leaves level index ≡ Ok below
      → node_at hash empty leaves level (neighbour (index / 2 ^ level)) ≡ Ok node
      → nodes_beside hash empty leaves (suc level) index ≡ Ok (below ++ (node ∷ []))
  beside-more level below node is own = rw (is, own) refl

  beside-refused_here : (level : ℕ) (below : List Digest) (error : Error)
      → nodes_beside hash empty leaves level index ≡ Ok below
      → node_at hash empty leaves level (neighbour (index / 2 ^ level)) ≡ Err error
      → nodes_beside hash empty leaves (suc level) index ≡ Err error
  beside-refused_here level below error is own = rw (is, own) refl

  beside-refused_above : (level more : ℕ) (error : Error) → nodes_beside hash empty leaves level index ≡ Err error
      → nodes_beside hash empty leaves (more + level) index ≡ Err error
  beside-refused_above level zero error is =
      let same : zero + level ≡ level = omega arith in ap (λ n. nodes_beside hash empty leaves n index) same ∙ is
  beside-refused_above level (suc more) error is =
      let up : suc more + level ≡ suc (more + level) = omega arith in
      ap (λ n. nodes_beside hash empty leaves n index) up ∙ rw (beside-refused_above level more error is) refl

  pub beside-refused : (level depth : ℕ) (below : List Digest) (error : Error) → level < depth
      → nodes_beside hash empty leaves level index ≡ Ok below
      → node_at hash empty leaves level (neighbour (index / 2 ^ level)) ≡ Err error
      → nodes_beside hash empty leaves depth index ≡ Err error
  beside-refused level depth below error lower is own =
      let there : depth ≡ depth - suc level + suc level = omega arith in
      ap (λ n. nodes_beside hash empty leaves n index) there
      ∙ beside-refused_above (suc level) (depth - suc level) error (beside-refused_here level below error is own)

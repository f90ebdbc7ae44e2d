-- A leaf more, and the nodes that it completes.
use Rattle.std.proofs.Common.{◌≡◌, ◌≢◌, ℕ, suc, ◌+◌, ◌-◌, ◌*◌, ◌/◌, ◌%◌, ◌^◌, ◌<◌, ◌≤◌, List, [], ◌∷◌, ◌++◌, length, get_or, set, Ok, Err, arith, ap, sym, subst, ◌∙◌, inl, inr, length-append}
use Rattle.std.proofs.lemmas.Bool.{cases_lt}
use Rattle.std.proofs.lemmas.List.{get_or_push, get_or-set_same, get_or-set_other}
use Rattle.std.proofs.Math.Nat.{pow-suc}
use Rattle.ark_base.specs.Outcome.{Outcome}
use Rattle.ark_base.specs.declared.error.Error.{Error}
use Rattle.ark_paths.specs.Pair.{Digest}
use Rattle.incremental_trees.specs.Nodes.{LevelHash, node_at}
use Rattle.incremental_trees.specs.Incremental.{AreFilled, CarriesTo, HoldsLeaves, IncrementalValue, RefusesComplete, last_left}
use Rattle.incremental_trees.proofs.LevelNodes.{node-same, node-above}
use Rattle.incremental_trees.proofs.Halves.{half-up, count-at, count-below, count-above, complete_inside, some_complete}

-- A leaf behind so many completed nodes up to a level: the place and the node there.
pub record IsCarried (hash : LevelHash) (depth size : ℕ) (leaf : Digest) (filled : List Digest) (count level : ℕ)
    (node : Digest) : Type 0 where
  pub place : count ≡ size / 2 ^ level
  pub complete : size + 1 ≡ (count + 1) * 2 ^ level
  pub node_is : (empty : Digest) (leaves : List Digest) → length leaves ≡ size
      → AreFilled hash empty leaves depth filled
      → node_at hash empty (leaves ++ (leaf ∷ [])) level count ≡ Ok node

pub carried-first : (hash : LevelHash) (depth size : ℕ) (leaf : Digest) (filled : List Digest)
    → IsCarried hash depth size leaf filled size 0 leaf
carried-first hash depth size leaf filled = record {
  place = omega arith;
  complete = omega arith;
  node_is = λ empty leaves long filled_is. ap Ok (get_or_push leaves leaf empty size long);
}

module _ {hash : LevelHash} {depth size : ℕ} {leaf : Digest} {filled : List Digest} {count level : ℕ} {node : Digest}
    (at : IsCarried hash depth size leaf filled count level node) where
  module _ (odd : count % 2 ≡ 1) (below : level ≤ depth) where
    complete-up : size + 1 ≡ (count / 2 + 1) * 2 ^ suc level
    complete-up =
        let twice : count + 1 ≡ 2 * (count / 2 + 1) = omega arith in
        at.complete ∙ ap (λ n. n * 2 ^ level) twice ∙ rw (pow-suc 2 level) (omega arith)

    above : (outcome : Outcome Digest) → hash level (get_or filled level []) node ≡ outcome → (empty : Digest)
        (leaves : List Digest) → length leaves ≡ size → AreFilled hash empty leaves depth filled
        → node_at hash empty (leaves ++ (leaf ∷ [])) (suc level) (count / 2) ≡ outcome
    above outcome is empty leaves long filled_is =
        let more = leaves ++ (leaf ∷ []) in
        let whole : size / 2 ^ level ≡ count = sym at.place in
        let one : 1 * 2 ^ level ≤ size = complete_inside level size 1 (omega arith) in
        let all : count * 2 ^ level ≤ size = complete_inside level size count (omega arith) in
        let last : last_left level (length leaves) ≡ 2 * (count / 2) =
        ap (last_left level) long ∙ ap (λ n. 2 * ((n - 1) / 2)) whole ∙ omega arith in
        let next : 2 * (count / 2) + 1 ≡ count = omega arith in
        let inside : (2 * (count / 2) + 1) * 2 ^ level ≤ length leaves =
        omega (arith, ap (λ n. n * 2 ^ level) next) in
        let left = node-same hash empty leaves (leaf ∷ []) level (2 * (count / 2)) inside
        ∙ ap (node_at hash empty leaves level) (sym last) ∙ filled_is.at level below (omega arith) in
        let right = ap (node_at hash empty more level) next ∙ at.node_is empty leaves long filled_is in
        node-above hash empty more level (count / 2) (get_or filled level []) node left right ∙ is

    pub carried-next : (next : Digest) → hash level (get_or filled level []) node ≡ Ok next
        → IsCarried hash depth size leaf filled (count / 2) (level + 1) next
    carried-next next is =
        let up : suc level ≡ level + 1 = omega arith in
        record {
          place = ap (λ n. n / 2) at.place ∙ sym (half-up size level) ∙ ap (λ n. size / 2 ^ n) up;
          complete = complete-up ∙ ap (λ n. (count / 2 + 1) * 2 ^ n) up;
          node_is = λ empty leaves long filled_is.
              ap (λ n. node_at hash empty (leaves ++ (leaf ∷ [])) n (count / 2)) (sym up)
              ∙ above (Ok next) is empty leaves long filled_is;
        }

    pub carried-refused : (error : Error) → hash level (get_or filled level []) node ≡ Err error → (empty : Digest)
        (leaves : List Digest) → length leaves ≡ size → AreFilled hash empty leaves depth filled
        → RefusesComplete hash empty (leaves ++ (leaf ∷ [])) error
    carried-refused error is empty leaves long filled_is = record {
      level = suc level;
      place = count / 2;
      complete = length-append leaves (leaf ∷ []) ∙ ap (λ n. n + 1) long ∙ complete-up;
      refused = above (Err error) is empty leaves long filled_is;
    }

  pub carries_to : count % 2 ≡ 0 → CarriesTo size level
  carries_to even = record {
    complete = at.complete ∙ ap (λ n. (n + 1) * 2 ^ level) at.place;
    left = ap (λ n. n % 2) (sym at.place) ∙ even;
  }

  pub carried-node : (empty : Digest) (leaves : List Digest) → length leaves ≡ size
      → AreFilled hash empty leaves depth filled
      → node_at hash empty (leaves ++ (leaf ∷ [])) level (size / 2 ^ level) ≡ Ok node
  carried-node empty leaves long filled_is =
      ap (node_at hash empty (leaves ++ (leaf ∷ [])) level) (sym at.place) ∙ at.node_is empty leaves long filled_is

-- ---- the nodes that are kept of the leaves with one more

module _ {hash : LevelHash} {empty : Digest} {leaves : List Digest} {depth : ℕ} {filled : List Digest}
    (filled_is : AreFilled hash empty leaves depth filled) (leaf node : Digest) where
  -- The node of another level stays.
  other-level : (level k : ℕ) → k ≢ level → k ≤ depth → 1 ≤ length leaves / 2 ^ k
      → last_left k (length leaves + 1) ≡ last_left k (length leaves)
      → node_at hash empty (leaves ++ (leaf ∷ [])) k (last_left k (length (leaves ++ (leaf ∷ []))))
      ≡ Ok (get_or (set filled level node) k [])
  other-level level k apart le some same =
      let one : 1 * 2 ^ k ≤ length leaves = complete_inside k (length leaves) 1 some in
      let inside = complete_inside k (length leaves) (last_left k (length leaves) + 1) (omega arith) in
      ap (λ n. node_at hash empty (leaves ++ (leaf ∷ [])) k (last_left k n)) (length-append leaves (leaf ∷ []))
      ∙ ap (node_at hash empty (leaves ++ (leaf ∷ [])) k) same
      ∙ node-same hash empty leaves (leaf ∷ []) k (last_left k (length leaves)) inside
      ∙ filled_is.at k le (omega arith)
      ∙ ap Ok (sym (get_or-set_other filled level k node [] apart))

  pub filled-more : (level : ℕ) → level < length filled → CarriesTo (length leaves) level
      → node_at hash empty (leaves ++ (leaf ∷ [])) level (length leaves / 2 ^ level) ≡ Ok node
      → AreFilled hash empty (leaves ++ (leaf ∷ [])) depth (set filled level node)
  filled-more level inside carries is = record {
    at = λ k le some. elim (cases_lt k level) [
      | inl lower ↦ below k le lower
      | inr high ↦ elim (cases_lt level k) [
        | inl higher ↦ beyond k le higher some
        | inr low ↦ here k (omega arith)
      ]
    ];
  }
    where
      below : (k : ℕ) → k ≤ depth → k < level
          → node_at hash empty (leaves ++ (leaf ∷ [])) k (last_left k (length (leaves ++ (leaf ∷ []))))
          ≡ Ok (get_or (set filled level node) k [])
      below k le lower =
          let b = count-below carries k (level - k - 1) (omega arith) in
          other-level level k (omega arith) le (omega (arith, b.before)) (omega (arith, b.before, b.after))

      beyond : (k : ℕ) → k ≤ depth → level < k → 2 ^ k ≤ length (leaves ++ (leaf ∷ []))
          → node_at hash empty (leaves ++ (leaf ∷ [])) k (last_left k (length (leaves ++ (leaf ∷ []))))
          ≡ Ok (get_or (set filled level node) k [])
      beyond k le higher some =
          let same = count-above carries k (k - level - 1) (omega arith) in
          let enough = some_complete k (length leaves + 1) (omega (arith, length-append leaves (leaf ∷ []))) in
          other-level level k (omega arith) le (omega (arith, same, enough)) (ap (λ n. 2 * ((n - 1) / 2)) same)

      here : (k : ℕ) → k ≡ level
          → node_at hash empty (leaves ++ (leaf ∷ [])) k (last_left k (length (leaves ++ (leaf ∷ []))))
          ≡ Ok (get_or (set filled level node) k [])
      here k same =
          let last : last_left level (length leaves + 1) ≡ length leaves / 2 ^ level =
          ap (λ n. 2 * ((n - 1) / 2)) (count-at carries) ∙ omega (arith, carries.left) in
          ap (λ n. node_at hash empty (leaves ++ (leaf ∷ [])) n (last_left n (length (leaves ++ (leaf ∷ []))))) same
          ∙ ap (λ n. node_at hash empty (leaves ++ (leaf ∷ [])) level (last_left level n))
          (length-append leaves (leaf ∷ []))
          ∙ ap (node_at hash empty (leaves ++ (leaf ∷ [])) level) last
          ∙ is
          ∙ ap Ok (sym (get_or-set_same filled level node [] inside))
          ∙ ap (λ n. Ok (get_or (set filled level node) n [])) (sym same)

-- A tree with the node that a leaf completes has the leaf.
pub holds-more : {T : Type 0} {hash : LevelHash} {leaves : List Digest} {tree : IncrementalValue T} (leaf node : Digest)
    (level : ℕ) (filled : List Digest) → HoldsLeaves hash leaves tree → tree.size < 2 ^ tree.depth
    → level < length tree.filled → CarriesTo tree.size level
    → ((empty : Digest) (leaves : List Digest) → length leaves ≡ tree.size
    → AreFilled hash empty leaves tree.depth tree.filled
    → node_at hash empty (leaves ++ (leaf ∷ [])) level (tree.size / 2 ^ level) ≡ Ok node)
    → filled ≡ set tree.filled level node
    → HoldsLeaves {T = T} hash (leaves ++ (leaf ∷ [])) (record {
      hasher = tree.hasher;
      depth = tree.depth;
      size = tree.size + 1;
      empty = tree.empty;
      empties = tree.empties;
      filled = filled;
    })
holds-more {T} {hash} {leaves} {tree} leaf node level filled holds room inside carries made is =
    let long = length-append leaves (leaf ∷ []) in
    record {
      size_is = long ∙ ap (λ n. n + 1) holds.size_is;
      fits = omega (arith, long, holds.size_is);
      empties = holds.empties;
      filled = subst (AreFilled hash tree.empty (leaves ++ (leaf ∷ [])) tree.depth) (sym is)
          (filled-more holds.filled leaf node level inside (subst (λ n. CarriesTo n level) (sym holds.size_is) carries)
          (ap (λ n. node_at hash tree.empty (leaves ++ (leaf ∷ [])) level (n / 2 ^ level)) holds.size_is
          ∙ made tree.empty leaves holds.size_is holds.filled));
    }

-- Nodes of trees whose last leaves are empty.
use Rattle.std.proofs.Common.{◌≡◌, ℕ, zero, suc, ◌+◌, ◌-◌, ◌*◌, ◌^◌, ◌<◌, ◌≤◌, List, [], ◌∷◌, ◌++◌, length, map, get_or, Ok, Err, arith, refl, ap, sym, ◌∙◌, inl, inr}
use Rattle.std.proofs.lemmas.Bool.{cases_lt}
use Rattle.std.proofs.lemmas.List.{get_or_append_left, get_or_past, get_or_push, get_or-map}
use Rattle.std.proofs.Math.Nat.{pow-suc}
use Rattle.ark_base.specs.Outcome.{Outcome}
use Rattle.ark_base.specs.declared.error.Error.{Error}
use Rattle.ark_paths.specs.Pair.{Digest}
use Rattle.incremental_trees.specs.Incremental.{AreEmpty}
use Rattle.incremental_trees.specs.Nodes.{LevelHash, node_at}

-- twice the power, and twice the place
pub doubled_place : (place level : ℕ) → place * 2 ^ suc level ≡ 2 * place * 2 ^ level
doubled_place place level = rw (pow-suc 2 level) (omega arith)

pub doubled_next : (place level : ℕ) → (place + 1) * 2 ^ suc level ≡ (2 * place + 1 + 1) * 2 ^ level
doubled_next place level = rw (pow-suc 2 level) (omega arith)

module _ (hash : LevelHash) (empty : Digest) where
  -- A place behind all leaves has the node of a tree without leaves.
  pub node-empty : (leaves : List Digest) (level place : ℕ) → length leaves ≤ place * 2 ^ level
      → node_at hash empty leaves level place ≡ node_at hash empty [] level 0
  node-empty leaves zero place past = ap Ok (get_or_past leaves place empty (omega arith))
  node-empty leaves (suc level) place past =
      let left = node-empty leaves level (2 * place) (omega (arith, doubled_place place level)) in
      let right = node-empty leaves level (2 * place + 1) (omega (arith, doubled_place place level)) in
      let other = node-empty [] level 1 (omega arith) in
      rw (left, right, other) refl

  -- A node of leaves alone stays when leaves are put behind them.
  pub node-same : (leaves more : List Digest) (level place : ℕ) → (place + 1) * 2 ^ level ≤ length leaves
      → node_at hash empty (leaves ++ more) level place ≡ node_at hash empty leaves level place
  node-same leaves more zero place inside =
      ap Ok (get_or_append_left leaves more empty place (omega arith))
  node-same leaves more (suc level) place inside =
      let left = node-same leaves more level (2 * place) (omega (arith, doubled_next place level)) in
      let right = node-same leaves more level (2 * place + 1) (omega (arith, doubled_next place level)) in
      rw (left, right) refl

  -- A node is the hash of the two below it.
  pub node-above : (leaves : List Digest) (level place : ℕ) (left right : Digest)
      → node_at hash empty leaves level (2 * place) ≡ Ok left
      → node_at hash empty leaves level (2 * place + 1) ≡ Ok right
      → node_at hash empty leaves (suc level) place ≡ hash level left right
  node-above leaves level place left right l r = rw (l, r) refl

  -- Where the left node below is refused, so is the node.
  pub node-left_refused : (leaves : List Digest) (level place : ℕ) (error : Error)
      → node_at hash empty leaves level (2 * place) ≡ Err error
      → node_at hash empty leaves (suc level) place ≡ Err error
  node-left_refused leaves level place error l = rw l refl

  pub node-right_refused : (leaves : List Digest) (level place : ℕ) (left : Digest) (error : Error)
      → node_at hash empty leaves level (2 * place) ≡ Ok left
      → node_at hash empty leaves level (2 * place + 1) ≡ Err error
      → node_at hash empty leaves (suc level) place ≡ Err error
  node-right_refused leaves level place left error l r = rw (l, r) refl

  -- Where a level of a tree without leaves is refused, so is each level above it.
  pub empty-refused : (level more : ℕ) (error : Error) → node_at hash empty [] level 0 ≡ Err error
      → node_at hash empty [] (more + level) 0 ≡ Err error
  empty-refused level zero error is =
      let same : zero + level ≡ level = omega arith in ap (λ n. node_at hash empty [] n 0) same ∙ is
  empty-refused level (suc more) error is =
      let up : suc more + level ≡ suc (more + level) = omega arith in
      ap (λ n. node_at hash empty [] n 0) up
      ∙ node-left_refused [] (more + level) 0 error (empty-refused level more error is)

  -- The node of a tree without leaves, a level further up.
  pub empty-above : (level : ℕ) (node : Digest) (outcome : Outcome Digest) → node_at hash empty [] level 0 ≡ Ok node
      → hash level node node ≡ outcome → node_at hash empty [] (suc level) 0 ≡ outcome
  empty-above level node outcome is hashed =
      let beside : node_at hash empty [] level 1 ≡ Ok node = node-empty [] level 1 (omega arith) ∙ is in
      node-above [] level 0 node node is beside ∙ hashed

  pub empties-more : (level : ℕ) (digests : List Digest) (next : Digest) → length digests ≡ level + 1
      → AreEmpty hash empty level digests → hash level (get_or digests level []) (get_or digests level []) ≡ Ok next
      → AreEmpty hash empty (level + 1) (digests ++ (next ∷ []))
  empties-more level digests next long made hashed = record {
    at = λ k le. elim (cases_lt k (level + 1)) [
      | inl lower ↦ made.at k (omega arith)
          ∙ ap Ok (sym (get_or_append_left digests (next ∷ []) [] k (omega arith)))
      | inr high ↦
          let here : k ≡ suc level = omega arith in
          let last : length digests ≡ k = omega arith in
          ap (λ n. node_at hash empty [] n 0) here
          ∙ empty-above level (get_or digests level []) (Ok next) (made.at level (omega arith)) hashed
          ∙ ap Ok (sym (get_or_push digests next [] k last))
    ];
  }

  pub empties-refused : (level depth : ℕ) (digests : List Digest) (error : Error) → level < depth
      → AreEmpty hash empty level digests → hash level (get_or digests level []) (get_or digests level []) ≡ Err error
      → node_at hash empty [] depth 0 ≡ Err error
  empties-refused level depth digests error below made hashed =
      let there : depth - suc level + suc level ≡ depth = omega arith in
      ap (λ n. node_at hash empty [] n 0) (sym there)
      ∙ empty-refused (suc level) (depth - suc level) error
      (empty-above level (get_or digests level []) (Err error) (made.at level (omega arith)) hashed)

-- a digest that was read of a list
pub node-read : {A : Type 0} (numbers : A → Digest) (items : List A) (i : ℕ) (item : A) → i < length items
    → item ≡ get_or items i item → get_or (map numbers items) i [] ≡ numbers item
node-read numbers items i item inside read = get_or-map numbers items i item [] inside ∙ ap numbers (sym read)

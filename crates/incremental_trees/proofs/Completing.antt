-- All nodes that a leaf completes.
use Rattle.std.proofs.Common.{◌≡◌, ℕ, suc, ◌+◌, ◌-◌, ◌*◌, ◌/◌, ◌%◌, ◌^◌, ◌<◌, ◌≤◌, List, [], ◌∷◌, ◌++◌, length, get_or, Ok, Err, arith, ap, sym, subst, ◌∙◌, inl, inr, length-append}
use Rattle.std.proofs.lemmas.Bool.{cases_lt}
use Rattle.std.proofs.lemmas.List.{get_or_append_left, get_or_push}
use Rattle.ark_base.specs.declared.error.Error.{Error}
use Rattle.ark_paths.specs.Pair.{Digest}
use Rattle.incremental_trees.specs.Nodes.{LevelHash}
use Rattle.incremental_trees.specs.Incremental.{AreFilled, CarriesTo, RefusesComplete}
use Rattle.incremental_trees.specs.KeptPaths.{AreCompleted}
use Rattle.incremental_trees.proofs.Halves.{half-up, odd_below}
use Rattle.incremental_trees.proofs.Carrying.{IsCarried, carried-first, carried-next, carried-refused, carries_to}

-- A leaf behind so many completed these nodes, up to a level.
pub record AllCarried (hash : LevelHash) (depth size : ℕ) (leaf : Digest) (filled : List Digest) (level : ℕ)
    (nodes : List Digest) : Type 0 where
  pub long : length nodes ≡ level + 1
  pub at : (k : ℕ) → k < level + 1 → IsCarried hash depth size leaf filled (size / 2 ^ k) k (get_or nodes k [])

pub all-first : (hash : LevelHash) (depth size : ℕ) (leaf : Digest) (filled nodes : List Digest) → nodes ≡ leaf ∷ []
    → AllCarried hash depth size leaf filled 0 nodes
all-first hash depth size leaf filled nodes is = record {
  long = ap length is;
  at = λ k below.
      let none : 0 ≡ k = omega arith in
      let one : size ≡ size / 2 ^ 0 = omega arith in
      subst (λ (n : ℕ). IsCarried hash depth size leaf filled (size / 2 ^ n) n (get_or nodes n [])) none
      (subst (λ (d : Digest). IsCarried hash depth size leaf filled (size / 2 ^ 0) 0 d)
      (ap (λ l. get_or l 0 []) (sym is))
      (subst (λ (n : ℕ). IsCarried hash depth size leaf filled n 0 leaf) one
      (carried-first hash depth size leaf filled)));
}

module _ {hash : LevelHash} {depth size : ℕ} {leaf : Digest} {filled : List Digest} {level : ℕ} {nodes : List Digest}
    (all : AllCarried hash depth size leaf filled level nodes) where
  pub all-next : size / 2 ^ level % 2 ≡ 1 → level ≤ depth → (next : Digest) (more : List Digest)
      → hash level (get_or filled level []) (get_or nodes level []) ≡ Ok next → more ≡ nodes ++ (next ∷ [])
      → AllCarried hash depth size leaf filled (level + 1) more
  all-next odd le next more hashed is = record {
    long = ap length is ∙ length-append nodes (next ∷ []) ∙ ap (λ n. n + 1) all.long;
    at = λ k below. elim (cases_lt k (level + 1)) [
      | inl lower ↦ subst (λ (d : Digest). IsCarried hash depth size leaf filled (size / 2 ^ k) k d)
          (sym (ap (λ l. get_or l k []) is ∙ get_or_append_left nodes (next ∷ []) [] k (omega (arith, all.long))))
          (all.at k lower)
      | inr high ↦
          let here : level + 1 ≡ k = omega arith in
          let one_up : suc level ≡ level + 1 = omega arith in
          let up : size / 2 ^ level / 2 ≡ size / 2 ^ (level + 1) =
          sym (half-up size level) ∙ ap (λ n. size / 2 ^ n) one_up in
          let read : next ≡ get_or more (level + 1) [] =
          sym (ap (λ l. get_or l (level + 1) []) is ∙ get_or_push nodes next [] (level + 1) all.long) in
          subst (λ (n : ℕ). IsCarried hash depth size leaf filled (size / 2 ^ n) n (get_or more n [])) here
          (subst (λ (d : Digest). IsCarried hash depth size leaf filled (size / 2 ^ (level + 1)) (level + 1) d) read
          (subst (λ (n : ℕ). IsCarried hash depth size leaf filled n (level + 1) next) up
          (carried-next (all.at level (omega arith)) odd le next hashed)))
    ];
  }

  pub all-refused : size / 2 ^ level % 2 ≡ 1 → level ≤ depth → (error : Error)
      → hash level (get_or filled level []) (get_or nodes level []) ≡ Err error
      → (empty : Digest) (leaves : List Digest) → length leaves ≡ size → AreFilled hash empty leaves depth filled
      → RefusesComplete hash empty (leaves ++ (leaf ∷ [])) error
  all-refused odd le error hashed = carried-refused (all.at level (omega arith)) odd le error hashed

  pub all-carries : size / 2 ^ level % 2 ≡ 0 → CarriesTo size level
  all-carries even = carries_to (all.at level (omega arith)) even

  pub all-completed : size / 2 ^ level % 2 ≡ 0 → (empty : Digest) (leaves : List Digest) → length leaves ≡ size
      → AreFilled hash empty leaves depth filled
      → AreCompleted hash empty (leaves ++ (leaf ∷ [])) (record { index = size; nodes = nodes })
  all-completed even empty leaves long filled_is =
      let one_more = length-append leaves (leaf ∷ []) in
      record {
        last = one_more ∙ ap (λ n. n + 1) long;
        at = λ k below. (all.at k (omega (arith, all.long))).node_is empty leaves long filled_is;
        all = λ k place whole. elim (cases_lt k (length nodes)) [
          | inl lower ↦ lower
          | inr high ↦
              let complete : size + 1 ≡ (place + 1) * 2 ^ k = ap (λ n. n + 1) (sym long) ∙ sym one_more ∙ sym whole in
              let odd = odd_below size place k complete level (k - level - 1) (omega (arith, all.long)) in
              absurd (omega (arith, odd.before, even))
        ];
      }

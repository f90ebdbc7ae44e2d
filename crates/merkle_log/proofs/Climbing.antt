-- A loop that follows a path and a log's own rows up to the root.
use Rattle.std.proofs.Common.{suc, ◌≡◌, ◌⊎◌, ℕ, ◌+◌, ◌-◌, ◌/◌, ◌%◌, ◌<◌, ◌≤◌, true, false, ◌==◌, List, [], ◌∷◌, ◌++◌, length, map, take, drop, get_or, Ok, Err, Option, Some, None, arith, refl, ap, sym, ◌∙◌, inl, inr}
use Rattle.std.proofs.lemmas.Bool.{cases_lt}
use Rattle.std.proofs.lemmas.List.{length-take-le, length-append, map-append, take_more}
use Rattle.std.proofs.lemmas.Result.{err_from_is_err_and}
use Rattle.std.specs.Prelude.{IfOk, IfErr}
use Rattle.std.specs.Result.{IsErrAnd}
use Rattle.ark_base.specs.declared.error.Error.{Error}
use Rattle.ark_base.specs.declared.error.Error.TheVariants.{OutOfMemory}
use Rattle.ark_base.specs.Outcome.{Outcome}
use Rattle.ark_base.specs.Laws.Steps.{done_injective}
use Rattle.ark_paths.specs.Pair.{Digest}
use Rattle.merkle_log.specs.Binding.{IsHighest, edge_of, found_at, is_other_pair, shown_by}
use Rattle.merkle_log.specs.declared.bind.LogBinding.{LogBinding}
use Rattle.merkle_log.specs.declared.bind.LogBinding.TheVariants.{Stands, Collides}
use Rattle.merkle_log.specs.Edge.{last_raised}
use Rattle.merkle_log.specs.Log.{NodeHash, merkle_tree_hash}
use Rattle.merkle_log.specs.Collision.{PathCollidesAt}
use Rattle.merkle_log.specs.Stored.{IsStored}
use Rattle.merkle_log.specs.Walk.{joined, walk, on_left, on_right, has_beside, hash_beside, index_up}
use Rattle.merkle_log.proofs.RowsUp.{row_up}
use Rattle.merkle_log.proofs.Above.{there, IsAbove}
use Rattle.merkle_log.proofs.Along.{Along, along-end, along-alone, along-next, along-refused, along-short, all_used, next_used}
use Rattle.merkle_log.proofs.Highest.{found_up, found_over, found_over-up, highest-next, highest-alone}
use Rattle.merkle_log.proofs.Lasts.{LastAt, last-first, last-next, last-refused, last-end, row_up-last, length-row_pairs}
use Rattle.merkle_log.proofs.Positions.{some-below}
use Rattle.merkle_log.proofs.Sound.{ended}
use Rattle.merkle_log.proofs.Verdicts.{pow_above, refused}

pub length-edge : (row : List Digest) (s : ℕ) (last : Digest) → s ≤ length row → length (edge_of row s last) ≡ s + 1
length-edge row s last le = length-append (take s row) (last ∷ []) ∙ ap (λ n. n + 1) (length-take-le s row le)

-- From here on the path leads to the root of the rows, and what is highest from here on says what is highest at all.
pub record Climbing (hash : NodeHash) (rows : ℕ → List Digest) (empty root : Digest) (level i s : ℕ)
    (last own : Digest) (path : List Digest) (below : Option ℕ) (goal : Option ℕ → Type 0) : Type 0 where
  pub last_at : LastAt hash rows empty level s (Ok last) (Ok root)
  pub along : Along (on_left hash) (on_right hash) i s own path (Ok (Some root))
  pub known : (up : Option ℕ) → IsHighest hash empty (edge_of (rows level) s last) i s own path up
      → goal (found_over below level up)

module _ {hash : NodeHash} {rows : ℕ → List Digest} (stored : IsStored hash rows) where
  edge-above : (level s : ℕ) (last next : Digest) → s ≤ length (rows level) → last_raised hash (rows level) s last
      ≡ Ok next → IsAbove hash (edge_of (rows level) s last) (edge_of (rows (suc level)) (s / 2) next)
  edge-above level s last next le is = record {
    is = ap (row_up (joined hash)) (map-append Ok (take s (rows level)) (last ∷ []))
        ∙ row_up-last hash (rows level) (rows (suc level)) s (Ok last) (stored.pairs level) le
        ∙ ap (λ x. there (take (s / 2) (rows (suc level))) ++ (x ∷ [])) is
        ∙ sym (map-append Ok (take (s / 2) (rows (suc level))) (next ∷ []));
  }

  edge-size : (level s : ℕ) (last next : Digest) → s ≤ length (rows level)
      → length (edge_of (rows (suc level)) (s / 2) next) ≡ (length (edge_of (rows level) s last) + 1) / 2
  edge-size level s last next le =
      let up = length-row_pairs hash (rows level) (rows (suc level)) (stored.pairs level) in
      let e = length-edge (rows level) s last le in
      let f = length-edge (rows (suc level)) (s / 2) next (omega arith) in omega arith

  module _ {empty root : Digest} {level i s : ℕ} {last own : Digest} {path : List Digest} {below : Option ℕ}
      {goal : Option ℕ → Type 0}
      (at : Climbing hash rows empty root level i s last own path below goal) where
    -- a level up, from what the way does there
    climbed : 0 < s → {next : Digest} {rest : List Digest} (sibling last_up : Digest) (here : Option ℕ)
        → Along (on_left hash) (on_right hash) (i / 2) (s / 2) next rest (Ok (Some root))
        → last_raised hash (rows level) s last ≡ Ok last_up
        → here ≡ found_at (is_other_pair (edge_of (rows level) s last) i s own sibling) level below
        → ((found : Option ℕ) → IsHighest hash empty (edge_of (rows (suc level)) (s / 2) last_up) (i / 2) (s / 2) next
        rest found → IsHighest hash empty (edge_of (rows level) s last) i s own path (found_up found
        (is_other_pair (edge_of (rows level) s last) i s own sibling)))
        → Climbing hash rows empty root (level + 1) (i / 2) (s / 2) last_up next rest here goal
    climbed some {next} {rest} sibling last_up here along raised here_is lift =
        let e : suc level ≡ level + 1 = omega arith in
        let other = is_other_pair (edge_of (rows level) s last) i s own sibling in
        record {
          last_at = last-next stored at.last_at some (level + 1) refl (Ok last_up) raised;
          along = along;
          known = λ found highest. rw (here_is) (rw (found_over-up below level other found) at (at.known
              (found_up found other) (lift found (rw (← e) at highest))));
        }

    -- with a digest beside
    pub climbing-next : 0 < s → has_beside i s ≡ true → {sibling : Digest} {rest : List Digest} {next last_up : Digest}
        (here : Option ℕ) → path ≡ sibling ∷ rest → hash_beside hash (i % 2 == 1) own sibling ≡ Ok next
        → last_raised hash (rows level) s last ≡ Ok last_up
        → here ≡ found_at (is_other_pair (edge_of (rows level) s last) i s own sibling) level below
        → Climbing hash rows empty root (level + 1) (i / 2) (s / 2) last_up next rest here goal
    climbing-next some beside {sibling} {rest} {next} {last_up} here is step raised here_is =
        let within = at.last_at.inside in
        climbed some sibling last_up here (along-next at.along some beside is step) raised here_is
        (highest-next hash empty _ _ i s own path (edge-above level s last last_up within raised)
        (edge-size level s last last_up within) (length-edge (rows level) s last within) at.along.inside beside is step)

    -- and without
    pub climbing-alone : 0 < s → has_beside i s ≡ false → (sibling : Digest) {last_up : Digest} (here : Option ℕ)
        → last_raised hash (rows level) s last ≡ Ok last_up
        → here ≡ found_at (is_other_pair (edge_of (rows level) s last) i s own sibling) level below
        → Climbing hash rows empty root (level + 1) (i / 2) (s / 2) last_up own path here goal
    climbing-alone some alone sibling {last_up} here raised here_is =
        let within = at.last_at.inside in
        climbed some sibling last_up here (along-alone at.along some alone) raised here_is
        (highest-alone hash empty _ _ i s own path (edge-above level s last last_up within raised)
        (edge-size level s last last_up within) (length-edge (rows level) s last within) at.along.inside alone sibling)

    -- the path has a digest where one is needed, and no hash is refused
    pub climbing-inside : {A : Type 0} (numbers : A → Digest) (xs : List A) (used : ℕ) → path
        ≡ map numbers (drop used xs) → 0 < s → has_beside i s ≡ true → used < length xs
    climbing-inside numbers xs used is some beside = elim (cases_lt used (length xs)) [
      | inl less ↦ less
      | inr all ↦
          let none : Path (Outcome (Option Digest)) (Ok (Some root)) (Ok None) =
          along-short at.along some beside (is ∙ all_used numbers xs used all) in absurd cc
    ]

    pub climbing-read : {A : Type 0} (numbers : A → Digest) (xs : List A) (used : ℕ) → path ≡ map numbers (drop used xs)
        → 0 < s → has_beside i s ≡ true → (x : A) → x ≡ get_or xs used x
        → path ≡ numbers x ∷ map numbers (drop (used + 1) xs)
    climbing-read numbers xs used is some beside x read =
        is ∙ next_used numbers xs used x (climbing-inside numbers xs used is some beside) read

    pub climbing-hashed : 0 < s → has_beside i s ≡ true → {sibling : Digest} {rest : List Digest} {e : Error}
        → path ≡ sibling ∷ rest → hash_beside hash (i % 2 == 1) own sibling ≡ Err e → ⊥
    climbing-hashed some beside {sibling} {rest} {e} is refused =
        let none : Path (Outcome (Option Digest)) (Ok (Some root)) (Err e) =
        along-refused at.along some beside is refused in absurd cc

    pub climbing-raised : 0 < s → {e : Error} → last_raised hash (rows level) s last ≡ Err e → ⊥
    climbing-raised some {e} refused =
        let up = last-next stored at.last_at some (level + 1) refl (Err e) refused in
        let none : Path (Outcome Digest) (Ok root) (Err e) = last-refused stored up.levels up.high up in absurd cc

    pub climbing-end : s ≡ 0 → goal below
    climbing-end top =
        let inside = at.along.inside in
        let first : i ≡ 0 = omega arith in
        let root_is : root ≡ last = done_injective {E = Error} _ _ (last-end stored at.last_at top) in
        let end = ended own path root (sym (along-end at.along top)) in
        at.known None (one (rows level) top first ∙ sym root_is ∙ sym end.1, none)
      where
        one : (row : List Digest) → s ≡ 0 → i ≡ 0 → get_or (edge_of row s last) i [] ≡ last
        one row e f = rw (e, f) refl

        none : (up : ℕ) → PathCollidesAt hash (Ok empty) (edge_of (rows level) s last) i s own path up → ⊥
        none up hit =
            let place = index_up (suc up) i in
            let inside = hit.tree.inside in
            let some = some-below up (place + place) in
            let long = length-edge (rows level) s last at.last_at.inside in
            absurd (omega arith)

  pub climbing-first : {empty root : Digest} (size start : ℕ) (digest own : Digest) (path : List Digest)
      (last : Digest) → start < size → size ≤ length (rows 0) → last ≡ get_or (rows 0) (size - 1) []
      → merkle_tree_hash hash empty (take size (rows 0)) ≡ Ok root
      → walk (on_left hash) (on_right hash) size start (size - 1) digest path ≡ Ok (Some root) → digest ≡ own
      → Climbing hash rows empty root 0 start (size - 1) last own path None
      (IsHighest hash empty (take size (rows 0)) start (size - 1) digest path)
  climbing-first {empty} {root} size start digest own path last inside within is tree way same =
      let high = pow_above size in
      let one : size - 1 + 1 ≡ size = omega arith in
      let edge : edge_of (rows 0) (size - 1) last ≡ take size (rows 0) =
      ap (λ d. take (size - 1) (rows 0) ++ (d ∷ [])) is ∙ sym (take_more (rows 0) (size - 1) [] (omega arith))
      ∙ ap (λ n. take n (rows 0)) one in
      let first = last-first hash rows empty size last (omega arith) within is in
      record {
        last_at = rw (tree) at first;
        along = record { levels = size; high = omega arith; inside = omega arith; is = rw (same) at way };
        known = λ up highest. rw (from_first up, ← edge, same) highest;
      }
    where
      from_first : (up : Option ℕ) → found_over None 0 up ≡ up
      from_first None = refl
      from_first (Some up) = let e : 0 + up ≡ up = omega arith in ap Some e

-- a refusal that cannot be
pub memory_only : {A P : Type 0} (result : Outcome A) (e : Error) → IsErrAnd result (λ d. d ≡ e)
    → (e ≡ OutOfMemory) ⊎ P → (P → ⊥) → IfErr result (λ error. error ≡ OutOfMemory)
memory_only result e is_err refusal never =
    let p = err_from_is_err_and result is_err in
    rw (p.1, p.2) (elim refusal [
      | inl memory ↦ memory
      | inr other ↦ absurd (never other)
    ])

-- ---- what is shown

pub shown-stands : (P : Option ℕ → Type 0) (found : Option ℕ) → shown_by found ≡ Stands → P found → P None
shown-stands P None is known = known
shown-stands P (Some level) is known = absurd cc

pub shown-collides : (P : Option ℕ → Type 0) (found : Option ℕ) (level : ℕ) → shown_by found ≡ Collides level → P found
    → P (Some level)
shown-collides P None level is known = absurd cc
shown-collides P (Some up) level is known = let e : up ≡ level = same is in rw (← e) known
  where
    same : {a b : ℕ} → Path LogBinding (Collides a) (Collides b) → a ≡ b
    same e = cc

-- what holds of each value that a call returns
pub if_ok : {V : Type 0} {P Q : V → Type 0} (result : Outcome V) → ((value : V) → P value → Q value) → IfOk result P
    → IfOk result Q
if_ok (Ok value) known holds = known value holds
if_ok (Err e) known holds = tt

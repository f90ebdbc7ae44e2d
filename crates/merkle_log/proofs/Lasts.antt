-- The last digest of the rows of a log that has more digests of its own.
use Rattle.std.proofs.Common.{zero, suc, ◌≡◌, ℕ, ◌+◌, ◌-◌, ◌/◌, ◌%◌, ◌<◌, ◌≤◌, ◌^◌, Bool, true, false, ◌==◌, if◌then◌else◌, List, [], ◌∷◌, ◌++◌, length, map, take, get_or, Ok, Err, arith, refl, ap, subst, sym, ◌∙◌, inl, inr}
use Rattle.std.proofs.lemmas.Bool.{cases_lt}
use Rattle.std.proofs.lemmas.List.{length-take-le, length-map, length-append, map-append, take_more}
use Rattle.ark_base.specs.declared.error.Error.{Error}
use Rattle.ark_base.specs.Outcome.{Outcome, ◌>>=◌}
use Rattle.ark_base.specs.Laws.Steps.{bind_ok, done_injective}
use Rattle.merkle_log.specs.Trees.{tree_hash}
use Rattle.merkle_log.specs.Walk.{joined}
use Rattle.ark_paths.specs.Pair.{Digest}
use Rattle.merkle_log.specs.Log.{NodeHash, merkle_tree_hash}
use Rattle.merkle_log.specs.Stored.{row_pairs, IsStored}
use Rattle.merkle_log.specs.Edge.{last_raised, row_with}
use Rattle.merkle_log.proofs.RowsUp.{row_up, tree_hash-up}
use Rattle.merkle_log.proofs.Tests.{twice, fewer}
use Rattle.merkle_log.proofs.Above.{there, row_up-cut}
use Rattle.merkle_log.proofs.SubproofRows.{tree_hash-one}
use Rattle.merkle_log.proofs.Verdicts.{pow_above}

abbrev pub Node : Type 0
Node = Outcome Digest

abbrev pub node_rows : List Digest → List Node
node_rows ds = there ds

-- the first pair of a row, and the others
pub pairs_parts : (hash : NodeHash) (a b : Digest) (row next : List Digest) → row_pairs hash (a ∷ b ∷ row) ≡ Ok next
    → (first : Digest) × (rest : List Digest) × (hash a b ≡ Ok first) × (row_pairs hash row ≡ Ok rest)
    × (first ∷ rest ≡ next)
pairs_parts hash a b row next is =
    let h = bind_ok (hash a b) (λ c. row_pairs hash row >>= λ next. Ok (c ∷ next)) next is in
    let more = bind_ok (row_pairs hash row) (λ next. Ok (h.0 ∷ next)) next h.2 in
    (h.0, more.0, h.1, more.1, done_injective {E = Error} (h.0 ∷ more.0) next more.2)

pub length-row_pairs : (hash : NodeHash) (row next : List Digest) → row_pairs hash row ≡ Ok next → length next
    ≡ length row / 2
length-row_pairs hash [] next is = ap length (sym (done_injective {E = Error} [] next is))
length-row_pairs hash (a ∷ []) next is = ap length (sym (done_injective {E = Error} [] next is))
length-row_pairs hash (a ∷ b ∷ row) next is =
    let p = pairs_parts hash a b row next is in omega (arith, ap length p.4, length-row_pairs hash row p.1 p.3)

pub row_up-front : (hash : NodeHash) (c d : ℕ) (row next : List Digest) → row_pairs hash row ≡ Ok next → d ≡ c + c
    → d ≤ length row → row_up (joined hash) (node_rows (take d row)) ≡ node_rows (take c next)
row_up-front hash zero zero row next is two le = refl
row_up-front hash (suc c) (suc (suc d)) (a ∷ b ∷ row) next is two le =
    let p = pairs_parts hash a b row next is in
    ap (λ x. x ∷ row_up (joined hash) (node_rows (take d row))) p.2 ∙ ap (λ l. Ok p.0 ∷ l) (row_up-front hash c d row
    p.1 p.3 (omega arith) (omega arith)) ∙ ap (λ l. node_rows (take (suc c) l)) p.4
row_up-front hash c d row next is two le = absurd (omega arith)

-- the last value one level up
abbrev pub raised : NodeHash → List Digest → ℕ → Node → Node
raised hash row s x = if s % 2 == 1 then (joined hash (Ok (get_or row (s - 1) [])) x) else x

pub raised-err : (hash : NodeHash) (row : List Digest) (s : ℕ) (e : Error) → raised hash row s (Err e) ≡ Err e
raised-err hash row s e = by_test (s % 2 == 1)
  where
    by_test : (b : Bool) → (if b then (joined hash (Ok (get_or row (s - 1) [])) (Err e)) else (Err e)) ≡ Err e
    by_test true = refl
    by_test false = refl

-- The row above the first digests of a row and a last value.
pub row_up-last : (hash : NodeHash) (row next : List Digest) (s : ℕ) (x : Node) → row_pairs hash row ≡ Ok next
    → s ≤ length row → row_up (joined hash) (row_with row s x) ≡ row_with next (s / 2) (raised hash row s x)
row_up-last hash row next s x is le =
    row_up-cut hash [] s row next x (λ c d two le. row_up-front hash c d row next is two le) le

pub length-row_with : (row : List Digest) (s : ℕ) (x : Node) → s ≤ length row → length (row_with row s x) ≡ s + 1
length-row_with row s x le = length-append (node_rows (take s row)) (x ∷ []) ∙ ap (λ n. n + 1) (length-map (take s row)
    Ok ∙ length-take-le s row le)

-- ---- the root of the first digests of a log

-- From the last value of a row on, with some levels left, the tree has this hash.
pub record LastAt (hash : NodeHash) (rows : ℕ → List Digest) (empty : Digest) (level s : ℕ) (x : Node)
    (answer : Outcome Digest) : Type 0 where
  pub levels : ℕ
  pub high : s < 2 ^ levels
  pub inside : s ≤ length (rows level)
  pub is : tree_hash (joined hash) (Ok empty) levels (node_rows (take s (rows level)) ++ (x ∷ [])) ≡ answer

module _ {hash : NodeHash} {rows : ℕ → List Digest} {empty : Digest} (stored : IsStored hash rows) where
  pub last-up : {level s : ℕ} {x : Node} {answer : Outcome Digest} → LastAt hash rows empty level s x answer → 0 < s
      → LastAt hash rows empty (suc level) (s / 2) (raised hash (rows level) s x) answer
  last-up {level} {s} {x} {answer} at some =
      let up = fewer (λ k. tree_hash (joined hash) (Ok empty) k (row_with (rows level) s x) ≡ answer)
      (λ k. tree_hash (joined hash) (Ok empty) k (row_with (rows (suc level)) (s / 2) (raised hash (rows level) s x))
      ≡ answer) at.levels some at.high at.is (λ k high is. ap (tree_hash (joined hash) (Ok empty) k)
      (sym (row_up-last hash (rows level) (rows (suc level)) s x (stored.pairs level) at.inside))
      ∙ sym (tree_hash-up (joined hash) (Ok empty) k (row_with (rows level) s x)
      (omega (arith, length-row_with (rows level) s x at.inside))) ∙ is) in
      record {
        levels = up.levels;
        high = up.high;
        inside = omega (
          arith,
          at.inside,
          length-row_pairs hash (rows level) (rows (suc level)) (stored.pairs level),
        );
        is = up.at;
      }

  pub last-end : {level s : ℕ} {x : Node} {answer : Outcome Digest} → LastAt hash rows empty level s x answer → s ≡ 0
      → answer ≡ x
  last-end {level} {s} {x} {answer} at top =
      sym at.is ∙ ap (λ n. tree_hash (joined hash) (Ok empty) at.levels (row_with (rows level) n x)) top
      ∙ tree_hash-one (joined hash) (Ok empty) at.levels x

  -- A refusal stays.
  pub last-refused : (k : ℕ) {level s : ℕ} {e : Error} {answer : Outcome Digest} → s < 2 ^ k → LastAt hash rows empty
      level s (Err e) answer → answer ≡ Err e
  last-refused zero {level} {s} {e} {answer} high at = last-end at (omega arith)
  last-refused (suc k) {level} {s} {e} {answer} high at = elim (cases_lt 0 s) [
    | inr top ↦ last-end at (omega arith)
    | inl some ↦
        let two = twice k in
        last-refused k (omega arith) (subst (λ y. LastAt hash rows empty (suc level) (s / 2) y answer)
        (raised-err hash (rows level) s e) (last-up at some))
  ]

  -- what a loop does at a level
  pub last-next : {level s : ℕ} {last : Digest} {answer : Outcome Digest} → LastAt hash rows empty level s (Ok last)
      answer → 0 < s → (next : ℕ) → next ≡ level + 1 → (y : Node) → last_raised hash (rows level) s last ≡ y
      → LastAt hash rows empty next (s / 2) y answer
  last-next {level} {s} {last} {answer} at some next is y raised_is =
      let e : suc level ≡ next = omega arith in
      rw (← e, ← raised_is) (last-up at some)

-- the first digests of a row, and the last of them
pub whole_front : (row : List Digest) (size : ℕ) (last : Digest) → 0 < size → size ≤ length row → last
    ≡ get_or row (size - 1) [] → row_with row (size - 1) (Ok last) ≡ node_rows (take size row)
whole_front row size last some le is =
    let one : size - 1 + 1 ≡ size = omega arith in
    sym (ap (λ n. node_rows (take n row)) (sym one) ∙ ap (map Ok) (take_more row (size - 1) [] (omega arith))
    ∙ map-append Ok (take (size - 1) row) (get_or row (size - 1) [] ∷ []) ∙ ap (λ d. node_rows (take (size - 1) row)
    ++ (Ok d ∷ [])) (sym is))

pub last-first : (hash : NodeHash) (rows : ℕ → List Digest) (empty : Digest) (size : ℕ) (last : Digest) → 0 < size
    → size ≤ length (rows 0) → last ≡ get_or (rows 0) (size - 1) []
    → LastAt hash rows empty 0 (size - 1) (Ok last) (merkle_tree_hash hash empty (take size (rows 0)))
last-first hash rows empty size last some le is =
    let high = pow_above size in
    record {
      levels = size;
      high = omega arith;
      inside = omega arith;
      is = ap (tree_hash (joined hash) (Ok empty) size) (whole_front (rows 0) size last some le is)
          ∙ ap (λ n. tree_hash (joined hash) (Ok empty) n (node_rows (take size (rows 0))))
          (sym (length-take-le size (rows 0) le));
    }

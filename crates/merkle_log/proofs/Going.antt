-- A path that is made level by level.
use Rattle.std.proofs.Common.{zero, suc, ◌≡◌, ℕ, ◌+◌, ◌-◌, ◌/◌, ◌%◌, ◌<◌, ◌≤◌, ◌^◌, List, [], ◌∷◌, ◌++◌, length, take, get_or, Ok, Err, arith, refl, ap, sym, ◌∙◌, inl, inr}
use Rattle.std.proofs.lemmas.Bool.{cases_lt, lt-ltb, le-ltb}
use Rattle.std.proofs.lemmas.List.{length-take-le, length-map, get_or_append_left, get_or_at, get_or-take, append_assoc, append-nil}
use Rattle.ark_base.specs.declared.error.Error.{Error}
use Rattle.ark_base.specs.Outcome.{Outcome, ◌>>=◌}
use Rattle.merkle_log.specs.Trees.{path}
use Rattle.merkle_log.specs.Walk.{joined}
use Rattle.ark_paths.specs.Pair.{Digest}
use Rattle.merkle_log.specs.Log.{NodeHash}
use Rattle.merkle_log.specs.Stored.{IsStored}
use Rattle.merkle_log.specs.Edge.{last_raised, all_of, digests_beside, path_behind, row_with}
use Rattle.merkle_log.proofs.RowsUp.{row_up}
use Rattle.merkle_log.proofs.Tests.{twice, odd_test, even_test, fewer}
use Rattle.merkle_log.proofs.PathRows.{Right, Left, Alone, side, beside, beside-even, path-up}
use Rattle.merkle_log.proofs.SubproofRows.{path-one}
use Rattle.merkle_log.proofs.TreePairs.{get_or-there}
use Rattle.merkle_log.proofs.Lasts.{Node, node_rows, length-row_pairs, length-row_with, raised, raised-err, row_up-last}

pub row_with-own : (row : List Digest) (s : ℕ) (x : Node) (none : Node) (j : ℕ) → s ≤ length row → j < s
    → get_or (row_with row s x) j none ≡ Ok (get_or row j [])
row_with-own row s x none j le below =
    let l : length (take s row) ≡ s = length-take-le s row le in
    get_or_append_left (node_rows (take s row)) (x ∷ []) none j (omega (arith, length-map {B = Node} (take s row) Ok))
    ∙ get_or-there [] none (take s row) j (omega arith) ∙ ap Ok (get_or-take s row j [] below)

row_with-last : (row : List Digest) (s : ℕ) (x : Node) (none : Node) → s ≤ length row → get_or (row_with row s x) s none
    ≡ x
row_with-last row s x none le = get_or_at (node_rows (take s row)) x [] none s (length-map (take s row) Ok
    ∙ length-take-le s row le)

-- ---- what stands beside

beside-there : (row : List Digest) (i s : ℕ) (x : Node) (none : Node) (last : Digest) → s ≤ length row → i ≤ s
    → (i % 2 ≡ 0 → i + 1 ≡ s → x ≡ Ok last) → beside none i (row_with row s x)
    ≡ node_rows (digests_beside row i s last)
beside-there row i s x none last le inside known =
    let n = length-row_with row s x le in
    elim (side i (s + 1)) [
      | Right odd ↦ rw (odd_test i odd) (ap (λ z. z ∷ []) (row_with-own row s x none (i - 1) le (omega arith)))
      | Left even more ↦
          rw (even_test i even, lt-ltb i s (omega arith), lt-ltb (i + 1) (length (row_with row s x)) (omega arith))
          (elim (cases_lt (i + 1) s) [
            | inl own ↦ rw (lt-ltb (i + 1) s own) (ap (λ z. z ∷ []) (row_with-own row s x none (i + 1) le own))
            | inr end ↦
                let e : i + 1 ≡ s = omega arith in
                rw (le-ltb (i + 1) s end) (ap (λ z. z ∷ []) (ap (λ n. get_or (row_with row s x) n none) e
                ∙ row_with-last row s x none le ∙ known even e))
          ])
      | Alone even end ↦
          rw (even_test i even, le-ltb i s (omega arith), le-ltb (i + 1) (length (row_with row s x)) (omega arith)) refl
    ]

-- digests that are there, in front of others
pub all_of-behind : (sofar ds : List Digest) (rest : List Node) → (all_of (node_rows ds ++ rest) >>= path_behind sofar)
    ≡ (all_of rest >>= path_behind (sofar ++ ds))
all_of-behind sofar [] rest = ap (λ l. all_of rest >>= path_behind l) (sym (append-nil sofar))
all_of-behind sofar (d ∷ ds) rest = one (all_of (node_rows ds ++ rest)) ∙ all_of-behind (sofar ++ (d ∷ [])) ds rest
    ∙ ap (λ l. all_of rest >>= path_behind l) (append_assoc sofar (d ∷ []) ds)
  where
    one : (o : Outcome (List Digest)) → ((o >>= λ more. Ok (d ∷ more)) >>= path_behind sofar)
        ≡ (o >>= path_behind (sofar ++ (d ∷ [])))
    one (Ok more) = ap Ok (sym (append_assoc sofar (d ∷ []) more))
    one (Err e) = refl

-- and in front of an error
all_of-refused : (ds : List Digest) (rest : List Node) (e : Error) → all_of rest ≡ Err e
    → all_of (node_rows ds ++ rest) ≡ Err e
all_of-refused [] rest e is = is
all_of-refused (d ∷ ds) rest e is = ap (λ o. o >>= λ more. Ok (d ∷ more)) (all_of-refused ds rest e is)

-- ---- the path of an index of the first digests of a log

-- From an index of a row with a last value on, with some levels left, the path behind these digests is this.
pub record Goes (hash : NodeHash) (rows : ℕ → List Digest) (empty : Digest) (level i s : ℕ) (x : Node)
    (sofar : List Digest) (answer : Outcome (List Digest)) : Type 0 where
  pub levels : ℕ
  pub high : s < 2 ^ levels
  pub within : s ≤ length (rows level)
  pub inside : i ≤ s
  pub is : (all_of (path (joined hash) (Ok empty) levels i (row_with (rows level) s x)) >>= path_behind sofar) ≡ answer

-- The same, where the last value is this digest as long as the path needs it.
pub record Going (hash : NodeHash) (rows : ℕ → List Digest) (empty : Digest) (level i s : ℕ) (last : Digest)
    (sofar : List Digest) (answer : Outcome (List Digest)) : Type 0 where
  pub x : Node
  pub known : i < s → x ≡ Ok last
  pub goes : Goes hash rows empty level i s x sofar answer

module _ {hash : NodeHash} {rows : ℕ → List Digest} (empty : Digest) (stored : IsStored hash rows) where
  pub long : (level s : ℕ) → s ≤ length (rows level) → s / 2 ≤ length (rows (suc level))
  long level s le = omega (arith, length-row_pairs hash (rows level) (rows (suc level)) (stored.pairs level))

  -- the row above
  pub above_with : (level s : ℕ) (x : Node) → s ≤ length (rows level) → row_up (joined hash) (row_with (rows level) s x)
      ≡ row_with (rows (suc level)) (s / 2) (raised hash (rows level) s x)
  above_with level s x le = row_up-last hash (rows level) (rows (suc level)) s x (stored.pairs level) le

  -- the path of an index of such a row, some levels up
  abbrev way : ℕ → ℕ → ℕ → ℕ → Node → List Node
  way k level i s x = path (joined hash) (Ok empty) k i (row_with (rows level) s x)

  path-with : (k level i s : ℕ) (x : Node) → s ≤ length (rows level) → i ≤ s → s < 2 ^ suc k → way (suc k) level i s x
      ≡ beside (Ok empty) i (row_with (rows level) s x) ++ way k (suc level) (i / 2) (s / 2) (raised hash (rows level)
      s x)
  path-with k level i s x le in_it high =
      let n = length-row_with (rows level) s x le in
      path-up (joined hash) (Ok empty) k i (row_with (rows level) s x) (omega arith) (omega arith)
      ∙ ap (λ l. beside (Ok empty) i (row_with (rows level) s x) ++ path (joined hash) (Ok empty) k (i / 2) l)
      (above_with level s x le)

  -- one level up
  pub goes-up : {level i s : ℕ} {x : Node} {sofar : List Digest} {answer : Outcome (List Digest)} → Goes hash rows empty
      level i s x sofar answer → 0 < s → (last : Digest) → (i < s → x ≡ Ok last)
      → Goes hash rows empty (suc level) (i / 2) (s / 2) (raised hash (rows level) s x) (sofar ++ digests_beside
      (rows level) i s last) answer
  goes-up {level} {i} {s} {x} {sofar} {answer} at some last known =
      let ds = digests_beside (rows level) i s last in
      let y = raised hash (rows level) s x in
      let up = fewer (λ k. (all_of (way k level i s x) >>= path_behind sofar) ≡ answer)
      (λ k. (all_of (way k (suc level) (i / 2) (s / 2) y) >>= path_behind (sofar ++ ds)) ≡ answer) at.levels some
      at.high
      at.is (λ k high is. sym (all_of-behind sofar ds (way k (suc level) (i / 2) (s / 2) y))
      ∙ ap (λ l. all_of (l ++ way k (suc level) (i / 2) (s / 2) y) >>= path_behind sofar)
      (sym (beside-there (rows level) i s
      x (Ok empty) last at.within at.inside (λ even end. known (omega arith))))
      ∙ ap (λ l. all_of l >>= path_behind sofar) (sym (path-with k level i s x at.within at.inside high)) ∙ is) in
      record {
        levels = up.levels;
        high = up.high;
        within = long level s at.within;
        inside = omega (arith, at.inside);
        is = up.at;
      }

  -- A refusal of the last value, which the path needs, is that of the path.
  pub path-refused : (k level i s : ℕ) (e : Error) → s < 2 ^ k → s ≤ length (rows level) → i < s
      → all_of (way k level i s (Err e)) ≡ Err e
  path-refused zero level i s e high le under = absurd (omega arith)
  path-refused (suc k) level i s e high le under =
      let two = twice k in
      let row = row_with (rows level) s (Err e) in
      let rest = way k (suc level) (i / 2) (s / 2) (Err e) in
      ap all_of (path-with k level i s (Err e) le (omega arith) high
      ∙ ap (λ z. beside (Ok empty) i row ++ way k (suc level) (i / 2) (s / 2) z) (raised-err hash (rows level) s e))
      ∙ elim (cases_lt (i / 2) (s / 2)) [
        | inl less ↦
            ap (λ l. all_of (l ++ rest)) (beside-there (rows level) i s (Err e) (Ok empty) [] le (omega arith)
            (λ even end. absurd (omega arith)))
            ∙ all_of-refused (digests_beside (rows level) i s []) rest e (path-refused k (suc level) (i / 2) (s / 2) e
            (omega arith) (long level s le) less)
        | inr near ↦
            let last : i + 1 ≡ s = omega arith in
            ap (λ l. all_of (l ++ rest)) (beside-even (Ok empty) i row (omega arith)
            (omega (arith, length-row_with (rows level) s (Err e) le))
            ∙ ap (λ z. z ∷ []) (ap (λ n. get_or row n (Ok empty)) last ∙ row_with-last (rows level) s (Err e) (Ok empty)
            le))
      ]

  -- ---- what a loop does at a level

  needed-known : (level i s : ℕ) (x : Node) (last : Digest) (y : Outcome Digest) → (i < s → x ≡ Ok last)
      → last_raised hash (rows level) s last ≡ y → i / 2 < s / 2 → raised hash (rows level) s x ≡ y
  needed-known level i s x last y known is under = ap (raised hash (rows level) s) (known (omega arith)) ∙ is

  module _ {level i s : ℕ} {last : Digest} {sofar : List Digest} {answer : Outcome (List Digest)}
      (going : Going hash rows empty level i s last sofar answer) where
    -- at the root
    pub going-end : s ≡ 0 → answer ≡ Ok sofar
    going-end top =
        let first : i ≡ 0 = omega (arith, going.goes.inside) in
        sym going.goes.is
        ∙ ap (λ n. all_of (way going.goes.levels level i n going.x) >>= path_behind sofar) top
        ∙ ap (λ n. all_of (path (joined hash) (Ok empty) going.goes.levels n (going.x ∷ [])) >>= path_behind sofar)
        first
        ∙ ap (λ l. all_of l >>= path_behind sofar) (path-one (joined hash) (Ok empty) going.goes.levels going.x)
        ∙ ap Ok (append-nil sofar)

    going-next : 0 < s → (next : Digest) → (i / 2 < s / 2 → last_raised hash (rows level) s last ≡ Ok next)
        → Going hash rows empty (suc level) (i / 2) (s / 2) next (sofar ++ digests_beside (rows level) i s last) answer
    going-next some next is = record {
      x = raised hash (rows level) s going.x;
      known = λ under. needed-known level i s going.x last (Ok next) going.known (is under) under;
      goes = goes-up going.goes some last going.known;
    }

    pub going-refused : 0 < s → (e : Error) → i / 2 < s / 2 → last_raised hash (rows level) s last ≡ Err e
        → answer ≡ Err e
    going-refused some e under is =
        let up = goes-up going.goes some last going.known in
        let more = sofar ++ digests_beside (rows level) i s last in
        sym up.is ∙ ap (λ z. all_of (way up.levels (suc level) (i / 2) (s / 2) z) >>= path_behind more)
        (needed-known level i s going.x last (Err e) going.known is under)
        ∙ ap (λ o. o >>= path_behind more) (path-refused up.levels (suc level) (i / 2) (s / 2) e up.high up.within
        under)

    -- the same, at a next level and with the path so far as the code has them
    pub going-step : 0 < s → (up : ℕ) → up ≡ level + 1 → (next : Digest)
        → (i / 2 < s / 2 → last_raised hash (rows level) s last ≡ Ok next)
        → (more : List Digest) → sofar ++ digests_beside (rows level) i s last ≡ more → Going hash rows empty up (i / 2)
        (s / 2) next more answer
    going-step some up is next raised_is more path_is =
        let e : suc level ≡ up = omega arith in
        rw (← e, ← path_is) (going-next some next raised_is)

-- The rows above some digests, one after the other.
use Rattle.std.proofs.Common.{zero, suc, ◌≡◌, ℕ, ◌*◌, ◌<◌, ◌≤◌, ◌^◌, List, [], ◌∷◌, length, get_or, Ok, arith, refl, ap, sym, ◌∙◌}
use Rattle.std.proofs.Math.Nat.{pow-succ'}
use Rattle.ark_base.specs.Outcome.{Outcome, ◌>>=◌}
use Rattle.ark_base.specs.Laws.Steps.{bind_ok, done_injective}
use Rattle.ark_paths.specs.Pair.{Digest}
use Rattle.ark_paths.specs.Rows.{row_above, rows_from}
use Rattle.ark_paths.proofs.CoupleLemmas.{length-paired}

-- the rows from a row on: how many, how long each is, and how one comes of the one below
pub record AreRows (hash : Digest → Digest → Outcome Digest) (k : ℕ) (row : List Digest) (rows : List (List Digest)) :
    Type 0 where
  pub count : length rows ≡ suc k
  pub first : get_or rows 0 [] ≡ row
  pub lengths : (j : ℕ) → j ≤ k → length (get_or rows j []) * 2 ^ j ≡ 2 ^ k
  pub above : (j : ℕ) → j < k → row_above hash (get_or rows j []) ≡ Ok (get_or rows (suc j) [])

pub are_rows : (hash : Digest → Digest → Outcome Digest) (k : ℕ) (row : List Digest) (rows : List (List Digest))
    → length row ≡ 2 ^ k → rows_from hash k row ≡ Ok rows → AreRows hash k row rows
are_rows hash zero row rows size is =
    let e = done_injective (row ∷ []) rows is in
    rw (← e) (record {
      count = refl;
      first = refl;
      lengths = λ j le. let z : j ≡ 0 = omega arith in rw z (omega arith);
      above = λ j below. absurd (omega arith);
    })
are_rows hash (suc k) row rows size is =
    let next = bind_ok (row_above hash row) (λ next. rows_from hash k next >>= λ rest. Ok (row ∷ rest)) rows is in
    let rest = bind_ok (rows_from hash k next.0) (λ rest. Ok (row ∷ rest)) rows next.2 in
    let twice : 2 ^ suc k ≡ 2 * 2 ^ k = pow-succ' 2 k in
    let r = are_rows hash k next.0 rest.0 (omega (arith, length-paired hash row next.0 next.1)) rest.1 in
    rw (← done_injective (row ∷ rest.0) rows rest.2) (record {
      count = ap suc r.count;
      first = refl;
      lengths = lengths
          r;
      above = above next.1 r;
    })
  where
    lengths : {next : List Digest} {rest : List (List Digest)} → AreRows hash k next rest → (j : ℕ) → j ≤ suc k
        → length (get_or (row ∷ rest) j []) * 2 ^ j ≡ 2 ^ suc k
    lengths r zero le = omega arith
    lengths {next} {rest} r (suc j) le =
        let under = r.lengths j (omega arith) in
        let twice : 2 ^ suc k ≡ 2 * 2 ^ k = pow-succ' 2 k in
        let more : length (get_or rest j []) * 2 ^ suc j ≡ 2 * (length (get_or rest j []) * 2 ^ j) =
        rw (pow-succ' 2 j) (grind arith) in
        omega arith

    above : {next : List Digest} {rest : List (List Digest)} → row_above hash row ≡ Ok next → AreRows hash k next rest
        → (j : ℕ) → j < suc k → row_above hash (get_or (row ∷ rest) j []) ≡ Ok (get_or (row ∷ rest) (suc j) [])
    above hashed r zero below = hashed ∙ ap Ok (sym r.first)
    above hashed r (suc j) below = r.above j (omega arith)

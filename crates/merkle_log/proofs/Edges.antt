-- The last digests of a log's rows, one level up.
use Rattle.std.proofs.Common.{zero, suc, ◌≡◌, ℕ, ◌+◌, ◌-◌, ◌/◌, ◌%◌, ◌<◌, ◌≤◌, List, [], ◌∷◌, length, get_or, Ok, Option, Some, None, arith, ap, ◌∙◌}
use Rattle.ark_paths.specs.Pair.{Digest}
use Rattle.merkle_log.specs.Log.{NodeHash}
use Rattle.merkle_log.specs.Stored.{row_pairs, IsStored}
use Rattle.merkle_log.specs.Edge.{HasLast, last_raised}
use Rattle.merkle_log.proofs.Lasts.{pairs_parts}
use Rattle.merkle_log.proofs.Tests.{if_odd}

-- a pair of a row
pub row_pair : (hash : NodeHash) (row next : List Digest) → row_pairs hash row ≡ Ok next → (q i j : ℕ) → i ≡ q + q → j
    ≡ i + 1 → j < length row → hash (get_or row i []) (get_or row j []) ≡ Ok (get_or next q [])
row_pair hash (a ∷ b ∷ row) next is zero zero (suc zero) two one below =
    let p = pairs_parts hash a b row next is in p.2 ∙ ap (λ l. Ok (get_or l 0 [])) p.4
row_pair hash (a ∷ b ∷ row) next is (suc q) (suc (suc i)) (suc (suc j)) two one below =
    let p = pairs_parts hash a b row next is in row_pair hash row p.1 p.3 q i j (omega arith) (omega arith)
    (omega arith) ∙ ap (λ l. Ok (get_or l (suc q) [])) p.4
row_pair hash row next is q i j two one below = absurd (omega arith)

-- the digests in front of a last one
pub has-front : {A : Type 0} (row : List Digest) (s : ℕ) (last : Option A) → HasLast row s last → s ≤ length row
has-front row s None has = omega arith
has-front row s (Some last) has = has

module _ {hash : NodeHash} {rows : ℕ → List Digest} (stored : IsStored hash rows) (level s : ℕ) where
  -- a complete place below a complete one
  pub whole-raised : s % 2 ≡ 1 → s < length (rows level) → last_raised hash (rows level) s (get_or (rows level) s [])
      ≡ Ok (get_or (rows (level + 1)) (s / 2) [])
  whole-raised odd below =
      let e : suc level ≡ level + 1 = omega arith in
      if_odd s _ _ odd ∙ row_pair hash (rows level) (rows (suc level)) (stored.pairs level) (s / 2) (s - 1) s
      (omega arith) (omega arith) below ∙ ap (λ l. Ok (get_or (rows l) (s / 2) [])) e

-- A leaf digest rises by one node after the other.
use Rattle.std.proofs.Common.{◌==◌, ◌≡◌, ℕ, zero, suc, ◌+◌, ◌/◌, ◌%◌, ◌^◌, ◌<◌, List, [], ◌∷◌, length, drop, get_or, Ok, Err, arith, refl, ap, sym, ◌∙◌}
use Rattle.std.proofs.lemmas.List.{drop_more}
use Rattle.ark_base.specs.Outcome.{Outcome, ◌>>=◌}
use Rattle.ark_base.specs.declared.error.Error.{Error}
use Rattle.ark_paths.specs.Index.{bit_at}
use Rattle.ark_paths.specs.Pair.{Digest, hash_in_order}
use Rattle.incremental_trees.specs.Nodes.{LevelHash, rising_root}

low_bit : (place : ℕ) → bit_at place 0 ≡ (place % 2 == 1)
low_bit place = let one : place / 2 ^ 0 ≡ place = omega arith in ap (λ n. n % 2 == 1) one

module _ (hash : LevelHash) (level place : ℕ) (list : List Digest) (node beside : Digest) (below : level < length list)
    (read : get_or list level [] ≡ beside) where
  pub rising-step : (outcome : Outcome Digest) → hash_in_order (hash level) (place % 2 == 1) node beside ≡ outcome
      → rising_root hash level place (drop level list) node
      ≡ (outcome >>= λ above. rising_root hash (suc level) (place / 2) (drop (level + 1) list) above)
  rising-step outcome hashed =
      let rest = drop (level + 1) list in
      ap (λ l. rising_root hash level place l node) (drop_more list level [] below)
      ∙ ap (λ d. hash_in_order (hash level) (bit_at place 0) node d
      >>= λ above. rising_root hash (suc level) (place / 2) rest above) read
      ∙ ap (λ b. hash_in_order (hash level) b node beside
      >>= λ above. rising_root hash (suc level) (place / 2) rest above) (low_bit place)
      ∙ ap (λ o. o >>= λ above. rising_root hash (suc level) (place / 2) rest above) hashed

  pub rising-next : (next : Digest) → hash_in_order (hash level) (place % 2 == 1) node beside ≡ Ok next
      → (answer : Outcome Digest) → rising_root hash level place (drop level list) node ≡ answer
      → rising_root hash (level + 1) (place / 2) (drop (level + 1) list) next ≡ answer
  rising-next next hashed answer is =
      let up : level + 1 ≡ suc level = omega arith in
      ap (λ n. rising_root hash n (place / 2) (drop (level + 1) list) next) up ∙ sym (rising-step (Ok next) hashed) ∙ is

  pub rising-refused : (error : Error) → hash_in_order (hash level) (place % 2 == 1) node beside ≡ Err error
      → (answer : Outcome Digest) → rising_root hash level place (drop level list) node ≡ answer → answer ≡ Err error
  rising-refused error hashed answer is = sym is ∙ rising-step (Err error) hashed

pub rising-first : (hash : LevelHash) (index : ℕ) (nodes : List Digest) (leaf node : Digest) → leaf ≡ node
    → rising_root hash 0 index (drop 0 nodes) node ≡ rising_root hash 0 index nodes leaf
rising-first hash index nodes leaf node same = ap (rising_root hash 0 index nodes) (sym same)

pub rising-last : (hash : LevelHash) (level place : ℕ) (nodes : List Digest) (node : Digest) (answer : Outcome Digest)
    → length nodes ≡ level → rising_root hash level place (drop level nodes) node ≡ answer → answer ≡ Ok node
rising-last hash level place nodes node answer long is =
    sym is ∙ ap (λ l. rising_root hash level place l node) (none level nodes long)
  where
    none : (n : ℕ) (xs : List Digest) → length xs ≡ n → drop n xs ≡ []
    none zero [] same = refl
    none (suc n) [] same = refl
    none zero (x ∷ xs) same = absurd (omega arith)
    none (suc n) (x ∷ xs) same = none n xs (omega arith)

-- What the rows of a tree are.
use Rattle.std.proofs.Common.{zero, suc, ◌≡◌, ℕ, ◌+◌, ◌*◌, ◌/◌, ◌<◌, ◌≤◌, ◌^◌, List, [], length, get_or, Ok, Err, arith, refl, ap, ◌∙◌}
use Rattle.std.proofs.Math.Nat.{pow-succ'}
use Rattle.ark_base.specs.declared.error.Error.{Error}
use Rattle.ark_base.specs.Outcome.{Outcome, ◌>>=◌}
use Rattle.ark_base.specs.Laws.Steps.{bind_ok}
use Rattle.ark_paths.specs.Index.{IsTreeSize}
use Rattle.ark_paths.specs.Pair.{Digest, HashPair, bottom_pair, pair_of}
use Rattle.ark_paths.specs.Root.{Root, place, place_at, leaves_with_root, upper_levels}
use Rattle.ark_paths.specs.Rows.{part, row_above, rows_from, rows_of, IsTree}
use Rattle.ark_paths.proofs.CoupleLemmas.{length-paired, get_or-paired}
use Rattle.ark_paths.proofs.Logs.{upper_levels-is}
use Rattle.ark_paths.proofs.Levels.{root_of-rows}
use Rattle.ark_paths.proofs.Parts.{part-left, part-right, part-pair}
use Rattle.ark_paths.proofs.RowLemmas.{AreRows, are_rows}

pub upper_levels-size : (leaves : List Digest) → IsTreeSize (length leaves) → length leaves
    ≡ 2 ^ suc (upper_levels leaves)
upper_levels-size leaves size = rw (upper_levels-is size.0 leaves size.1) size.1

module _ (h : HashPair) (leaves : List Digest) (rows : List (List Digest)) where
  -- each digest of the rows is the root of its part
  roots_of : (m : ℕ) (row : List Digest) → row_above h.bottom leaves ≡ Ok row → AreRows h.upper m row rows → (k q : ℕ)
      → k ≤ m → q < length (get_or rows k []) → place h k (part k q leaves) ≡ Root (get_or (get_or rows k []) q [])
  roots_of m row lowest r zero q le below =
      let first : get_or rows 0 [] ≡ row = r.first in
      let here : q < length row = omega (arith, ap length first) in
      let long = length-paired h.bottom leaves row lowest in
      let hashed = get_or-paired h.bottom leaves row q lowest (omega (arith, long)) in
      ap (λ (p : Digest × Digest). place_at 0 (h.bottom p.0 p.1)) (part-pair q leaves) ∙ rw (hashed, first)
  roots_of m row lowest r (suc k) q le below =
      let above = r.above k (omega arith) in
      let half : length (get_or rows (suc k) []) ≡ length (get_or rows k []) / 2 =
      length-paired h.upper (get_or rows k []) (get_or rows (suc k) []) above in
      let hashed = get_or-paired h.upper (get_or rows k []) (get_or rows (suc k) []) q above (omega arith) in
      let a = roots_of m row lowest r k (2 * q) (omega arith) (omega arith) in
      let b = roots_of m row lowest r k (2 * q + 1) (omega arith) (omega arith) in
      rw (part-left k q leaves, part-right k q leaves, a, b, hashed)

  -- the rows that halving stands for make a tree
  pub is_tree : IsTreeSize (length leaves) → rows_of h (upper_levels leaves) leaves ≡ Ok rows → IsTree h leaves rows
  is_tree size is =
      let m = upper_levels leaves in
      let long = upper_levels-size leaves size in
      let lowest = bind_ok (row_above h.bottom leaves) (rows_from h.upper m) rows is in
      let twice : 2 ^ suc m ≡ 2 * 2 ^ m = pow-succ' 2 m in
      let r = are_rows h.upper m lowest.0 rows (omega (arith, length-paired h.bottom leaves lowest.0 lowest.1))
      lowest.2 in
      record {
        size = long;
        count = r.count;
        levels = λ k below. let more : length (get_or rows k []) * 2 ^ suc k ≡ 2 * (length (get_or rows k []) * 2 ^ k) =
            rw (pow-succ' 2 k) (grind arith) in let level = r.lengths k (omega (arith, r.count)) in omega arith;
        roots = λ k q below within. roots_of m lowest.0 lowest.1 r k q (omega (arith, r.count)) within;
      }

  pub rooted-ok : IsTreeSize (length leaves) → rows_of h (upper_levels leaves) leaves ≡ Ok rows → leaves_with_root h
      leaves ≡ Ok leaves
  rooted-ok size is = ap (λ o. o >>= λ _. Ok leaves) (root_of-rows h (upper_levels leaves) leaves
      (upper_levels-size leaves size)) ∙ rw is refl

pub rooted-refused : (h : HashPair) (leaves : List Digest) (e : Error) → IsTreeSize (length leaves)
    → rows_of h (upper_levels leaves) leaves ≡ Err e → leaves_with_root h leaves ≡ Err e
rooted-refused h leaves e size is = ap (λ o. o >>= λ _. Ok leaves) (root_of-rows h (upper_levels leaves) leaves
    (upper_levels-size leaves size)) ∙ rw is refl

-- parameters of equal meanings make equal pairs
pub pair_of-same : {P : Type 0} (conversion : Digest → Outcome Digest) (evaluated compressed : P → Digest → Digest
    → Outcome Digest) (p q : P) → evaluated p ≡ evaluated q → compressed p ≡ compressed q → pair_of conversion evaluated
    compressed p ≡ pair_of conversion evaluated compressed q
pair_of-same conversion evaluated compressed p q e c =
    λ i. record { bottom = bottom_pair conversion (e i); upper = c i }

-- a copy of a tree is one
pub is_tree-copied : (h k : HashPair) (leaves copies : List Digest) (rows again : List (List Digest)) → h ≡ k → leaves
    ≡ copies → rows ≡ again → IsTree h leaves rows → IsTree k copies again
is_tree-copied h k leaves copies rows again pair same alike tree = rw (← pair, ← same, ← alike) tree

-- Digests that are put into rows, on the way of an index.
use Rattle.std.proofs.Common.{suc, ◌≡◌, ℕ, ◌+◌, ◌/◌, ◌<◌, ◌≤◌, ◌^◌, List, [], length, get_or, set, add-one, arith, ◌∙◌, inl, inr}
use Rattle.std.proofs.lemmas.List.{length-set, get_or-set_same, get_or-set_other}
use Rattle.std.proofs.lemmas.Bool.{cases_lt}
use Rattle.ark_paths.specs.Pair.{Digest}
use Rattle.ark_paths.specs.Rows.{HoldsIndex}
use Rattle.ark_paths.proofs.PlaceLemmas.{place-inside}

-- The digests of a way stand in the first rows; the other rows, and what is left of the way, are as before.
pub record ArePut (before : List (List Digest)) (index : ℕ) (way : List Digest) (level : ℕ) (rows : List (List Digest))
    (left : List Digest) : Type 0 where
  pub count : length rows ≡ length before
  pub long : length left ≡ length way
  pub put : (k : ℕ) → k < level → get_or rows k [] ≡ set (get_or before k []) (index / 2 ^ suc k) (get_or way k [])
  pub above : (k : ℕ) → level ≤ k → get_or rows k [] ≡ get_or before k []
  pub to_put : (k : ℕ) → level ≤ k → get_or left k [] ≡ get_or way k []

module _ (before : List (List Digest)) (index : ℕ) (way : List Digest) where
  module _ (level : ℕ) (rows : List (List Digest)) (left : List Digest) (so : ArePut before index way level rows
      left) where
    pub are_put-more : (row : List Digest) (gone : Digest) → level < length rows → row ≡ set (get_or rows level [])
        (index / 2 ^ (level + 1)) (get_or left level []) → ArePut before index way (level + 1) (set rows level row)
        (set left level gone)
    are_put-more row gone below is =
        let here = rw (add-one, so.above level (omega arith), so.to_put level (omega arith)) at is in
        record {
          count = length-set rows level row ∙ so.count;
          long = length-set left level gone ∙ so.long;
          put = λ k under. elim (cases_lt k level) [
            | inl lt ↦ get_or-set_other rows level k row [] (λ e. absurd (omega arith)) ∙ so.put k lt
            | inr ge ↦ let same : k ≡ level = omega arith in rw same (get_or-set_same rows level row [] below ∙ here)
          ];
          above = λ k from. get_or-set_other rows level k row [] (λ e. absurd (omega arith)) ∙ so.above k (omega arith);
          to_put = λ k from.
              get_or-set_other left level k gone [] (λ e. absurd (omega arith)) ∙ so.to_put k (omega arith);
        }

    -- the row of the level still has the place of the index
    pub place-to_put : HoldsIndex before index → level < length rows → index / 2 ^ (level + 1) < length
        (get_or rows level [])
    place-to_put holds below =
        rw (add-one, so.above level (omega arith)) (place-inside before holds.size holds.levels level index
        (omega (arith, so.count)) holds.inside)

-- A tree lies where it lay, whatever is written behind the forks and the entries that were there.
use Rattle.std.proofs.Common.{◌≡◌, ℕ, ◌<◌, ◌≤◌, List, [], length, take, drop, get_or, arith, ap, sym, ◌∙◌, subst}
use Rattle.std.proofs.lemmas.List.{get_or-take, take-take}
use Rattle.ark_base.specs.Digits.{number_of_bytes}
use Rattle.merkle_map.specs.Changes.{entry_of}
use Rattle.merkle_map.specs.Map.{MapHashes}
use Rattle.merkle_map.specs.Tree.{Shape, Empty, One, Fork, Hidden, shape_digest}
use Rattle.kept_map.specs.KeptMap.{LaidAt, IsKeptFor, left_at, right_at}

-- The items at the first places, so many, are the same.
abbrev pub SameBelow : ℕ → List (List ℕ) → List (List ℕ) → Type 0
SameBelow count xs ys = (i : ℕ) → i < count → get_or xs i [] ≡ get_or ys i []

pub same_taken : (count : ℕ) (xs ys : List (List ℕ)) → take count ys ≡ take count xs → SameBelow count xs ys
same_taken count xs ys same i below = sym (get_or-take count xs i [] below)
    ∙ ap (λ l. get_or l i []) (sym same) ∙ get_or-take count ys i [] below

-- what is the same at so many places is so at fewer
pub same_fewer : (few count : ℕ) (xs ys : List (List ℕ)) → few ≤ count → SameBelow count xs ys → SameBelow few xs ys
same_fewer few count xs ys within same i below = same i (omega (arith, within, below))

-- two changes that keep the first forks, so many
pub take-before : (count more : ℕ) (old next new : List (List ℕ)) → count ≤ more → take count next ≡ take count old
    → take more new ≡ take more next → take count new ≡ take count old
take-before count more old next new within first second =
    sym (take-take count more new within) ∙ ap (take count) second ∙ take-take count more next within ∙ first

module _ (h : MapHashes) (entries : List (List ℕ)) (old new : List (List ℕ)) where
  pub lies-same : (count more number : ℕ) (tree : Shape) → count ≤ more → SameBelow count old new
      → LaidAt h entries old count number tree → LaidAt h entries new more number tree
  lies-same count more number Empty within same lies = lies
  lies-same count more number (One entry) within same lies = lies
  lies-same count more number (Fork left right) within same lies =
      let below = lies.2 in
      let is = same lies.0 below in
      let inner = same_fewer lies.0 count old new (omega (arith, below)) same in (
        lies.0,
        lies.1,
        omega (arith, below, within),
        subst (λ item. IsKeptFor (shape_digest h (Fork left right)) (take 32 item)) is lies.3,
        subst (λ item. LaidAt h entries new lies.0 (number_of_bytes (take 8 (drop 32 item))) left) is
            (lies-same lies.0 lies.0 (left_at old lies.0) left (omega arith) inner lies.4),
        subst (λ item. LaidAt h entries new lies.0 (number_of_bytes (drop 40 item)) right) is
            (lies-same lies.0 lies.0 (right_at old lies.0) right (omega arith) inner lies.5),
      )
  lies-same count more number (Hidden digest) within same lies = lies

  pub lies-kept : (count more number : ℕ) (tree : Shape) → count ≤ more → take count new ≡ take count old
      → LaidAt h entries old count number tree → LaidAt h entries new more number tree
  lies-kept count more number tree within same = lies-same count more number tree within (same_taken count old new same)

-- entries that are written behind those that were there
module _ (h : MapHashes) (old new forks : List (List ℕ)) (longer : length old ≤ length new)
    (same : SameBelow (length old) old new) where
  pub lies-behind : (count number : ℕ) (tree : Shape) → LaidAt h old forks count number tree
      → LaidAt h new forks count number tree
  lies-behind count number Empty lies = lies
  lies-behind count number (One entry) lies =
      let below = lies.2 in (
        lies.0,
        lies.1,
        omega (arith, below, longer),
        ap (λ item. entry_of (take 32 item) (drop 32 item)) (sym (same lies.0 below)) ∙ lies.3,
      )
  lies-behind count number (Fork left right) lies = (
    lies.0,
    lies.1,
    lies.2,
    lies.3,
    lies-behind lies.0 (left_at forks lies.0) left lies.4,
    lies-behind lies.0 (right_at forks lies.0) right lies.5,
  )
  lies-behind count number (Hidden digest) lies = lies

-- What lies at a number.
use Rattle.std.proofs.Common.{◌≡◌, ◌<◌, ◌≤◌, ◌+◌, ◌*◌, ℕ, Bool, true, false, List, ◌∷◌, length, take, arith, refl, ap, sym, ◌∙◌, subst}
use Rattle.std.proofs.lemmas.List.{length-take}
use Rattle.merkle_map.specs.Map.{MapHashes}
use Rattle.merkle_map.specs.Tree.{Shape, Empty, One, Fork, Hidden, StandsAt, shape_digest, weight}
use Rattle.kept_map.specs.KeptMap.{IsKeptFor, LaidAt, entry_in, fork_count, kept_digest, left_at, right_at}
use Rattle.kept_map.specs.Parts.{IsThere, part_number}
use Rattle.kept_map.specs.declared.nodes.Part.{Part}
use Rattle.kept_map.specs.declared.nodes.Part.TheVariants.{Nothing, Entry as EntryAt, Fork as ForkAt}

-- A fork lies there, and its sides at the numbers that it has.
pub record IsForkOf (h : MapHashes) (entries forks : List (List ℕ)) (count k : ℕ) (tree : Shape) : Type 0 where
  pub left : Shape
  pub right : Shape
  pub is : tree ≡ Fork left right
  pub within : k < count
  pub digest : IsKeptFor (shape_digest h tree) (kept_digest forks k)
  pub on_left : LaidAt h entries forks k (left_at forks k) left
  pub on_right : LaidAt h entries forks k (right_at forks k) right

module _ (h : MapHashes) (entries forks : List (List ℕ)) where
  pub lies-nothing : (count number : ℕ) (tree : Shape) → number ≡ 0 → LaidAt h entries forks count number tree
      → tree ≡ Empty
  lies-nothing count number Empty e lies = refl
  lies-nothing count number (One entry) e lies = let f = lies.1 in absurd (omega arith)
  lies-nothing count number (Fork left right) e lies = let f = lies.1 in absurd (omega arith)
  lies-nothing count number (Hidden digest) e lies = absurd lies

  pub lies-entry : (count number k : ℕ) (tree : Shape) → number ≡ 2 * k + 1
      → LaidAt h entries forks count number tree → (k < length entries) × (tree ≡ One (entry_in entries k))
  lies-entry count number k Empty e lies = let f : number ≡ 0 = lies in absurd (omega arith)
  lies-entry count number k (One entry) e lies =
      let f = lies.1 in
      let same : lies.0 ≡ k = omega arith in
      let within = lies.2 in
      (omega arith, ap One (sym lies.3 ∙ ap (entry_in entries) same))
  lies-entry count number k (Fork left right) e lies = let f = lies.1 in absurd (omega arith)
  lies-entry count number k (Hidden digest) e lies = absurd lies

  pub lies-fork : (count number k : ℕ) (tree : Shape) → number ≡ 2 * k + 2 → LaidAt h entries forks count number tree
      → IsForkOf h entries forks count k tree
  lies-fork count number k Empty e lies = let f : number ≡ 0 = lies in absurd (omega arith)
  lies-fork count number k (One entry) e lies = let f = lies.1 in absurd (omega arith)
  lies-fork count number k (Fork l r) e lies =
      let f = lies.1 in
      let same : lies.0 ≡ k = omega arith in
      subst (λ n. IsForkOf h entries forks count n (Fork l r)) same (record {
        left = l;
        right = r;
        is = refl;
        within = lies.2;
        digest = lies.3;
        on_left = lies.4;
        on_right = lies.5;
      })
  lies-fork count number k (Hidden digest) e lies = absurd lies

-- its number names something there
pub lies-part : (h : MapHashes) (entries forks : List (List ℕ)) (first count number : ℕ) (tree : Shape)
    → LaidAt h (take first entries) forks count number tree
    → (part : Part) × (part_number part ≡ number) × IsThere (length entries) count part
lies-part h entries forks first count number Empty lies = (Nothing, sym lies, tt)
lies-part h entries forks first count number (One entry) lies =
    let long = length-take first entries in
    let within = lies.2 in
    (EntryAt lies.0, sym lies.1, omega arith)
lies-part h entries forks first count number (Fork left right) lies = (ForkAt lies.0, sym lies.1, lies.2)
lies-part h entries forks first count number (Hidden digest) lies = absurd lies

-- The sides of a fork stand a level down.
pub record AreSides (level : ℕ) (bits : List Bool) (left right : Shape) : Type 0 where
  pub within : level < 256
  pub weighs : 2 ≤ weight left + weight right
  pub on_left : StandsAt (false ∷ bits) left
  pub on_right : StandsAt (true ∷ bits) right
  pub long : (b : Bool) → length (b ∷ bits) ≡ level + 1

pub sides-stand : (level : ℕ) (bits : List Bool) (tree left right : Shape) → length bits ≡ level
    → tree ≡ Fork left right → StandsAt bits tree → AreSides level bits left right
sides-stand level bits tree left right long is stands =
    let s : StandsAt bits (Fork left right) = subst (StandsAt bits) is stands in
    let short : length bits < 256 = s.0 in
    record {
      within = omega (arith, short, long);
      weighs = s.1;
      on_left = s.2;
      on_right = s.3;
      long = λ b. omega
          (arith, long);
    }

-- A fork lies there, some levels below the root where bits lead, and its sides at the numbers that it has.
pub record IsForkBelow (h : MapHashes) (entries forks : List (List ℕ)) (k level : ℕ) (bits : List Bool) (tree : Shape)
    : Type 0 where
  pub left : Shape
  pub right : Shape
  pub is : tree ≡ Fork left right
  pub on_left : LaidAt h entries forks k (left_at forks k) left
  pub on_right : LaidAt h entries forks k (right_at forks k) right
  pub sides : AreSides level bits left right
  pub counts : fork_count tree ≡ 1 + (fork_count left + fork_count right)

pub fork-below : (h : MapHashes) (entries forks : List (List ℕ)) (count number k level : ℕ) (bits : List Bool)
    (tree : Shape) → number ≡ 2 * k + 2 → LaidAt h entries forks count number tree → StandsAt bits tree
    → length bits ≡ level → IsForkBelow h entries forks k level bits tree
fork-below h entries forks count number k level bits tree e lies stands long =
    let it = lies-fork h entries forks count number k tree e lies in
    record {
      left = it.left;
      right = it.right;
      is = it.is;
      on_left = it.on_left;
      on_right = it.on_right;
      sides = sides-stand level bits tree it.left it.right long it.is stands;
      counts = ap fork_count it.is;
    }

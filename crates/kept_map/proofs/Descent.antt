-- Trees that lie in memory, a level further down a key's way.
use Rattle.std.proofs.Common.{Result, Ok, Err, OnErr, ◌≡◌, ℕ, suc, ◌+◌, ◌*◌, ◌<◌, ◌≤◌, Bool, true, false, if◌then◌else◌, List, ◌∷◌, length, arith, refl, sym, subst}
use Rattle.merkle_map.specs.Map.{Key, MapHashes, bit_of}
use Rattle.merkle_map.specs.Tree.{Shape, Empty, One, Fork, Hidden, StandsAt, way, weight}
use Rattle.merkle_map.proofs.Keys.{length-way}
use Rattle.kept_map.specs.KeptMap.{LaidAt, entry_in, left_at, right_at}
use Rattle.kept_map.specs.Lying.{LiesOn}
use Rattle.kept_map.specs.Parts.{part_number, IsThere}
use Rattle.kept_map.specs.declared.nodes.Part.{Part}
use Rattle.kept_map.specs.declared.nodes.Part.TheVariants.{Nothing, Entry as EntryPart, Fork as ForkPart}
use Rattle.kept_map.proofs.Frames.{lies-kept}
use Rattle.kept_map.proofs.Lies.{IsForkOf, lies-nothing, lies-entry, lies-fork}

pub on_err : {T E P : Type 0} (r : Result T E) → P → OnErr r P
on_err (Ok x) p = tt
on_err (Err e) p = p

-- one of two by a bit
abbrev pub sided : {A : Type 0} → Bool → A → A → A
sided bit left right = if bit then right else left

-- A fork lies at a place, and the key's way goes on below it.
pub record ForkOn (h : MapHashes) (entries forks : List (List ℕ)) (count k level : ℕ) (key : Key) (tree : Shape)
    : Type 0 where
  pub bound : ℕ
  pub inside : bound ≤ count
  pub at : IsForkOf h entries forks bound k tree
  pub below : level < 256
  pub weighs : 2 ≤ weight at.left + weight at.right
  pub side : (bit : Bool) → bit_of level key ≡ bit → (number : ℕ)
      → number ≡ sided bit (left_at forks k) (right_at forks k)
      → LiesOn h entries forks count number (level + 1) key (sided bit at.left at.right)

module _ (h : MapHashes) (entries forks : List (List ℕ)) (count : ℕ) (number level : ℕ) (key : Key) (tree : Shape)
    (on : LiesOn h entries forks count number level key tree) where
  -- it lies among the first forks, so many
  pub lies-within : LaidAt h entries forks count number tree
  lies-within = lies-kept h entries forks forks on.bound count number tree on.inside refl on.lies

  pub nothing-on : 0 ≡ number → tree ≡ Empty
  nothing-on is = lies-nothing h entries forks on.bound number tree (sym is) on.lies

  pub entry-on : (k : ℕ) → 2 * k + 1 ≡ number → tree ≡ One (entry_in entries k)
  entry-on k is = (lies-entry h entries forks on.bound number k tree (sym is) on.lies).1

  pub fork-on : (k : ℕ) → 2 * k + 2 ≡ number → ForkOn h entries forks count k level key tree
  fork-on k is =
      let at = lies-fork h entries forks on.bound number k tree (sym is) on.lies in
      let stands : StandsAt (way level key) (Fork at.left at.right) = subst (StandsAt (way level key)) at.is
      on.stands in
      let long = length-way level key in
      let next : suc level ≡ level + 1 = omega arith in
      record {
        bound = on.bound;
        inside = on.inside;
        at = at;
        below = omega (arith, stands.0, long);
        weighs = stands.1;
        side = λ bit here number same. record {
          bound = k;
          inside = let b = at.within in let i = on.inside in omega (arith, b, i);
          lies = subst (λ n. LaidAt h entries forks k n (sided bit at.left at.right)) (sym same) (on_side at bit);
          stands = subst (λ n. StandsAt (way n key) (sided bit at.left at.right)) next
              (subst (λ b. StandsAt (b ∷ way level key) (sided bit at.left at.right)) (sym here)
              (standing (way level key) at.left at.right stands bit));
        };
      }
    where
      on_side : (at : IsForkOf h entries forks on.bound k tree) (bit : Bool)
          → LaidAt h entries forks k (sided bit (left_at forks k) (right_at forks k)) (sided bit at.left at.right)
      on_side at true = at.on_right
      on_side at false = at.on_left

      standing : (bits : List Bool) (left right : Shape) → StandsAt bits (Fork left right) → (bit : Bool)
          → StandsAt (bit ∷ bits) (sided bit left right)
      standing bits left right stands true = stands.3
      standing bits left right stands false = stands.2

  -- Where no part has the number, no tree lies.
  pub none-on : ((part : Part) → part_number part ≡ number → IsThere (length entries) count part → ⊥) → ⊥
  none-on none = by_tree tree on.lies
    where
      by_tree : (tree : Shape) → LaidAt h entries forks on.bound number tree → ⊥
      by_tree Empty lies = none Nothing (sym lies) tt
      by_tree (One entry) lies = none (EntryPart lies.0) (sym lies.1) lies.2
      by_tree (Fork left right) lies =
          let below : lies.0 < count = let b = lies.2 in let i = on.inside in omega (arith, b, i) in
          none (ForkPart lies.0) (sym lies.1) below
      by_tree (Hidden digest) lies = lies

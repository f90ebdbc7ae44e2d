-- An entry is removed from a tree that lies in memory.
use Rattle.std.proofs.Common.{◌≡◌, ℕ, ◌+◌, ◌≤◌, Bool, true, false, not, if◌then◌else◌, List, Ok, arith, refl, ap, sym, ◌∙◌, subst}
use Rattle.std.specs.Str.{bytes_eq}
use Rattle.ark_base.specs.Outcome.{Outcome, ◌>>=◌}
use Rattle.merkle_map.specs.Changes.{is_alone, losing, rejoined}
use Rattle.merkle_map.specs.Map.{Digest, Entry, Key, MapHashes, bit_of}
use Rattle.merkle_map.specs.Tree.{Shape, Empty, One, Fork, Hidden}
use Rattle.merkle_map.proofs.Places.{losing-on}
use Rattle.kept_map.specs.Changed.{rejoined_of}
use Rattle.kept_map.specs.KeptMap.{LaidAt, fork_count}
use Rattle.kept_map.specs.Lying.{LiesMade}
use Rattle.kept_map.proofs.Descent.{ForkOn, sided}
use Rattle.kept_map.proofs.Made.{count-sides}

-- ---- two sides

pub rejoined-right : (nothing : Digest) (left right : Shape) → is_alone right left ≡ true
    → rejoined nothing left right ≡ Ok right
rejoined-right nothing Empty Empty alone = refl
rejoined-right nothing Empty (One e) alone = refl
rejoined-right nothing Empty (Fork a b) alone = absurd cc
rejoined-right nothing Empty (Hidden d) alone = absurd cc
rejoined-right nothing (One e) Empty alone = absurd cc
rejoined-right nothing (One e) (One f) alone = absurd cc
rejoined-right nothing (One e) (Fork a b) alone = absurd cc
rejoined-right nothing (One e) (Hidden d) alone = absurd cc
rejoined-right nothing (Fork a b) Empty alone = absurd cc
rejoined-right nothing (Fork a b) (One e) alone = absurd cc
rejoined-right nothing (Fork a b) (Fork c d) alone = absurd cc
rejoined-right nothing (Fork a b) (Hidden d) alone = absurd cc
rejoined-right nothing (Hidden d) Empty alone = absurd cc
rejoined-right nothing (Hidden d) (One e) alone = absurd cc
rejoined-right nothing (Hidden d) (Fork a b) alone = absurd cc
rejoined-right nothing (Hidden d) (Hidden e) alone = absurd cc

pub rejoined-left : (nothing : Digest) (left right : Shape) → is_alone left right ≡ true
    → rejoined nothing left right ≡ Ok left
rejoined-left nothing Empty Empty alone = refl
rejoined-left nothing Empty (One e) alone = absurd cc
rejoined-left nothing Empty (Fork a b) alone = absurd cc
rejoined-left nothing Empty (Hidden d) alone = absurd cc
rejoined-left nothing (One e) Empty alone = refl
rejoined-left nothing (One e) (One f) alone = absurd cc
rejoined-left nothing (One e) (Fork a b) alone = absurd cc
rejoined-left nothing (One e) (Hidden d) alone = absurd cc
rejoined-left nothing (Fork a b) Empty alone = absurd cc
rejoined-left nothing (Fork a b) (One e) alone = absurd cc
rejoined-left nothing (Fork a b) (Fork c d) alone = absurd cc
rejoined-left nothing (Fork a b) (Hidden d) alone = absurd cc
rejoined-left nothing (Hidden d) Empty alone = absurd cc
rejoined-left nothing (Hidden d) (One e) alone = absurd cc
rejoined-left nothing (Hidden d) (Fork a b) alone = absurd cc
rejoined-left nothing (Hidden d) (Hidden e) alone = absurd cc

-- what lies in memory is not hidden
module _ (h : MapHashes) (entries forks : List (List ℕ)) (count l r : ℕ) (nothing : Digest) where
  pub rejoined-both : (left right : Shape) → LaidAt h entries forks count l left → LaidAt h entries forks count r right
      → is_alone right left ≡ false → is_alone left right ≡ false → rejoined nothing left right ≡ Ok (Fork left right)
  rejoined-both Empty Empty on_left on_right a b = absurd cc
  rejoined-both Empty (One e) on_left on_right a b = absurd cc
  rejoined-both Empty (Fork c d) on_left on_right a b = refl
  rejoined-both Empty (Hidden d) on_left on_right a b = absurd on_right
  rejoined-both (One e) Empty on_left on_right a b = absurd cc
  rejoined-both (One e) (One f) on_left on_right a b = refl
  rejoined-both (One e) (Fork c d) on_left on_right a b = refl
  rejoined-both (One e) (Hidden d) on_left on_right a b = absurd on_right
  rejoined-both (Fork x y) Empty on_left on_right a b = refl
  rejoined-both (Fork x y) (One e) on_left on_right a b = refl
  rejoined-both (Fork x y) (Fork c d) on_left on_right a b = refl
  rejoined-both (Fork x y) (Hidden d) on_left on_right a b = absurd on_right
  rejoined-both (Hidden d) right on_left on_right a b = absurd on_left

-- a tree that lies is what is made
pub made-is : (h : MapHashes) (entries forks : List (List ℕ)) (count number : ℕ) (tree : Shape) (made : Outcome Shape)
    (had : ℕ) → made ≡ Ok tree → LaidAt h entries forks count number tree × (fork_count tree ≤ had)
    → LiesMade h entries forks count number made count had
made-is h entries forks count number tree made had is lies = record {
  tree = tree;
  is = is;
  lies = lies.0;
  written = let few = lies.1 in omega (arith, few);
}

-- a fork of two sides is what is made
module _ (h : MapHashes) (entries forks : List (List ℕ)) (count more number : ℕ) where
  pub forked : (left right : Shape)
      (made : Outcome Shape) → made ≡ Ok (Fork left right) → more ≡ count + 1
      → LaidAt h entries forks (count + 1) number (Fork left right)
      → LiesMade h entries forks more number made count (fork_count left + fork_count right)
  forked left right made is one lies = record {
    tree = Fork left right;
    is = is;
    lies = subst (λ n. LaidAt h entries forks n number (Fork left right)) (sym one) lies;
    written = omega (arith, one);
  }

-- how many forks two sides had, in either order
pub made-turned : (h : MapHashes) (entries forks : List (List ℕ)) (count number : ℕ) (made : Outcome Shape)
    (before a b : ℕ) → LiesMade h entries forks count number made before (a + b)
    → LiesMade h entries forks count number made before (b + a)
made-turned h entries forks count number made before a b known = record {
  tree = known.tree;
  is = known.is;
  lies = known.lies;
  written = let w = known.written in omega (arith, w);
}

-- ---- what becomes of nothing and of an entry

module _ (nothing : Digest) (level : ℕ) (key : Key) (tree : Shape) where
  pub losing-nothing : tree ≡ Empty → losing nothing level key tree ≡ Ok Empty
  losing-nothing is = ap (losing nothing level key) is

  by_test : (other : Entry) → tree ≡ One other → (b : Bool) → bytes_eq other.key key ≡ b
      → losing nothing level key tree ≡ Ok (if b then Empty else One other)
  by_test other is b same = ap (losing nothing level key) is ∙ ap (λ b. Ok (if b then Empty else One other)) same

  pub losing-own : (other : Entry) → tree ≡ One other → bytes_eq other.key key ≡ true
      → losing nothing level key tree ≡ Ok Empty
  losing-own other is same = by_test other is true same

  pub losing-other : (other : Entry) → tree ≡ One other → bytes_eq other.key key ≡ false
      → losing nothing level key tree ≡ Ok (One other)
  losing-other other is differ = by_test other is false differ

-- ---- what becomes of a fork

module _ (nothing : Digest) (key : Key) (level : ℕ) where
  losing-side : (whole left right after : Shape) → whole ≡ Fork left right
      → (bit : Bool) → bit_of level key ≡ bit → losing nothing (level + 1) key (sided bit left right) ≡ Ok after
      → losing nothing level key whole ≡ rejoined_of bit nothing after (sided (not bit) left right)
  losing-side whole left right after fork true here is =
      losing-on level fork nothing key true here ∙ ap (λ o. o >>= λ r. rejoined nothing left r) is
  losing-side whole left right after fork false here is =
      losing-on level fork nothing key false here ∙ ap (λ o. o >>= λ l. rejoined nothing l right) is

module _ (h : MapHashes) (entries old next new : List (List ℕ)) (count most more number side : ℕ) where
  pub remove-fork : (nothing : Digest) (k level : ℕ) (key : Key) (tree : Shape)
      (fork : ForkOn h entries old count k level key tree) (bit : Bool) → bit_of level key ≡ bit
      → (under : LiesMade h entries next most side (losing nothing (level + 1) key (sided bit fork.at.left
      fork.at.right))
      count (fork_count (sided bit fork.at.left fork.at.right)))
      → LiesMade h entries new more number
      (rejoined_of bit nothing under.tree (sided (not bit) fork.at.left fork.at.right)) most
      (fork_count under.tree + fork_count (sided (not bit) fork.at.left fork.at.right))
      → LiesMade h entries new more number (losing nothing level key tree) count (fork_count tree)
  remove-fork nothing k level key tree fork bit here under joined = record {
    tree = joined.tree;
    is = losing-side nothing key level tree fork.at.left fork.at.right under.tree fork.at.is bit here under.is
        ∙ joined.is;
    lies = joined.lies;
    written =
        let s = count-sides bit fork.at.left fork.at.right in
        let f = ap fork_count fork.at.is in
        let w = under.written in
        let j = joined.written in
        omega (arith, s, f, w, j);
  }

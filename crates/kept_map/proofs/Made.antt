-- Trees that a call makes behind the forks that were there.
use Rattle.std.proofs.Common.{◌≡◌, ℕ, suc, ◌+◌, ◌-◌, ◌*◌, ◌<◌, Bool, true, false, not, if◌then◌else◌, List, length, take, replicate, Ok, arith, refl, ap, sym, ◌∙◌, subst, inl}
use Rattle.std.proofs.Math.Bool.{beq}
use Rattle.ark_base.specs.declared.error.Error.{Error}
use Rattle.ark_base.specs.Laws.Steps.{done_injective}
use Rattle.ark_base.specs.Outcome.{◌>>=◌}
use Rattle.merkle_map.specs.Changes.{two_of, with_value}
use Rattle.merkle_map.specs.Map.{Entry, MapHashes, bit_of}
use Rattle.merkle_map.specs.Tree.{Shape, Empty, One, Fork}
use Rattle.merkle_map.proofs.Two.{two-next}
use Rattle.kept_map.specs.Changed.{fork_of, side_of}
use Rattle.kept_map.specs.KeptMap.{LaidAt, kept_digest, entry_in, fork_count, left_at, right_at}
use Rattle.kept_map.specs.Lying.{LiesMade}
use Rattle.kept_map.proofs.Descent.{sided}
use Rattle.kept_map.proofs.Frames.{lies-kept}
use Rattle.kept_map.proofs.Lies.{IsForkOf}

-- a fork that is written over two trees
module _ (h : MapHashes) (entries old new : List (List ℕ)) (count number : ℕ)
    (before : take count new ≡ take count old) (blank : kept_digest new count ≡ replicate 32 0)
    (is : number ≡ 2 * count + 2) where
  pub fork-made : (left right : Shape) → LaidAt h entries old count (left_at new count) left
      → LaidAt h entries old count (right_at new count) right
      → LaidAt h entries new (count + 1) number (Fork left right)
  fork-made left right on_left on_right = (
    count,
    is,
    omega arith,
    inl blank,
    lies-kept h entries old new count count (left_at new count) left (omega arith) before on_left,
    lies-kept h entries old new count count (right_at new count) right (omega arith) before on_right,
  )

  -- by the side on which the first of them stands
  pub sides-made : (bit : Bool) (own beside : ℕ) (tree other : Shape) → left_at new count ≡ sided bit own beside
      → right_at new count ≡ sided bit beside own → LaidAt h entries old count own tree
      → LaidAt h entries old count beside other → LaidAt h entries new (count + 1) number (fork_of bit tree other)
  sides-made true own beside tree other l r lies lies_beside = fork-made other tree
      (subst (λ n. LaidAt h entries old count n other) (sym l) lies_beside)
      (subst (λ n. LaidAt h entries old count n tree) (sym r) lies)
  sides-made false own beside tree other l r lies lies_beside = fork-made tree other
      (subst (λ n. LaidAt h entries old count n tree) (sym l) lies)
      (subst (λ n. LaidAt h entries old count n other) (sym r) lies_beside)

-- what stands beside the key's way
pub beside-on : (h : MapHashes) (entries forks : List (List ℕ)) (count k : ℕ) (tree : Shape)
    (at : IsForkOf h entries forks count k tree) (bit : Bool)
    → LaidAt h entries forks k (side_of bit forks k) (sided bit at.left at.right)
beside-on h entries forks count k tree at true = at.on_right
beside-on h entries forks count k tree at false = at.on_left

-- a tree is put together again of its changed side and of what stands beside it
pub with-side : (own : Entry) (level : ℕ) (left right after : Shape) (bit : Bool) → bit_of level own.key ≡ bit
    → with_value (level + 1) own (sided bit left right) ≡ Ok after
    → with_value level own (Fork left right) ≡ Ok (fork_of bit after (sided (not bit) left right))
with-side own level left right after bit here is =
    ap (λ b. if b then (with_value (suc level) own right >>= λ r. Ok (Fork left r))
    else (with_value (suc level) own left >>= λ l. Ok (Fork l right))) here
    ∙ by_bit bit (subst (λ n. with_value n own (sided bit left right) ≡ Ok after) next is)
  where
    next : level + 1 ≡ suc level
    next = omega arith

    by_bit : (bit : Bool) → with_value (suc level) own (sided bit left right) ≡ Ok after
        → (if bit then (with_value (suc level) own right >>= λ r. Ok (Fork left r))
        else (with_value (suc level) own left >>= λ l. Ok (Fork l right)))
        ≡ Ok (fork_of bit after (sided (not bit) left right))
    by_bit true is = ap (λ o. o >>= λ r. Ok (Fork left r)) is
    by_bit false is = ap (λ o. o >>= λ l. Ok (Fork l right)) is

-- how many forks it then has
pub count-fork : (bit : Bool) (tree beside : Shape)
    → fork_count (fork_of bit tree beside) ≡ 1 + (fork_count tree + fork_count beside)
count-fork true tree beside = omega arith
count-fork false tree beside = refl

pub count-sides : (bit : Bool) (left right : Shape)
    → fork_count (sided bit left right) + fork_count (sided (not bit) left right) ≡ fork_count left + fork_count right
count-sides true left right = omega arith
count-sides false left right = refl

-- ---- two entries that are told apart

pub turned : (a b : Bool) → not (beq a b) ≡ true → b ≡ not a
turned true true e = absurd cc
turned true false e = refl
turned false true e = refl
turned false false e = absurd cc

pub kept : (a b : Bool) → not (beq a b) ≡ false → b ≡ a
kept true true e = refl
kept true false e = absurd cc
kept false true e = absurd cc
kept false false e = refl

module _ (h : MapHashes) (entries : List (List ℕ)) where
  pub one-lies : (forks : List (List ℕ)) (count number k : ℕ) → number ≡ 2 * k + 1 → k < length entries
      → LaidAt h entries forks count number (One (entry_in entries k))
  one-lies forks count number k is below = (k, is, below, refl)

module _ (level : ℕ) (x y : Entry) (inside : level < 256) where
  -- at the level where two keys part
  pub two-apart : (bit : Bool) → bit_of level x.key ≡ bit → bit_of level y.key ≡ not bit
      → two_of (256 - level) level x y ≡ fork_of bit (One x) (One y)
  two-apart true here there = two-next level x y inside true false here there
  two-apart false here there = two-next level x y inside false true here there

  -- at a level above it
  pub two-together : (bit : Bool) → bit_of level x.key ≡ bit → bit_of level y.key ≡ bit
      → two_of (256 - level) level x y ≡ fork_of bit (two_of (256 - (level + 1)) (level + 1) x y) Empty
  two-together true here there = two-next level x y inside true true here there
  two-together false here there = two-next level x y inside false false here there

-- a fork is made over two entries
module _ (h : MapHashes) (entries new : List (List ℕ)) (count more number : ℕ) where
  pub parted : more ≡ count + 1 → (bit : Bool) (x y : Entry) (made : Shape) → made ≡ fork_of bit (One x) (One y)
      → LaidAt h entries new more number (fork_of bit (One x) (One y))
      → LiesMade h entries new more number (Ok made) count 0
  parted is bit x y made same lies = record {
    tree = fork_of bit (One x) (One y);
    is = ap (λ t. Ok t) same;
    lies = lies;
    written = let c = count-fork bit (One x) (One y) in omega (arith, c, is);
  }

-- a fork is made over a tree that was made
module _ (h : MapHashes) (entries next new : List (List ℕ)) (count most more number below : ℕ) where
  pub together : (made : Shape) (under : LiesMade h entries next most below (Ok made) count 0) → more ≡ most + 1
      → (bit : Bool) (all : Shape) → all ≡ fork_of bit made Empty
      → LaidAt h entries new more number (fork_of bit under.tree Empty)
      → LiesMade h entries new more number (Ok all) count 0
  together made under is bit all same lies = record {
    tree = fork_of bit under.tree Empty;
    is = ap (λ t. Ok t) (same ∙ ap (λ t. fork_of bit t Empty) (done_injective {E = Error} made under.tree under.is));
    lies = lies;
    written =
        let c = count-fork bit under.tree Empty in
        let w = under.written in
        omega (arith, c, is, w);
  }

-- A value is put into a tree that lies in memory.
use Rattle.std.proofs.Common.{◌≡◌, ℕ, ◌+◌, ◌-◌, ◌*◌, ◌<◌, ◌≤◌, Bool, true, false, not, if◌then◌else◌, List, length, take, Ok, arith, refl, ap, sym, ◌∙◌, subst}
use Rattle.std.specs.Str.{bytes_eq}
use Rattle.ark_base.specs.Outcome.{Outcome}
use Rattle.merkle_map.specs.Changes.{two_of, with_value}
use Rattle.merkle_map.specs.Map.{Entry, Key, MapHashes, bit_of}
use Rattle.merkle_map.specs.Tree.{Shape, Empty, One, StandsAt, way}
use Rattle.merkle_map.proofs.Keys.{length-way}
use Rattle.kept_map.specs.Changed.{fork_of, side_of}
use Rattle.kept_map.specs.KeptMap.{LaidAt, entry_in, fork_count}
use Rattle.kept_map.specs.Lying.{LiesMade}
use Rattle.kept_map.proofs.Descent.{ForkOn, sided}
use Rattle.kept_map.proofs.Frames.{lies-kept}
use Rattle.kept_map.proofs.Made.{beside-on, count-fork, count-sides, one-lies, with-side}

-- ---- what becomes of nothing and of an entry

module _ (level : ℕ) (own : Entry) (tree : Shape) where
  pub with-nothing : tree ≡ Empty → with_value level own tree ≡ Ok (One own)
  with-nothing is = ap (with_value level own) is

  by_test : (other : Entry) → tree ≡ One other → (b : Bool) → bytes_eq other.key own.key ≡ b
      → with_value level own tree ≡ Ok (if b then One own else two_of (256 - level) level own other)
  by_test other is b same = ap (with_value level own) is
      ∙ ap (λ b. Ok (if b then One own else two_of (256 - level) level own other)) same

  pub with-same : (other : Entry) → tree ≡ One other → bytes_eq other.key own.key ≡ true
      → with_value level own tree ≡ Ok (One own)
  with-same other is same = by_test other is true same

  pub with-other : (other : Entry) → tree ≡ One other → bytes_eq other.key own.key ≡ false
      → with_value level own tree ≡ Ok (two_of (256 - level) level own other)
  with-other other is differ = by_test other is false differ

-- an entry that stands on a key's way shares it
pub shares-way : (level : ℕ) (key : Key) (tree : Shape) (other : Entry) → tree ≡ One other
    → StandsAt (way level key) tree → way level key ≡ way level other.key
shares-way level key tree other is stands =
    let at = subst (StandsAt (way level key)) is stands in
    sym at.1 ∙ ap (λ n. way n other.key) (length-way level key)

module _ (h : MapHashes) (entries forks : List (List ℕ)) (count number : ℕ) (made : Outcome Shape) where
  -- the new entry alone
  pub made-one : (k had : ℕ) → number ≡ 2 * k + 1 → k < length entries → made ≡ Ok (One (entry_in entries k))
      → LiesMade h entries forks count number made count had
  made-one k had is below same = record {
    tree = One (entry_in entries k);
    is = same;
    lies = one-lies h entries forks count number k is below;
    written = omega arith;
  }

  -- what is made is that of an equal outcome too
  pub made-as : (other : Outcome Shape) (before had : ℕ) → made ≡ other
      → LiesMade h entries forks count number other before 0 → LiesMade h entries forks count number made before had
  made-as other before had same known = record {
    tree = known.tree;
    is = same ∙ known.is;
    lies = known.lies;
    written = let w = known.written in omega (arith, w);
  }

-- ---- what becomes of a fork

-- what stands beside the way stays
module _ (h : MapHashes) (entries old next : List (List ℕ)) (count most : ℕ) where
  pub beside-kept : (k level : ℕ) (key : Key) (tree : Shape) (fork : ForkOn h entries old count k level key tree)
      → count ≤ most → take count next ≡ take count old
      → (bit : Bool) (number : ℕ) → number ≡ side_of bit old k
      → LaidAt h entries next most number (sided bit fork.at.left fork.at.right)
  beside-kept k level key tree fork more before bit number is =
      let beside = sided bit fork.at.left fork.at.right in
      let at = beside-on h entries old fork.bound k tree fork.at bit in
      let below : k ≤ count = let b = fork.at.within in let i = fork.inside in omega (arith, b, i) in
      lies-kept h entries old next count most number beside more before
      (lies-kept h entries old old k count number beside below refl
      (subst (λ n. LaidAt h entries old k n beside) (sym is) at))

-- the fork of the changed side
module _ (h : MapHashes) (entries old next new : List (List ℕ)) (count most more number side : ℕ) where
  pub put-fork : (k level : ℕ) (own : Entry) (tree : Shape) (fork : ForkOn h entries old count k level own.key tree)
      (bit : Bool) → bit_of level own.key ≡ bit
      → (under : LiesMade h entries next most side (with_value (level + 1) own (sided bit fork.at.left
      fork.at.right)) count
      (fork_count (sided bit fork.at.left fork.at.right))) → more ≡ most + 1
      → LaidAt h entries new more number (fork_of bit under.tree (sided (not bit) fork.at.left fork.at.right))
      → LiesMade h entries new more number (with_value level own tree) count (fork_count tree)
  put-fork k level own tree fork bit here under is lies = record {
    tree = fork_of bit under.tree (sided (not bit) fork.at.left fork.at.right);
    is = ap (with_value level own) fork.at.is
        ∙ with-side own level fork.at.left fork.at.right under.tree bit here under.is;
    lies = lies;
    written =
        let c = count-fork bit under.tree (sided (not bit) fork.at.left fork.at.right) in
        let s = count-sides bit fork.at.left fork.at.right in
        let f = ap fork_count fork.at.is in
        let w = under.written in
        omega (arith, c, s, f, w, is);
  }

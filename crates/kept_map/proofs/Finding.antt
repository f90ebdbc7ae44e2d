-- What a tree that lies in memory has at a key.
use Rattle.std.proofs.Common.{◌≡◌, ℕ, suc, ◌+◌, Bool, true, false, if◌then◌else◌, Option, Some, None, List, Result, Ok, Err, IfOk, OnErr, length, take, arith, ap, sym, ◌∙◌}
use Rattle.std.proofs.lemmas.List.{length-take-le}
use Rattle.std.specs.Str.{bytes_eq}
use Rattle.ark_base.specs.declared.error.Error.{Error}
use Rattle.ark_base.specs.Laws.Steps.{done_injective}
use Rattle.ark_base.specs.Outcome.{Outcome}
use Rattle.merkle_map.specs.Changes.{known_at}
use Rattle.merkle_map.specs.Map.{Digest, Entry, Key, MapHashes, bit_of, value_at}
use Rattle.merkle_map.specs.Tree.{Shape, Empty, One}
use Rattle.merkle_map.specs.Whole.{entries_of}
use Rattle.merkle_map.proofs.Keeping.{store-found}
use Rattle.kept_map.specs.declared.head.Head.{Head}
use Rattle.kept_map.specs.declared.head.MapFault.{MapFault}
use Rattle.kept_map.specs.KeptMap.{KeepsMap}
use Rattle.kept_map.specs.Lying.{LiesOn}
use Rattle.kept_map.proofs.Descent.{ForkOn, sided}

module _ (level : ℕ) (key : Key) (tree : Shape) where
  pub found-nothing : tree ≡ Empty → known_at level key tree ≡ Ok None
  found-nothing is = ap (known_at level key) is

  pub found-own : (entry : Entry) (value : Digest) → tree ≡ One entry → bytes_eq entry.key key ≡ true
      → value ≡ entry.value → known_at level key tree ≡ Ok (Some value)
  found-own entry value is same has =
      ap (known_at level key) is ∙ ap (λ b. Ok (if b then Some entry.value else None)) same
      ∙ ap (λ v. Ok (Some v)) (sym has)

  pub found-other : (entry : Entry) → tree ≡ One entry → bytes_eq entry.key key ≡ false
      → known_at level key tree ≡ Ok None
  found-other entry is differ =
      ap (known_at level key) is ∙ ap (λ b. Ok (if b then Some entry.value else None)) differ

-- what is found on the key's side is found
module _ (h : MapHashes) (entries forks : List (List ℕ)) (count k level : ℕ) (key : Key) (tree : Shape)
    (fork : ForkOn h entries forks count k level key tree) where
  pub found-side : (bit : Bool) → bit_of level key ≡ bit → (found : Outcome (Option Digest))
      → known_at (level + 1) key (sided bit fork.at.left fork.at.right) ≡ found → known_at level key tree ≡ found
  found-side bit here found is =
      ap (known_at level key) fork.at.is
      ∙ ap (λ b. if b then known_at (suc level) key fork.at.right else known_at (suc level) key fork.at.left) here
      ∙ by_bit bit ∙ is
    where
      next : suc level ≡ level + 1
      next = omega arith

      by_bit : (bit : Bool) → (if bit then known_at (suc level) key fork.at.right else known_at (suc level) key
          fork.at.left)
          ≡ known_at (level + 1) key (sided bit fork.at.left fork.at.right)
      by_bit true = ap (λ n. known_at n key fork.at.right) next
      by_bit false = ap (λ n. known_at n key fork.at.left) next

-- what a whole map has, by a call on its memory
module _ (h : MapHashes) (entries forks : List (List ℕ)) (head : Head) (xs : List Entry)
    (keeps : KeepsMap h entries forks head xs) where
  pub top-on : (key : Key)
      → LiesOn h (take head.entries entries) (take head.forks forks) (length (take head.forks forks)) head.top 0 key
      keeps.tree
  top-on key = record {
    bound = head.forks;
    inside = let long = length-take-le head.forks forks keeps.forks_room in omega (arith, long);
    lies = keeps.lies;
    stands = keeps.is.stands;
  }

  abbrev On : ℕ → Key → Shape → Type 0
  On level key tree = LiesOn h (take head.entries entries) (take head.forks forks) (length (take head.forks forks))
      head.top level key tree

  pub found-in : (key : Key) (result : Result (Option Digest) MapFault)
      → IfOk result (λ found. On 0 key keeps.tree → known_at 0 key keeps.tree ≡ Ok found)
      → OnErr result (On 0 key keeps.tree → ⊥) → result ≡ Ok (value_at key xs)
  found-in key (Ok found) is none =
      let known = store-found h keeps.tree key keeps.is.stands keeps.is.whole (Ok found) (is (top-on key)) in
      ap Ok (done_injective {E = Error} found (value_at key (entries_of keeps.tree)) known
      ∙ ap (value_at key) keeps.is.has)
  found-in key (Err fault) is none = absurd (none (top-on key))

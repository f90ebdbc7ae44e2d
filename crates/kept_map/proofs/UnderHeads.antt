-- Maps under a head.
use Rattle.std.proofs.Common.{◌≡◌, ◌<◌, ℕ, List, [], get_or, take, drop, Ok, Err, IfOk, Result, arith, ap, sym, ◌∙◌, subst}
use Rattle.std.proofs.lemmas.List.{get_or-take}
use Rattle.merkle_map.specs.Map.{Digest, Entry, MapHashes, root_of_map}
use Rattle.merkle_map.specs.Tree.{Shape, Empty, One, Fork, Hidden, shape_digest}
use Rattle.merkle_map.proofs.Wholes.{root-of-store}
use Rattle.ark_base.specs.Digits.{number_of_bytes}
use Rattle.kept_map.specs.Digests.{IsDigestAt, IsRehashed}
use Rattle.kept_map.specs.KeptMap.{IsKeptFor, KeepsMap, LaidAt, left_at, right_at}
use Rattle.kept_map.specs.declared.head.Head.{Head}
use Rattle.kept_map.specs.declared.head.MapFault.{MapFault}
use Rattle.kept_map.proofs.Rehashing.{still-lies}

-- Below a count the forks are the same.
abbrev pub AreAlike : ℕ → List (List ℕ) → List (List ℕ) → Type 0
AreAlike count a b = (k : ℕ) → k < count → get_or a k [] ≡ get_or b k []

pub lies-alike : (h : MapHashes) (entries a b : List (List ℕ)) (count number : ℕ) (tree : Shape) → AreAlike count a b
    → LaidAt h entries a count number tree → LaidAt h entries b count number tree
lies-alike h entries a b count number Empty alike lies = lies
lies-alike h entries a b count number (One entry) alike lies = lies
lies-alike h entries a b count number (Hidden digest) alike lies = absurd lies
lies-alike h entries a b count number (Fork left right) alike lies =
    let k = lies.0 in
    let within : k < count = lies.2 in
    let same = alike k within in
    let below : AreAlike k a b = λ n inside. alike n (omega (arith, inside, within)) in (
      k,
      lies.1,
      within,
      subst (λ (fork : List ℕ). IsKeptFor (shape_digest h (Fork left right)) (take 32 fork)) same lies.3,
      lies-alike h entries a b k (left_at b k) left below
          (subst (λ (fork : List ℕ). LaidAt h entries a k (number_of_bytes (take 8 (drop 32 fork))) left) same lies.4),
      lies-alike h entries a b k (right_at b k) right below
          (subst (λ (fork : List ℕ). LaidAt h entries a k (number_of_bytes (drop 40 fork)) right) same lies.5),
    )

module _ (h : MapHashes) (entries forks : List (List ℕ)) (head : Head) (xs : List Entry)
    (keeps : KeepsMap h entries forks head xs) where
  -- the map's tree lies among all forks
  pub lies-under : LaidAt h (take head.entries entries) forks head.forks head.top keeps.tree
  lies-under = lies-alike h (take head.entries entries) (take head.forks forks) forks head.forks head.top keeps.tree
      (λ k within. get_or-take head.forks forks k [] within) keeps.lies

  pub root-under : (digest : Digest) → IsDigestAt h entries forks head.top digest → root_of_map h xs ≡ Ok digest
  root-under digest is =
      ap (root_of_map h) (sym keeps.is.has) ∙ root-of-store h keeps.tree keeps.is.stands keeps.is.whole
      ∙ is head.entries head.forks keeps.tree lies-under

  pub still-under : (new : List (List ℕ)) → IsRehashed h entries forks new → KeepsMap h entries new head xs
  still-under new re = record {
    entries_room = keeps.entries_room;
    forks_room = let same = re.size in let room = keeps.forks_room in omega arith;
    tree = keeps.tree;
    lies = lies-alike h (take head.entries entries) new (take head.forks new) head.forks head.top keeps.tree
        (λ k within. sym (get_or-take head.forks new k [] within))
        (still-lies h entries forks new re head.entries head.forks head.top keeps.tree lies-under);
    count = keeps.count;
    is = keeps.is;
  }

-- what a call returned is the root of each map under the head
pub root-found : (h : MapHashes) (entries forks : List (List ℕ)) (head : Head) (result : Result (List ℕ) MapFault)
    → IfOk result (λ digest. IsDigestAt h entries forks head.top digest)
    → IfOk result (λ digest. (xs : List Entry) → KeepsMap h entries forks head xs → root_of_map h xs ≡ Ok digest)
root-found h entries forks head (Ok digest) is = λ xs keeps. root-under h entries forks head xs keeps digest is
root-found h entries forks head (Err fault) is = tt

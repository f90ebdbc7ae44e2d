-- Trees that a check finds in memory.
use Rattle.std.proofs.Common.{◌≡◌, ◌⊎◌, ◌<◌, ◌≤◌, ◌+◌, ◌*◌, ℕ, zero, suc, Bool, true, false, List, [], ◌∷◌, length, get_or, set, take, Ok, Err, Result, IfOk, arith, refl, ap, sym, ◌∙◌, subst, inl, inr}
use Rattle.std.proofs.lemmas.List.{get_or-set_same, get_or-set_other}
use Rattle.std.proofs.lemmas.Bool.{cases_order}
use Rattle.std.proofs.Math.Seq.{take-length}
use Rattle.ark_base.specs.Outcome.{◌>>=◌}
use Rattle.merkle_map.specs.Map.{Digest, Entry, Key, MapHashes, bit_of, root_of_map}
use Rattle.merkle_map.specs.Tree.{IsKey, Shape, Empty, One, Fork, Hidden, StandsAt, shape_digest, way, weight}
use Rattle.merkle_map.specs.Whole.{entries_of}
use Rattle.merkle_map.proofs.Wholes.{heads, root-of-store}
use Rattle.kept_map.specs.Checking.{IsTreeAt, path_bits}
use Rattle.kept_map.specs.Digests.{IsDigestAt}
use Rattle.kept_map.specs.KeptMap.{IsKeptFor, KeepsMap, LaidAt, kept_digest, entry_in, kept_hashes, left_at, right_at}
use Rattle.kept_map.specs.declared.head.Head.{Head}
use Rattle.kept_map.specs.declared.head.MapFault.{MapFault}
use Rattle.kept_map.proofs.Lies.{lies-entry}

-- ---- paths

pub length-path : (level : ℕ) (path : List Bool) → length (path_bits level path) ≡ level
length-path zero path = refl
length-path (suc level) path = ap suc (length-path level path)

path-set : (level k : ℕ) (path : List Bool) (b : Bool) → level ≤ k
    → path_bits level (set path k b) ≡ path_bits level path
path-set zero k path b within = refl
path-set (suc level) k path b within =
    let other : level ≡ k → ⊥ = λ same. omega (arith, within, same) in
    ap (λ c. c ∷ path_bits level (set path k b)) (get_or-set_other path k level b false other)
    ∙ ap (λ (l : List Bool). get_or path level false ∷ l) (path-set level k path b (omega (arith, within)))

pub path-more : (level : ℕ) (path : List Bool) (b : Bool) → level < length path
    → path_bits (level + 1) (set path level b) ≡ b ∷ path_bits level path
path-more level path b inside =
    let next : level + 1 ≡ suc level = omega arith in
    ap (λ n. path_bits n (set path level b)) next
    ∙ ap (λ c. c ∷ path_bits level (set path level b)) (get_or-set_same path level b false inside)
    ∙ ap (λ (l : List Bool). b ∷ l) (path-set level level path b (omega arith))

-- ---- what lies at a number

module _ (h : MapHashes) (entries forks : List (List ℕ)) (count number : ℕ) where
  pub weight-at : (tree : Shape) (w : ℕ) → (number ≡ 0 → w ≡ 0) → ((k : ℕ) → number ≡ 2 * k + 1 → w ≡ 1)
      → ((k : ℕ) → number ≡ 2 * k + 2 → w ≡ 2) → LaidAt h entries forks count number tree → weight tree ≡ w
  weight-at Empty w nothing entry fork lies = sym (nothing lies)
  weight-at (One e) w nothing entry fork lies = sym (entry lies.0 lies.1)
  weight-at (Fork l r) w nothing entry fork lies = sym (fork lies.0 lies.1)
  weight-at (Hidden d) w nothing entry fork lies = absurd lies

  -- a digest is that of a tree among all entries
  pub digest-all : (digest : Digest) (tree : Shape) → IsDigestAt h entries forks number digest
      → LaidAt h entries forks count number tree → shape_digest h tree ≡ Ok digest
  digest-all digest tree is lies = is (length entries) count tree
      (subst (λ es. LaidAt h es forks count number tree) (sym (take-length entries)) lies)

  pub tree-entry : (k level budget : ℕ) (path : List Bool) → number ≡ 2 * k + 1 → k < length entries
      → IsKey (entry_in entries k).key → way level (entry_in entries k).key ≡ path_bits level path
      → IsTreeAt h entries forks count number (path_bits level path) budget budget
  tree-entry k level budget path e inside key on = record {
    tree = One (entry_in entries k);
    lies = (k, e, inside, refl);
    stands = (key, ap (λ n. way n (entry_in entries k).key) (length-path level path) ∙ on);
    whole = tt;
    counted = omega arith;
  }

  -- an entry is on its way
  pub entry-on : (k level : ℕ) (path : List Bool) (tree : Shape) → number ≡ 2 * k + 1
      → LaidAt h entries forks count number tree → StandsAt (path_bits level path) tree
      → way level (entry_in entries k).key ≡ path_bits level path
  entry-on k level path tree e lies stands =
      let there = lies-entry h entries forks count number k tree e lies in
      let s : StandsAt (path_bits level path) (One (entry_in entries k)) =
      subst (StandsAt (path_bits level path)) there.1 stands in
      ap (λ n. way n (entry_in entries k).key) (sym (length-path level path)) ∙ s.1

-- ---- a fork of two sides

-- What a check knows of both sides of a fork.
pub record AreTrees (leaf : List ℕ → List ℕ) (node : List ℕ → List ℕ → List ℕ) (none : Digest)
    (entries forks : List (List ℕ)) (k : ℕ) (bits : List Bool) (l r : Digest) (before after : ℕ) : Type 0 where
  pub between : ℕ
  pub left : IsTreeAt (kept_hashes leaf node none) entries forks k (left_at forks k) (false ∷ bits) before between
  pub right : IsTreeAt (kept_hashes leaf node none) entries forks k (right_at forks k) (true ∷ bits) between after
  pub left_digest : IsDigestAt (kept_hashes leaf node none) entries forks (left_at forks k) l
  pub right_digest : IsDigestAt (kept_hashes leaf node none) entries forks (right_at forks k) r

module _ (leaf : List ℕ → List ℕ) (node : List ℕ → List ℕ → List ℕ) (none : Digest) (entries forks : List (List ℕ))
  where
    abbrev h : MapHashes
    h = kept_hashes leaf node none

    pub tree-fork : (count number k before after : ℕ) (bits : List Bool) (l r : Digest)
        → (sides : AreTrees leaf node none entries forks k bits l r before after) → number ≡ 2 * k + 2 → k < count
        → length bits < 256 → 2 ≤ weight sides.left.tree + weight sides.right.tree
        → IsKeptFor (Ok (node l r)) (kept_digest forks k)
        → IsTreeAt h entries forks count number bits (before + 1) after
    tree-fork count number k before after bits l r sides e below short weighs kept = record {
      tree = Fork left right;
      lies = (
        k,
        e,
        below,
        subst (λ o. IsKeptFor o (kept_digest forks k)) (sym digest) kept,
        sides.left.lies,
        sides.right.lies,
      );
      stands = (short, weighs, sides.left.stands, sides.right.stands);
      whole = (sides.left.whole, sides.right.whole);
      counted = let a = sides.left.counted in let b = sides.right.counted in omega (arith, a, b);
    }
      where
        left : Shape
        left = sides.left.tree

        right : Shape
        right = sides.right.tree

        digest : shape_digest h (Fork sides.left.tree sides.right.tree) ≡ Ok (node l r)
        digest = ap (λ o. o >>= λ l. shape_digest h sides.right.tree >>= λ r. h.pair l r)
            (digest-all h entries forks k (left_at forks k) l sides.left.tree sides.left_digest sides.left.lies)
            ∙ ap (λ o. o >>= λ r. h.pair l r)
            (digest-all h entries forks k (right_at forks k) r sides.right.tree sides.right_digest sides.right.lies)

-- ---- the map

pub map-checked : (h : MapHashes) (entries forks : List (List ℕ)) (head : Head) (digest : Digest) (after : ℕ)
    → head.entries ≤ length entries → head.forks ≤ length forks
    → IsTreeAt h (take head.entries entries) (take head.forks forks) head.forks head.top [] head.forks after
    → IsDigestAt h (take head.entries entries) (take head.forks forks) head.top digest
    → (xs : List Entry) × KeepsMap h entries forks head xs × (root_of_map h xs ≡ Ok digest)
map-checked h entries forks head digest after entries_room forks_room it is = (
  entries_of it.tree,
  record {
    entries_room = entries_room;
    forks_room = forks_room;
    tree = it.tree;
    lies = it.lies;
    count = let c = it.counted in omega (arith, c);
    is = record { stands = it.stands; whole = it.whole; has = refl };
  },
  root-of-store h it.tree it.stands it.whole
      ∙ digest-all h (take head.entries entries) (take head.forks forks) head.forks head.top digest it.tree is it.lies,
)

-- what a check returned is the root of a map that the memory keeps
pub map-found : (h : MapHashes) (entries forks : List (List ℕ)) (head : Head) (after : ℕ)
    (result : Result (List ℕ) MapFault) → head.entries ≤ length entries → head.forks ≤ length forks
    → IfOk result (λ _. IsTreeAt h (take head.entries entries) (take head.forks forks) head.forks head.top [] head.forks
    after)
    → IfOk result (λ digest. IsDigestAt h (take head.entries entries) (take head.forks forks) head.top digest)
    → IfOk result (λ digest. (xs : List Entry) × KeepsMap h entries forks head xs × (root_of_map h xs ≡ Ok digest))
map-found h entries forks head after (Err fault) entries_room forks_room tree is = tt
map-found h entries forks head after (Ok digest) entries_room forks_room tree is =
    map-checked h entries forks head digest after entries_room forks_room tree is

-- ---- bits of a path

pub path-alike : (level n : ℕ) (key : Key) (path : List Bool) → way level key ≡ path_bits level path → n < level
    → bit_of n key ≡ get_or path n false
path-alike zero n key path same inside = absurd (omega (arith, inside))
path-alike (suc level) n key path same inside =
    by_order (cases_order n level)
    (heads (bit_of level key) (get_or path level false) (way level key) (path_bits level path) same)
    (path-alike level n key path)
  where
    by_order : (n ≡ level) ⊎ ((n < level) ⊎ (level < n))
        → (bit_of level key ≡ get_or path level false) × (way level key ≡ path_bits level path)
        → (way level key ≡ path_bits level path → n < level → bit_of n key ≡ get_or path n false)
        → bit_of n key ≡ get_or path n false
    by_order (inl here) both rest =
        ap (λ j. bit_of j key) here ∙ both.0 ∙ ap (λ j. get_or path j false) (sym here)
    by_order (inr (inl before)) both rest = rest both.1 before
    by_order (inr (inr behind)) both rest = absurd (omega (arith, behind, inside))

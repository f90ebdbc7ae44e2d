-- Heads over memory that is written behind what they name.
use Rattle.std.proofs.Common.{◌≡◌, ℕ, ◌+◌, ◌<◌, ◌≤◌, List, [], ◌++◌, length, take, drop, get_or, set, arith, ap, sym, ◌∙◌, subst, take-take, length-set}
use Rattle.std.proofs.lemmas.List.{length-take-le, get_or-take, get_or-set_same, get_or-set_other}
use Rattle.std.proofs.Math.Seq.{take-append_seam, drop-append_seam}
use Rattle.ark_base.specs.Outcome.{Outcome}
use Rattle.merkle_map.specs.Changes.{entry_of}
use Rattle.merkle_map.specs.Map.{Entry, Key, MapHashes}
use Rattle.merkle_map.specs.Tree.{Shape}
use Rattle.merkle_map.specs.Whole.{entries_of}
use Rattle.kept_map.specs.declared.head.Head.{Head}
use Rattle.kept_map.specs.Changed.{IsOlder, KeepsSame}
use Rattle.kept_map.specs.KeptMap.{KeepsMap, LaidAt, entry_in}
use Rattle.kept_map.specs.Lying.{LiesMade, LiesOn}
use Rattle.kept_map.proofs.Frames.{SameBelow, lies-behind, lies-kept}
use Rattle.kept_map.proofs.Stored.{HasOwn}

-- memory of which the front is as it was keeps what it kept
module _ (h : MapHashes) (entries entries_now forks forks_now : List (List ℕ)) (head : Head)
    (e_long : length entries_now ≡ length entries) (f_long : length forks_now ≡ length forks)
    (e_same : take head.entries entries_now ≡ take head.entries entries)
    (f_same : take head.forks forks_now ≡ take head.forks forks) where
  front : (count more : ℕ) (old new : List (List ℕ)) → count ≤ more → take more new ≡ take more old
      → take count old ≡ take count new
  front count more old new within same =
      sym (take-take count more old within) ∙ ap (take count) (sym same) ∙ take-take count more new within

  pub older-kept : (older : Head) (xs : List Entry) → IsOlder older head → KeepsMap h entries forks older xs
      → KeepsMap h entries_now forks_now older xs
  older-kept older xs before keeps = record {
    entries_room = let r = keeps.entries_room in omega (arith, r, e_long);
    forks_room = let r = keeps.forks_room in omega (arith, r, f_long);
    tree = keeps.tree;
    lies = subst (λ l. LaidAt h l (take older.forks forks_now) older.forks older.top keeps.tree)
        (front older.entries head.entries entries entries_now before.0 e_same)
        (subst (λ l. LaidAt h (take older.entries entries) l older.forks older.top keeps.tree)
        (front older.forks head.forks forks forks_now before.1 f_same) keeps.lies);
    count = keeps.count;
    is = keeps.is;
  }

-- a tree that lies among the first forks lies in memory
pub lies-untaken : (h : MapHashes) (entries forks : List (List ℕ)) (count number : ℕ) (tree : Shape)
    → LaidAt h entries (take count forks) count number tree → LaidAt h entries forks count number tree
lies-untaken h entries forks count number tree lies =
    let within : count ≤ count = omega arith in
    lies-kept h entries (take count forks) forks count count number tree within
    (sym (take-take count count forks within)) lies

pub lies-taken : (h : MapHashes) (entries forks : List (List ℕ)) (count number : ℕ) (tree : Shape)
    → LaidAt h entries forks count number tree → LaidAt h entries (take count forks) count number tree
lies-taken h entries forks count number tree lies =
    let within : count ≤ count = omega arith in
    lies-kept h entries forks (take count forks) count count number tree within (take-take count count forks within)
    lies

-- a head over what a call made
module _ (h : MapHashes) (entries forks : List (List ℕ)) (head : Head) (e_room : head.entries ≤ length entries)
    (f_room : head.forks ≤ length forks) where
  pub made-kept : (made : Outcome Shape) (before had : ℕ) → had ≤ before → (xs : List Entry)
      → (known : LiesMade h (take head.entries entries) forks head.forks head.top made before had)
      → HasOwn xs known.tree → KeepsSame h entries forks head xs
  made-kept made before had few xs known has = record {
    own = entries_of known.tree;
    same = has.same;
    keeps = record {
      entries_room = e_room;
      forks_room = f_room;
      tree = known.tree;
      lies = lies-taken h (take head.entries entries) forks head.forks head.top known.tree known.lies;
      count = let w = known.written in omega (arith, w, few);
      is = has.is;
    };
  }

-- ---- an entry that is written behind the others

module _ (entries : List (List ℕ)) (count : ℕ) (key value : List ℕ) (long : length key ≡ 32)
    (room : count < length entries) where
  -- the entries with it
  abbrev pub with_entry : List (List ℕ)
  with_entry = take (count + 1) (set entries count (key ++ value))

  item : get_or with_entry count [] ≡ key ++ value
  item = get_or-take (count + 1) (set entries count (key ++ value)) count [] (omega arith)
      ∙ get_or-set_same entries count (key ++ value) [] room

  pub entry-written : entry_in with_entry count ≡ entry_of key value
  entry-written =
      let front : take 32 (key ++ value) ≡ key = ap (λ n. take n (key ++ value)) (sym long)
      ∙ take-append_seam key value in
      let back : drop 32 (key ++ value) ≡ value = ap (λ n. drop n (key ++ value)) (sym long)
      ∙ drop-append_seam key value in
      ap (λ bytes. entry_of (take 32 bytes) (drop 32 bytes)) item
      ∙ ap (λ k. entry_of k (drop 32 (key ++ value))) front ∙ ap (entry_of key) back

  longer : length (take count entries) ≤ length with_entry
  longer =
      let old = length-take-le count entries (omega (arith, room)) in
      let all = length-set entries count (key ++ value) in
      let new = length-take-le (count + 1) (set entries count (key ++ value)) (omega (arith, room, all)) in
      omega (arith, old, new)

  before-it : SameBelow (length (take count entries)) (take count entries) with_entry
  before-it i below =
      let old = length-take-le count entries (omega (arith, room)) in
      let within : i < count = omega (arith, below, old) in
      get_or-take count entries i [] within
      ∙ sym (get_or-set_other entries count i (key ++ value) [] (λ same. omega (arith, same, within)))
      ∙ sym (get_or-take (count + 1) (set entries count (key ++ value)) i [] (omega (arith, within)))

  pub lies-with_entry : (h : MapHashes) (forks : List (List ℕ)) (bound number : ℕ) (tree : Shape)
      → LaidAt h (take count entries) forks bound number tree → LaidAt h with_entry forks bound number tree
  lies-with_entry h forks bound number tree lies =
      lies-behind h (take count entries) with_entry forks longer before-it bound number tree lies

-- the old tree, as it lies when the new entry is written
pub top-on : (h : MapHashes) (entries now forks : List (List ℕ)) (head : Head) (xs : List Entry) (key : Key)
    (keeps : KeepsMap h entries forks head xs)
    → ((bound number : ℕ) (tree : Shape) → LaidAt h (take head.entries entries) forks bound number tree
    → LaidAt h now forks bound number tree) → LiesOn h now forks head.forks head.top 0 key keeps.tree
top-on h entries now forks head xs key keeps stays = record {
  bound = head.forks;
  inside = omega arith;
  lies = stays head.forks head.top keeps.tree
      (lies-untaken h (take head.entries entries) forks head.forks head.top keeps.tree keeps.lies);
  stands = keeps.is.stands;
}

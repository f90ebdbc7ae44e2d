-- A tree is copied to other memory.
use Rattle.std.proofs.Common.{Result, Err, ◌≡◌, ℕ, ◌+◌, ◌*◌, ◌<◌, ◌≤◌, true, false, List, [], ◌∷◌, length, take, get_or, arith, ap, sym, ◌∙◌, subst, length-append}
use Rattle.std.proofs.lemmas.List.{get_or-take, length-take-le}
use Rattle.std.proofs.lemmas.Result.{err_from_is_err_and}
use Rattle.std.specs.Result.{IsErrAnd}
use Rattle.merkle_map.specs.Map.{MapHashes}
use Rattle.merkle_map.specs.Tree.{Shape, Empty, One, Fork, Hidden, StandsAt}
use Rattle.merkle_map.specs.Whole.{entries_of}
use Rattle.kept_map.specs.declared.head.Head.{Head}
use Rattle.kept_map.specs.declared.head.MapFault.{MapFault}
use Rattle.kept_map.specs.Copied.{IsBehind, LiesBelow}
use Rattle.kept_map.specs.KeptMap.{LaidAt, entry_in, fork_count, left_at, right_at}
use Rattle.kept_map.specs.Parts.{part_number, IsThere}
use Rattle.kept_map.specs.declared.nodes.Part.{Part}
use Rattle.kept_map.specs.declared.nodes.Part.TheVariants.{Nothing, Entry as EntryPart, Fork as ForkPart}
use Rattle.kept_map.proofs.Frames.{SameBelow, lies-behind, lies-kept, take-before}
use Rattle.kept_map.proofs.Lies.{IsForkOf, lies-nothing, lies-entry, lies-fork}

-- an error that is passed on
pub same_fault : {T : Type 0} (result : Result T MapFault) (passed fault : MapFault)
    → IsErrAnd result (λ e. e ≡ passed) → result ≡ Err fault → passed ≡ fault
same_fault result passed fault is same =
    let p = err_from_is_err_and result is in
    let one : p.0 ≡ passed = p.2 in
    let two : result ≡ Err p.0 = p.1 in
    cc

-- ---- what lies below

-- A fork lies at a place, and both sides below it.
pub record ForkBelow (h : MapHashes) (entries forks : List (List ℕ)) (k level : ℕ) (tree : Shape) : Type 0 where
  pub bound : ℕ
  pub at : IsForkOf h entries forks bound k tree
  pub below : level < 256
  pub on_left : LiesBelow h entries forks (left_at forks k) (level + 1) at.left
  pub on_right : LiesBelow h entries forks (right_at forks k) (level + 1) at.right

module _ (h : MapHashes) (entries forks : List (List ℕ)) (number level : ℕ) (tree : Shape)
    (on : LiesBelow h entries forks number level tree) where
  pub nothing-below : 0 ≡ number → tree ≡ Empty
  nothing-below is = lies-nothing h entries forks on.bound number tree (sym is) on.lies

  pub entry-below : (k : ℕ) → 2 * k + 1 ≡ number → tree ≡ One (entry_in entries k)
  entry-below k is = (lies-entry h entries forks on.bound number k tree (sym is) on.lies).1

  pub fork-below : (k : ℕ) → 2 * k + 2 ≡ number → ForkBelow h entries forks k level tree
  fork-below k is =
      let at = lies-fork h entries forks on.bound number k tree (sym is) on.lies in
      let stands : StandsAt on.bits (Fork at.left at.right) = subst (StandsAt on.bits) at.is on.stands in
      let long = on.long in
      let inside : k ≤ length forks = let b = at.within in let i = on.inside in omega (arith, b, i) in
      record {
        bound = on.bound;
        at = at;
        below = omega (arith, stands.0, long);
        on_left = record {
          bound = k;
          inside = inside;
          lies = at.on_left;
          bits = false ∷ on.bits;
          long = omega (arith, long);
          stands = stands.2;
        };
        on_right = record {
          bound = k;
          inside = inside;
          lies = at.on_right;
          bits = true ∷ on.bits;
          long = omega (arith, long);
          stands = stands.3;
        };
      }

  -- Where no part has the number, no tree lies.
  pub none-below : ((part : Part) → part_number part ≡ number → IsThere (length entries) (length forks) part → ⊥) → ⊥
  none-below none = by_tree tree on.lies
    where
      by_tree : (tree : Shape) → LaidAt h entries forks on.bound number tree → ⊥
      by_tree Empty lies = none Nothing (sym lies) tt
      by_tree (One entry) lies = none (EntryPart lies.0) (sym lies.1) lies.2
      by_tree (Fork left right) lies =
          let below : lies.0 < length forks = let b = lies.2 in let i = on.inside in omega (arith, b, i) in
          none (ForkPart lies.0) (sym lies.1) below
      by_tree (Hidden digest) lies = lies

-- ---- what was written stays

module _ (a b c : Head) where
  pub behind-then : (e1 e2 e3 f1 f2 f3 : List (List ℕ)) → IsBehind a b e1 e2 f1 f2
      → IsBehind b c e2 e3 f2 f3 → IsBehind a c e1 e3 f1 f3
  behind-then e1 e2 e3 f1 f2 f3 first second = record {
    entries_stay = take-before a.entries b.entries e1 e2 e3 first.grows.0 first.entries_stay second.entries_stay;
    forks_stay = take-before a.forks b.forks f1 f2 f3 first.grows.1 first.forks_stay second.forks_stay;
    grows =
        let x = first.grows.0 in
        let y = second.grows.0 in
        let z = first.grows.1 in
        let w = second.grows.1 in
        (omega (arith, x, y), omega (arith, z, w));
  }

-- a fork that is written then
module _ (older middle newer : Head) where
  pub behind-fork : (entries now forks next last : List (List ℕ))
      → IsBehind older middle entries now forks next → take middle.forks last ≡ take middle.forks next
      → newer.entries ≡ middle.entries → newer.forks ≡ middle.forks + 1 → IsBehind older newer entries now forks last
  behind-fork entries now forks next last behind same e f =
      let g = behind.grows.0 in
      let w = behind.grows.1 in
      record {
        entries_stay = behind.entries_stay;
        forks_stay = take-before older.forks middle.forks forks next last behind.grows.1 behind.forks_stay same;
        grows = (omega (arith, g, e), omega (arith, w, f));
      }

-- a tree that lies under a head still lies
module _ (h : MapHashes) (older newer : Head) (entries now forks forks_now : List (List ℕ))
    (behind : IsBehind older newer entries now forks forks_now) (room : newer.entries ≤ length now) where
  within : older.entries ≤ length now
  within = let g = behind.grows.0 in omega (arith, g, room)

  long : length (take older.entries entries) ≡ older.entries
  long = ap length (sym behind.entries_stay) ∙ length-take-le older.entries now within

  same : SameBelow (length (take older.entries entries)) (take older.entries entries) (take newer.entries now)
  same i below =
      let g = behind.grows.0 in
      let inside : i < older.entries = omega (arith, below, long) in
      ap (λ l. get_or l i []) (sym behind.entries_stay) ∙ get_or-take older.entries now i [] inside
      ∙ sym (get_or-take newer.entries now i [] (omega (arith, inside, g)))

  longer : length (take older.entries entries) ≤ length (take newer.entries now)
  longer = let new = length-take-le newer.entries now room in let g = behind.grows.0 in omega (arith, long, new, g)

  pub still-lies : (number : ℕ) (tree : Shape) → LaidAt h (take older.entries entries) forks older.forks number tree
      → LaidAt h (take newer.entries now) forks_now newer.forks number tree
  still-lies number tree lies =
      lies-kept h (take newer.entries now) forks forks_now older.forks newer.forks number tree behind.grows.1
      behind.forks_stay
      (lies-behind h (take older.entries entries) (take newer.entries now) forks longer same older.forks number tree
      lies)

-- ---- how much a fork has

pub counted : (tree left right : Shape) → tree ≡ Fork left right
    → (length (entries_of tree) ≡ length (entries_of left) + length (entries_of right))
    × (fork_count tree ≡ 1 + (fork_count left + fork_count right))
counted tree left right is = (
  ap (λ t. length (entries_of t)) is ∙ length-append (entries_of left) (entries_of right),
  ap fork_count is,
)

-- Where the trees at two numbers differ.
use Rattle.std.proofs.Common.{◌≡◌, ◌⊎◌, ◌<◌, ◌≤◌, ◌+◌, ◌&&◌, ℕ, suc, Bool, true, false, Option, Some, None, is_some, MatchOption, List, [], ◌∷◌, length, take, arith, refl, ap, sym, ◌∙◌, subst, inl, inr}
use Rattle.merkle_map.specs.Map.{Entry, Key, MapHashes, has_bit}
use Rattle.merkle_map.specs.Tree.{Shape, way}
use Rattle.merkle_map.specs.Whole.{entries_of}
use Rattle.merkle_map.proofs.NextShown.{goes-on-with, turns-with}
use Rattle.kept_map.specs.declared.head.Head.{Head}
use Rattle.kept_map.proofs.UnderHeads.{lies-under}
use Rattle.kept_map.specs.Differ.{HaveSameFrom, HaveSameReached, IsFirstApart, IsFirstReached, IsForkPart, IsFoundAt, LieBoth, few, half_shape}
use Rattle.kept_map.specs.KeptMap.{KeepsMap, LaidAt, entry_in, fork_count}
use Rattle.kept_map.specs.Parts.{IsThere, part_number}
use Rattle.kept_map.specs.declared.nodes.Part.{Part}
use Rattle.kept_map.specs.declared.nodes.Part.TheVariants.{Nothing, Entry as EntryAt, Fork as ForkAt}
use Rattle.kept_map.proofs.Differs.{are-halves, few-is, fork-is, half-counts, half-stands, high-found, lies-same, low-found, none-found}
use Rattle.kept_map.proofs.Lies.{lies-part}

module _ (entries forks : List (List ℕ)) where
  -- One side of each tree that lies at a number lies at another.
  abbrev pub LieHalves : ℕ → Bool → ℕ → ℕ → Type 0
  LieHalves number b level side = (h : MapHashes) (first count : ℕ) (tree : Shape)
      → LaidAt h (take first entries) forks count number tree → count ≤ length forks
      → (some : ℕ) × (some ≤ length forks) × LaidAt h (take first entries) forks some side (half_shape b level tree)

  pub both-halves : (b : Bool) (older newer left other level : ℕ) (h : MapHashes) (bits : List Bool) (s t : Shape)
      → LieHalves older b level left → LieHalves newer b level other → length bits ≡ level
      → LieBoth h entries forks older newer bits s t
      → LieBoth h entries forks left other (b ∷ bits) (half_shape b level s) (half_shape b level t)
  both-halves b older newer left other level h bits s t on_older on_newer long both =
      let x = on_older h both.older_first both.older_count s both.older_lies both.older_inside in
      let y = on_newer h both.newer_first both.newer_count t both.newer_lies both.newer_inside in
      record {
        older_first = both.older_first;
        older_count = x.0;
        older_inside = x.1;
        older_lies = x.2;
        older_stands = half-stands b level bits s long both.older_stands;
        newer_first = both.newer_first;
        newer_count = y.0;
        newer_inside = y.1;
        newer_lies = y.2;
        newer_stands = half-stands b level bits t long both.newer_stands;
      }

  within-forks : (count : ℕ) (part : Part) → count ≤ length forks → IsThere (length entries) count part
      → IsThere (length entries) (length forks) part
  within-forks count Nothing inside there = tt
  within-forks count (EntryAt k) inside there = there
  within-forks count (ForkAt k) inside there = omega (arith, inside, there)

  module _ (h : MapHashes) (older newer : ℕ) (bits : List Bool) (s t : Shape)
      (both : LieBoth h entries forks older newer bits s t) where
    pub same-number : older ≡ newer → s ≡ t
    same-number same =
        lies-same h entries forks both.older_first both.newer_first both.older_count both.newer_count older s t
        both.older_lies (subst (λ n. LaidAt h (take both.newer_first entries) forks both.newer_count n t) (sym same)
        both.newer_lies)

    pub part-older : (part : Part) × (part_number part ≡ older) × IsThere (length entries) (length forks) part
    part-older =
        let p = lies-part h entries forks both.older_first both.older_count older s both.older_lies in
        (p.0, p.1, within-forks both.older_count p.0 both.older_inside p.2)

    pub part-newer : (part : Part) × (part_number part ≡ newer) × IsThere (length entries) (length forks) part
    part-newer =
        let p = lies-part h entries forks both.newer_first both.newer_count newer t both.newer_lies in
        (p.0, p.1, within-forks both.newer_count p.0 both.newer_inside p.2)

    pub few-older : (part : Part) → ¬ IsForkPart part → part_number part ≡ older → entries_of s ≡ few entries part
    few-older part none is =
        few-is h entries forks part both.older_first both.older_count older s none is both.older_lies

    pub few-newer : (part : Part) → ¬ IsForkPart part → part_number part ≡ newer → entries_of t ≡ few entries part
    few-newer part none is =
        few-is h entries forks part both.newer_first both.newer_count newer t none is both.newer_lies

    -- where one is a fork, it stands above the last bit, and is counted
    pub fork-both : (level : ℕ) (a b : Part) → length bits ≡ level → part_number a ≡ older → part_number b ≡ newer
        → IsForkPart a ⊎ IsForkPart b → (level < 256)
        × (1 + ((fork_count (half_shape false level s) + fork_count (half_shape true level s))
        + (fork_count (half_shape false level t) + fork_count (half_shape true level t))) ≤ fork_count s + fork_count t)
    fork-both level a b long is_a is_b (inl fork) =
        let x = fork-is h entries forks a both.older_first both.older_count older level bits s fork is_a both.older_lies
        both.older_stands long in
        let more = x.1 in
        let other = half-counts level t in
        (x.0, omega (arith, more, other))
    fork-both level a b long is_a is_b (inr fork) =
        let x = fork-is h entries forks b both.newer_first both.newer_count newer level bits t fork is_b both.newer_lies
        both.newer_stands long in
        let more = x.1 in
        let other = half-counts level s in
        (x.0, omega (arith, more, other))

  -- ---- a fork's sides in turn

  module _ (older newer level : ℕ) (inside : level < 256) (is_on below : Bool) (from : Key)
      (is_below : below ≡ (is_on && has_bit true level from)) (left other : ℕ)
      (on_older : LieHalves older false level left) (on_newer : LieHalves newer false level other) where
    -- the key's way on the left
    way-left : (bits : List Bool) → below ≡ false → (is_on ≡ true → bits ≡ way level from) → is_on ≡ true
        → false ∷ bits ≡ way (level + 1) from
    way-left bits off on is =
        let next : suc level ≡ level + 1 = omega arith in
        let bit = (goes-on-with false is_on level from (sym is_below ∙ off) is).1 in
        ap (λ l. false ∷ l) (on is) ∙ ap (λ (c : Bool). c ∷ way level from) (sym bit) ∙ ap (λ n. way n from) next

    way-right : (bits : List Bool) → (is_on ≡ true → bits ≡ way level from) → below ≡ true
        → true ∷ bits ≡ way (level + 1) from
    way-right bits on turned =
        let next : suc level ≡ level + 1 = omega arith in
        let w = turns-with true is_on level from (sym is_below ∙ turned) in
        ap (λ l. true ∷ l) (on w.0) ∙ ap (λ (c : Bool). c ∷ way level from) (sym w.1) ∙ ap (λ n. way n from) next

    pub found-left : (found : Option ℕ) → is_some found ≡ true → below ≡ false
        → IsFoundAt entries forks left other (level + 1) is_on from found
        → IsFoundAt entries forks older newer level is_on from found
    found-left None some off is = absurd cc
    found-left (Some place) some off is = λ h bits s t both long on.
        low-found level inside bits is_on below from on is_below (entries_of s) (entries_of (half_shape false level s))
        (entries_of (half_shape true level s)) (entries_of t) (entries_of (half_shape false level t))
        (entries_of (half_shape true level t)) (are-halves level bits s long both.older_stands)
        (are-halves level bits t long both.newer_stands) (entry_in entries place).key
        (is h (false ∷ bits) (half_shape false level s) (half_shape false level t)
        (both-halves false older newer left other level h bits s t on_older on_newer long both)
        (omega (arith, long)) (way-left bits off on))

    pub found-right : (right last : ℕ) → LieHalves older true level right → LieHalves newer true level last
        → (found : Option ℕ) → (below ≡ false → IsFoundAt entries forks left other (level + 1) is_on from None)
        → IsFoundAt entries forks right last (level + 1) below from found
        → IsFoundAt entries forks older newer level is_on from found
    found-right right last to_older to_newer None lows is = λ h bits s t both long on.
        none-found level inside bits is_on below from on is_below (entries_of s) (entries_of (half_shape false level s))
        (entries_of (half_shape true level s)) (entries_of t) (entries_of (half_shape false level t))
        (entries_of (half_shape true level t)) (are-halves level bits s long both.older_stands)
        (are-halves level bits t long both.newer_stands)
        (λ off. lows off h (false ∷ bits) (half_shape false level s) (half_shape false level t)
        (both-halves false older newer left other level h bits s t on_older on_newer long both)
        (omega (arith, long)) (way-left bits off on))
        (is h (true ∷ bits) (half_shape true level s) (half_shape true level t)
        (both-halves true older newer right last level h bits s t to_older to_newer long both)
        (omega (arith, long)) (way-right bits on))
    found-right right last to_older to_newer (Some place) lows is = λ h bits s t both long on.
        high-found level inside bits is_on below from on is_below (entries_of s) (entries_of (half_shape false level s))
        (entries_of (half_shape true level s)) (entries_of t) (entries_of (half_shape false level t))
        (entries_of (half_shape true level t)) (are-halves level bits s long both.older_stands)
        (are-halves level bits t long both.newer_stands) (entry_in entries place).key
        (λ off. lows off h (false ∷ bits) (half_shape false level s) (half_shape false level t)
        (both-halves false older newer left other level h bits s t on_older on_newer long both)
        (omega (arith, long)) (way-left bits off on))
        (is h (true ∷ bits) (half_shape true level s) (half_shape true level t)
        (both-halves true older newer right last level h bits s t to_older to_newer long both)
        (omega (arith, long)) (way-right bits on))

-- where something was found, the left does not lie outside
pub off-when : (below : Bool) (found : Option ℕ) → (below ≡ true → found ≡ None) → is_some found ≡ true → below ≡ false
off-when false found none some = refl
off-when true found none some = let no = none refl in absurd cc

pub none-there : (found : Option ℕ) → is_some found ≡ false → found ≡ None
none-there None none = refl
none-there (Some place) none = absurd cc

-- ---- under two heads

module _ (h : MapHashes) (entries forks : List (List ℕ)) (older newer : Head) (xs ys : List Entry)
    (on_older : KeepsMap h entries forks older xs) (on_newer : KeepsMap h entries forks newer ys) where
  pub under-both : LieBoth h entries forks older.top newer.top [] on_older.tree on_newer.tree
  under-both = record {
    older_first = older.entries;
    older_count = older.forks;
    older_inside = on_older.forks_room;
    older_lies = lies-under h entries forks older xs on_older;
    older_stands = on_older.is.stands;
    newer_first = newer.entries;
    newer_count = newer.forks;
    newer_inside = on_newer.forks_room;
    newer_lies = lies-under h entries forks newer ys on_newer;
    newer_stands = on_newer.is.stands;
  }

  pub counts-both : fork_count on_older.tree + fork_count on_newer.tree ≤ older.forks + newer.forks
  counts-both =
      let a = on_older.count in
      let b = on_newer.count in
      omega (arith, a, b)

  module _ (from : Key) (found : Option ℕ) (is : IsFoundAt entries forks older.top newer.top 0 true from found) where
    at-tops : MatchOption found (HaveSameReached true from xs ys)
        (λ place. IsFirstReached true from xs ys (entry_in entries place).key)
    at-tops =
        subst (λ xs. MatchOption found (HaveSameReached true from xs ys)
        (λ place. IsFirstReached true from xs ys (entry_in entries place).key)) on_older.is.has
        (subst (λ ys. MatchOption found (HaveSameReached true from (entries_of on_older.tree) ys)
        (λ place. IsFirstReached true from (entries_of on_older.tree) ys (entry_in entries place).key)) on_newer.is.has
        (is h [] on_older.tree on_newer.tree under-both refl (λ on. refl)))

    pub same-under : found ≡ None → HaveSameFrom from xs ys
    same-under none = λ key there.
        subst (λ found. MatchOption found (HaveSameReached true from xs ys)
        (λ place. IsFirstReached true from xs ys (entry_in entries place).key)) none at-tops key (λ on. there)

    pub apart-under : (place : ℕ) → found ≡ Some place → IsFirstApart from xs ys (entry_in entries place).key
    apart-under place some =
        let f = subst (λ found. MatchOption found (HaveSameReached true from xs ys)
        (λ place. IsFirstReached true from xs ys (entry_in entries place).key)) some at-tops in
        record {
          differ = f.differ;
          reached = f.reached refl;
          same = λ other there below. f.same other (λ on. there) below;
        }

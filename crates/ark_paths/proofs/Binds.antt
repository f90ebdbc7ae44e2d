-- The pairs of a path against those of a tree.
use Rattle.std.proofs.Common.{zero, suc, ◌≡◌, ℕ, ◌+◌, ◌-◌, ◌*◌, ◌/◌, ◌%◌, ◌<◌, ◌≤◌, ◌^◌, Bool, true, false, nat_lt, not, ◌&&◌, if◌then◌else◌, Option, Some, None, List, [], ◌∷◌, length, drop, get_or, Ok, Err, arith, refl, ap, sym, ◌∙◌, inl, inr, pow_pos, add-one}
use Rattle.std.proofs.lemmas.Bool.{cases_lt}
use Rattle.std.proofs.lemmas.Bool.Decides.{nat_tests}
use Rattle.std.proofs.lemmas.List.{drop_more, drop_all, length-drop}
use Rattle.std.proofs.Math.Bool.{and_comm}
use Rattle.std.proofs.lemmas.Nat.{pow-add}
use Rattle.std.proofs.Math.Nat.{add-mul-div_left, div-add-mod, mod-lt, pow-suc}
use Rattle.ark_base.specs.declared.error.Error.{Error}
use Rattle.ark_base.specs.Outcome.{Outcome, ◌>>=◌}
use Rattle.ark_paths.specs.Bind.{couple, tree_pair, path_pair, hash_at, is_other, first_level}
use Rattle.ark_paths.specs.Index.{bit_at, neighbour}
use Rattle.ark_paths.specs.Pair.{Digest, HashPair, hash_in_order, digest_eq}
use Rattle.ark_paths.specs.Path.{Way, climb, path_root}
use Rattle.ark_paths.specs.Root.{upper_levels}
use Rattle.ark_paths.specs.Rows.{IsTree}
use Rattle.ark_paths.proofs.OwnPaths.{bit_at-level, couple-neighbour, place-above, bottom-row, halves-row, upper-row}
use Rattle.ark_paths.proofs.Parts.{part-pair, pair_in}
use Rattle.ark_paths.proofs.PlaceLemmas.{place-inside}

-- the bits below the height are those of the index modulo the size
pub bit_at-mod : (n m k : ℕ) → k ≤ m → bit_at (n % 2 ^ suc m) k ≡ bit_at n k
bit_at-mod n m k le =
    let r = n % 2 ^ suc m in
    let c = 2 ^ (m - k) * (n / 2 ^ suc m) in
    let split : 2 ^ suc m ≡ 2 ^ k * (2 ^ (m - k) * 2) = let e : suc m ≡ k + suc (m - k) =
    omega arith in rw e (pow-add 2 k (suc (m - k)) ∙ ap (λ (x : ℕ). 2 ^ k * x) (pow-suc 2 (m - k))) in
    let whole : n ≡ r + 2 ^ k * (2 * c) = sym (div-add-mod n (2 ^ suc m)) ∙ rw (split) (grind arith) in
    let some : 0 < 2 ^ k = pow_pos k in
    let up : n / 2 ^ k ≡ r / 2 ^ k + 2 * c = ap (λ (x : ℕ). x / 2 ^ k) whole ∙ add-mul-div_left r (2 * c) some in
    let even : r / 2 ^ k % 2 ≡ n / 2 ^ k % 2 = rw (up) (omega arith) in
    rw (even) refl

-- ---- couples

is_other-couple : (b : Bool) (x y u v : Digest) → is_other (Ok (couple b x y)) (couple b u v)
    ≡ not (digest_eq x u && digest_eq y v)
is_other-couple true x y u v = ap not (and_comm (digest_eq y v) (digest_eq x u))
is_other-couple false x y u v = refl

-- a couple of a row, whichever of the two comes first
other-pair : (row : List Digest) (i : ℕ) (b : Bool) (x y : Digest) → b ≡ bit_at i 0 → is_other (Ok (couple b x y))
    (pair_in row (i / 2)) ≡ not (digest_eq x (get_or row i []) && digest_eq y
    (get_or row (neighbour i) []))
other-pair row i b x y bit = ap (is_other (Ok (couple b x y))) (sym (couple-neighbour row i))
    ∙ rw bit (is_other-couple (bit_at i 0) x y (get_or row i []) (get_or row (neighbour i) []))

-- ---- levels

-- one level further up
pub first_level-up : (other : ℕ → Bool) (level next count more : ℕ) (is_own : Bool) (below found : Option ℕ) → suc level
    ≡ next → suc count ≡ more → other level ≡ not is_own → below ≡ first_level other next count → found
    ≡ (if is_own then below else Some level) → found ≡ first_level other level more
first_level-up other level next count more true below found same up is so chosen = chosen ∙ rw (← up, is, same) so
first_level-up other level next count more false below found same up is so chosen = chosen ∙ rw (← up, is) refl

pub first_level-none : (other : ℕ → Bool) (level count : ℕ) → first_level other level count ≡ None → (l : ℕ) → level ≤ l
    → l < level + count → other l ≡ false
first_level-none other level zero none l from under = absurd (omega arith)
first_level-none other level (suc count) none l from under =
    by_test (other level) refl none (λ e low. first_level-none other (suc level) count e l low (omega (arith, under)))
  where
    by_test : (t : Bool) → other level ≡ t → (if t then Some level else first_level other (suc level) count) ≡ None
        → (first_level other (suc level) count ≡ None → suc level ≤ l → other l ≡ false) → other l ≡ false
    by_test true is e next = absurd cc
    by_test false is e next = elim (cases_lt level l) [
      | inl lt ↦ next e lt
      | inr ge ↦ let same : l ≡ level = omega arith in rw (same) is
    ]

-- The level that is found is one of them, holds, and none before it does.
pub record IsFirst (other : ℕ → Bool) (from count level : ℕ) : Type 0 where
  pub high : level < from + count
  pub holds : other level ≡ true
  pub before : (l : ℕ) → from ≤ l → l < level → other l ≡ false

pub first_level-some : (other : ℕ → Bool) (from count level : ℕ) → first_level other from count ≡ Some level
    → IsFirst other from count level
first_level-some other from zero level some = absurd cc
first_level-some other from (suc count) level some =
    by_test (other from) refl some (λ e. first_level-some other (suc from) count level e)
  where
    by_test : (t : Bool) → other from ≡ t → (if t then Some from else first_level other (suc from) count) ≡ Some level
        → (first_level other (suc from) count ≡ Some level → IsFirst other (suc from) count level) → IsFirst other from
        (suc count) level
    by_test true is e next = let same : from ≡ level =
        cc in record {
          high = omega arith;
          holds = rw (← same) is;
          before = λ l low under. absurd
              (omega (arith, same));
        }
    by_test false is e next =
        let more = next e in
        record {
          high = omega (arith, more.high);
          holds = more.holds;
          before = λ l low under. elim (cases_lt from l) [
            | inl lt ↦ more.before l lt under
            | inr ge ↦ let same : l ≡ from = omega arith in rw (same) is
          ];
        }

-- ---- what a path gives from one of its digests on

-- from a level down
abbrev pub top_from : HashPair → Way → Digest → ℕ → Outcome Digest
top_from h way digest level =
    path_root h (record { sibling = way.sibling; above = drop level way.above; index = way.index }) digest

climbed-refused : (hash : Digest → Digest → Outcome Digest) (index : ℕ) (ds : List Digest) (lowest : Digest) (level : ℕ)
    (e : Error) → climb hash index (drop level ds) lowest ≡ Err e → climb hash index ds lowest ≡ Err e
climbed-refused hash index ds lowest zero e refused = refused
climbed-refused hash index [] lowest (suc level) e refused = refused
climbed-refused hash index (d ∷ ds) lowest (suc level) e refused =
    rw (climbed-refused hash index ds lowest level e refused)

-- a refusal further down is that of the whole
pub top_from-refused : (h : HashPair) (way : Way) (digest : Digest) (level : ℕ) (e : Error) → top_from h way digest
    level ≡ Err e → path_root h way digest ≡ Err e
top_from-refused h way digest level e refused =
    by_lowest (hash_in_order h.bottom (bit_at way.index 0) digest way.sibling) refused
  where
    by_lowest : (o : Outcome Digest) → (o >>= climb h.upper way.index (drop level way.above)) ≡ Err e
        → (o >>= climb h.upper way.index way.above) ≡ Err e
    by_lowest (Ok lowest) r = climbed-refused h.upper way.index way.above lowest level e r
    by_lowest (Err f) r = r

-- the digests from a level down
from-level : (ds : List Digest) (level : ℕ) → level < length ds → (drop level ds ≡ get_or ds level []
    ∷ drop (suc level) ds) × (suc (length (drop (suc level) ds)) ≡ length ds - level)
from-level ds level under =
    (rw add-one at (drop_more ds level [] under), omega (arith, under, length-drop (suc level) ds))

-- one level up
pub top_from-up : (h : HashPair) (way : Way) (digest : Digest) (level : ℕ) → level < length way.above → top_from h way
    digest level ≡ (top_from h way digest (suc level) >>= λ below. hash_in_order h.upper
    (bit_at way.index (length way.above - level)) below (get_or way.above level []))
top_from-up h way digest level under = by_lowest (hash_in_order h.bottom (bit_at way.index 0) digest way.sibling)
  where
    by_lowest : (o : Outcome Digest) → (o >>= climb h.upper way.index (drop level way.above))
        ≡ ((o >>= climb h.upper way.index (drop (suc level) way.above)) >>=
        λ below. hash_in_order h.upper (bit_at way.index (length way.above - level)) below (get_or way.above level []))
    by_lowest (Ok lowest) = let from = from-level way.above level under in rw (from.0, from.1) refl
    by_lowest (Err e) = refl

pub path_pair-up : (h : HashPair) (way : Way) (digest : Digest) (level : ℕ) → level < length way.above → path_pair h way
    digest level ≡ (top_from h way digest (suc level) >>= λ below.
    Ok (couple (bit_at way.index (length way.above - level)) below (get_or way.above level [])))
path_pair-up h way digest level under = let from = from-level way.above level under in rw (from.0, from.1) refl

pub path_pair-is : (h : HashPair) (way : Way) (digest : Digest) (level : ℕ) → level < length way.above
    → (below : Digest) → top_from h way digest (suc level) ≡ Ok below → path_pair h way digest level
    ≡ Ok (couple (bit_at way.index (length way.above - level)) below (get_or way.above level []))
path_pair-is h way digest level under below so = path_pair-up h way digest level under
    ∙ ap (λ (o : Outcome Digest). o >>= λ below. Ok (couple (bit_at way.index (length way.above - level)) below
    (get_or way.above level []))) so

pub path_pair-last : (h : HashPair) (way : Way) (digest : Digest) (level : ℕ) → level ≡ length way.above
    → path_pair h way digest level ≡ Ok (couple (bit_at way.index 0) digest way.sibling)
path_pair-last h way digest level last = let none : drop level way.above ≡ [] =
    drop_all level way.above (omega arith) in rw (none) refl

pub bound_alone : (o : Outcome Digest) → (o >>= λ digest. Ok digest) ≡ o
bound_alone (Ok digest) = refl
bound_alone (Err e) = refl

pub top_from-last : (h : HashPair) (way : Way) (digest : Digest) (level : ℕ) → level ≡ length way.above → top_from h way
    digest level ≡ hash_in_order h.bottom (bit_at way.index 0) digest way.sibling
top_from-last h way digest level last = let none : drop level way.above ≡ [] = drop_all level way.above (omega arith) in
    rw (none) (bound_alone (hash_in_order h.bottom (bit_at way.index 0) digest way.sibling))

-- ---- against a tree

module _ (h : HashPair) (leaves : List Digest) (rows : List (List Digest)) (tree : IsTree h leaves rows)
    (index : ℕ) where
  abbrev pub own_index : ℕ
  own_index = index % length leaves

  pub own-inside : own_index < length leaves
  own-inside = mod-lt index (rw (tree.size) (pow_pos (suc (upper_levels leaves))))

  own-bit : (k : ℕ) → k ≤ upper_levels leaves → bit_at own_index k ≡ bit_at index k
  own-bit k le = rw (tree.size) (bit_at-mod index (upper_levels leaves) k le)

  -- the leaf digests' pair
  tree_pair-last : (level : ℕ) → level ≡ upper_levels leaves → tree_pair h leaves index level
      ≡ pair_in leaves (own_index / 2)
  tree_pair-last level last =
      let none : upper_levels leaves - level ≡ 0 = omega arith in
      let half : own_index / 2 ^ 1 ≡ own_index / 2 = omega arith in
      rw (none, half) (part-pair (own_index / 2) leaves)

  pub other-last : (level : ℕ) → level ≡ upper_levels leaves → (x y : Digest)
      → is_other (Ok (couple (bit_at index 0) x y)) (tree_pair h leaves index level)
      ≡ not (digest_eq x (get_or leaves own_index []) && digest_eq y (get_or leaves (neighbour own_index) []))
  other-last level last x y = ap (is_other (Ok (couple (bit_at index 0) x y))) (tree_pair-last level last)
      ∙ other-pair leaves own_index (bit_at index 0) x y (sym (own-bit 0 (omega arith)))

  pub tree-hash-last : (level : ℕ) → level ≡ upper_levels leaves → hash_at h (upper_levels leaves) level
      (tree_pair h leaves index level) ≡ Ok (get_or (get_or rows 0 []) (own_index / 2 ^ 1) [])
  tree-hash-last level last =
      let half : own_index / 2 ^ 1 ≡ own_index / 2 = omega arith in
      let here : own_index / 2 ^ 1 < length (get_or rows 0 []) =
      place-inside rows (length leaves) tree.levels 0 own_index (omega (arith, tree.count)) own-inside in
      let bottom : nat_lt level (upper_levels leaves) ≡ false = grind (arith, nat_tests) in
      rw (tree_pair-last level last, bottom, half) (bottom-row h leaves rows tree (own_index / 2) (omega arith))

  -- the pair of a row
  module _ (level k : ℕ) (is : level + suc k ≡ upper_levels leaves) where
    abbrev pub at : ℕ
    at = own_index / 2 ^ suc k

    inside : suc k < length rows
    inside = omega (arith, tree.count, is)

    above : own_index / 2 ^ suc (suc k) < length (get_or rows (suc k) [])
    above = place-inside rows (length leaves) tree.levels (suc k) own_index inside own-inside

    half : own_index / 2 ^ suc (suc k) ≡ at / 2
    half = place-above own_index (suc k)

    tree_pair-row : tree_pair h leaves index level ≡ pair_in (get_or rows k []) (at / 2)
    tree_pair-row =
        let up : upper_levels leaves - level ≡ suc k = omega arith in
        rw (up, ← half) (halves-row h leaves rows tree k (own_index / 2 ^ suc (suc k)) inside above)

    pub other-row : (x y : Digest) → is_other (Ok (couple (bit_at index (suc k)) x y)) (tree_pair h leaves index level)
        ≡ not (digest_eq x (get_or (get_or rows k []) at []) && digest_eq y (get_or (get_or rows k [])
        (neighbour at) []))
    other-row x y = ap (is_other (Ok (couple (bit_at index (suc k)) x y))) tree_pair-row
        ∙ other-pair (get_or rows k []) at (bit_at index (suc k)) x y (sym (own-bit (suc k) (omega (arith, is)))
        ∙ sym (bit_at-level own_index (suc k)))

    pub tree-hash-row : hash_at h (upper_levels leaves) level (tree_pair h leaves index level)
        ≡ Ok (get_or (get_or rows (suc k) []) (own_index / 2 ^ suc (suc k)) [])
    tree-hash-row =
        let upper : nat_lt level (upper_levels leaves) ≡ true = grind (arith, nat_tests) in
        rw (tree_pair-row, upper, ← half) (upper-row h leaves rows tree k (own_index / 2 ^ suc (suc k)) inside above)

module _ (h : HashPair) (leaves : List Digest) (rows : List (List Digest)) (tree : IsTree h leaves rows) (way : Way)
    (digest : Digest) (long : length way.above ≡ upper_levels leaves) where
  -- whether the pairs of a level differ
  abbrev pub differs : ℕ → Bool
  differs level = is_other (path_pair h way digest level) (tree_pair h leaves way.index level)

  abbrev own : ℕ
  own = way.index % length leaves

  pub differs-last : (level : ℕ) → level ≡ upper_levels leaves → (is_own : Bool) → is_own
      ≡ (digest_eq digest (get_or leaves own []) && digest_eq way.sibling (get_or leaves (neighbour own) []))
      → differs level ≡ not is_own
  differs-last level last is_own is =
      ap (λ o. is_other o (tree_pair h leaves way.index level)) (path_pair-last h way digest level
      (omega (arith, long)))
      ∙ other-last h leaves rows tree way.index level last digest way.sibling ∙ ap not (sym is)

  pub differs-row : (level k : ℕ) → level + suc k ≡ upper_levels leaves → (current : Digest) → top_from h way digest
      (suc level) ≡ Ok current → (is_own : Bool)
      → is_own ≡ (digest_eq current (get_or (get_or rows k []) (own / 2 ^ suc k) []) && digest_eq
      (get_or way.above level []) (get_or (get_or rows k []) (neighbour (own / 2 ^ suc k)) [])) → differs level
      ≡ not is_own
  differs-row level k at current so is_own is =
      let up : length way.above - level ≡ suc k = omega (arith, long, at) in
      let pair : path_pair h way digest level ≡ Ok (couple (bit_at way.index (suc k)) current (get_or way.above level
      [])) = rw (so, up) at (path_pair-up h way digest level (omega (arith, long, at))) in
      ap (λ o. is_other o (tree_pair h leaves way.index level)) pair
      ∙ other-row h leaves rows tree way.index level k at current (get_or way.above level []) ∙ ap not (sym is)

  -- what the path gives one level up
  pub top_from-row : (level k : ℕ) → level + suc k ≡ upper_levels leaves → (current : Digest) → top_from h way digest
      (suc level) ≡ Ok current → top_from h way digest level ≡ hash_in_order h.upper (bit_at way.index (suc k)) current
      (get_or way.above level [])
  top_from-row level k at current so =
      let up : length way.above - level ≡ suc k = omega (arith, long, at) in
      rw (so, up) at (top_from-up h way digest level (omega (arith, long, at)))

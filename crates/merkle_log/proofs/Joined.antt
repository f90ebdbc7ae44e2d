-- Lists that stand one behind the other, tree by tree.
use Rattle.std.proofs.Common.{suc, ◌≡◌, ℕ, ◌+◌, ◌-◌, ◌*◌, ◌%◌, ◌<◌, ◌≤◌, ◌^◌, List, [], ◌∷◌, ◌++◌, length, take, drop, get_or, Ok, arith, pow_pos, refl, ap, subst, sym, ◌∙◌, inl, inr}
use Rattle.std.proofs.Math.Nat.{add-mul-mod_self_left, pow-succ'}
use Rattle.std.proofs.lemmas.Bool.{cases_lt}
use Rattle.std.proofs.lemmas.Nat.{mod-pow-add, ones_cat, pow-add}
use Rattle.std.specs.Option.{SomeIff, is_some}
use Rattle.std.specs.Prelude.{count_ones, true, Option, None, Some}
use Rattle.std.proofs.lemmas.List.{append-nil, append_assoc, drop-map, get_or-map, length-drop, length-map, length-take-le, nil_from_length, take-append-drop, take-map}
use Rattle.ark_paths.specs.Pair.{Digest}
use Rattle.merkle_log.specs.Walk.{joined}
use Rattle.merkle_log.specs.Log.{NodeHash, merkle_tree_hash}
use Rattle.merkle_log.specs.Frontier.{frontier, CanJoin, IsFrontier, IsJoinedUpTo}
use Rattle.merkle_log.specs.Trees.{tree_hash}
use Rattle.merkle_log.proofs.Tests.{power-rises}
use Rattle.merkle_log.proofs.Lasts.{Node, node_rows}
use Rattle.merkle_log.proofs.Verdicts.{pow_above, tree_hash-levels}
use Rattle.merkle_log.proofs.Peaks.{frontier-any}
use Rattle.merkle_log.proofs.Subtrees.{frontier-first}

-- ---- sizes

-- a multiple of a power of two is one of each smaller power
pub lower-power : (k level size : ℕ) → k ≤ level → size % 2 ^ level ≡ 0 → size % 2 ^ k ≡ 0
lower-power k level size le aligned =
    let e : level ≡ level - k + k = omega arith in
    omega (arith, mod-pow-add size (level - k) k, ap (λ n. size % 2 ^ n) e, aligned)

-- with a larger power of two behind, it still is one of a smaller
pub more-power : (k level size : ℕ) → k ≤ level → size % 2 ^ k ≡ 0 → (size + 2 ^ level) % 2 ^ k ≡ 0
more-power k level size le aligned =
    let e : k + (level - k) ≡ level = omega arith in
    ap (λ n. (size + n) % 2 ^ k) (sym (ap (λ n. 2 ^ n) e) ∙ pow-add 2 k (level - k))
    ∙ add-mul-mod_self_left size (2 ^ k) (2 ^ (level - k)) ∙ aligned

-- Nothing can stand behind.
pub joins-none : (size more : ℕ) → more ≡ 0 → size + more < 2 ^ 64 → CanJoin size more
joins-none size more none fits = record {
  fits = fits;
  aligned = λ k le. absurd (omega (arith, pow_pos k, le, none));
}

-- Trees of so many digests, the largest of this level, can stand behind.
pub joins : (size more level : ℕ) → 2 ^ level ≤ more → more < 2 * 2 ^ level → size % 2 ^ level ≡ 0
    → size + more < 2 ^ 64 → CanJoin size more
joins size more level low high aligned fits = record {
  fits = fits;
  aligned = λ k le. lower-power k level size (elim (cases_lt level k) [
    | inl above ↦ absurd (omega (arith, power-rises (suc level) k above, pow-succ' 2 level))
    | inr below ↦ below
  ]) aligned;
}

-- a value is there exactly where this holds
pub there-where : {T P : Type 0} (o : Option T) (v : T) → SomeIff o P v
    → (is_some o ≡ true → P) × (P → is_some o ≡ true)
there-where None v not = (λ some. absurd cc, λ p. absurd (not p))
there-where (Some x) v is = (λ some. is.0, λ p. refl)

-- a power of two that is below another one is a lower one
pub below-level : (k level n : ℕ) → 2 ^ k ≤ n → n < 2 ^ level → k ≤ level
below-level k level n low high = elim (cases_lt level k) [
  | inl above ↦ absurd (omega (arith, power-rises level k (omega arith)))
  | inr below ↦ below
]

pub one-one : count_ones 1 ≡ 1
unfolding lib.Count.ones
one-one = refl

-- without its largest power of two a number has one digit less that is set
pub ones-less : (level left : ℕ) → 2 ^ level ≤ left → left < 2 ^ suc level
    → count_ones left ≡ suc (count_ones (left - 2 ^ level))
ones-less level left low high =
    let e : left ≡ 1 * 2 ^ level + (left - 2 ^ level) = omega (arith, low) in
    ap count_ones e ∙ ones_cat level 1 (left - 2 ^ level) (omega (arith, high, pow-succ' 2 level)) ∙ omega
    (arith, one-one)

-- ---- the first tree of a list

module _ {hash : NodeHash} {list : List Digest} {size : ℕ} {peaks : List Digest} (own : IsFrontier hash list size peaks)
    (level : ℕ) (low : 2 ^ level ≤ size) (high : size < 2 ^ suc level) where
  count : length (node_rows list) ≡ length list
  count = length-map {B = Node} list Ok

  split : (empty : Digest) → node_rows peaks ≡ tree_hash (joined hash) (Ok empty) level (take (2 ^ level)
      (node_rows list)) ∷ frontier (joined hash) (Ok empty) level (drop (2 ^ level) (node_rows list))
  split empty =
      sym (own.peaks_are empty)
      ∙ frontier-any (joined hash) (Ok empty) (length list) (suc level) (node_rows list) (omega
      (arith, count, pow_above (length list))) (omega (arith, count, own.size_is, high))
      ∙ frontier-first (joined hash) (Ok empty) level (node_rows list) (omega (arith, count, own.size_is, low)) (omega
      (arith, count, own.size_is, high))

  -- The first root is that of the list's first tree.
  pub first-tree : (empty : Digest) → merkle_tree_hash hash empty (take (2 ^ level) list) ≡ Ok (get_or peaks 0 [])
  first-tree empty =
      let long : length (take (2 ^ level) list) ≡ 2 ^ level = length-take-le (2 ^ level) list (omega
      (arith, own.size_is, low)) in
      ap (tree_hash (joined hash) (Ok empty) (length (take (2 ^ level) list))) (sym (take-map Ok (2 ^ level) list))
      ∙ tree_hash-levels (joined hash) (Ok empty) level (length (take (2 ^ level) list)) (take (2 ^ level)
      (node_rows list)) (omega (
        arith,
        ap length (take-map {Y = Node} Ok (2 ^ level) list),
        length-map {B = Node} (take
            (2 ^ level) list) Ok,
        long,
      )) (omega (arith, long, pow_above level))
      ∙ sym (ap (λ l. get_or l 0 (Ok [])) (split empty))
      ∙ get_or-map Ok peaks 0 [] (Ok []) (omega (arith, ap length (split empty), length-map {B = Node} peaks Ok))

  -- The other roots are those of what stands behind it.
  pub other-trees : IsFrontier hash (drop (2 ^ level) list) (size - 2 ^ level) (drop 1 peaks)
  other-trees = record {
    size_is = length-drop (2 ^ level) list ∙ ap (λ n. n - 2 ^ level) own.size_is;
    peaks_are = λ empty.
        let behind = drop (2 ^ level) list in
        let rows : length (node_rows behind) ≡ length behind = length-map {B = Node} behind Ok in
        let long : length behind ≡ size - 2 ^ level = length-drop (2 ^ level) list
        ∙ ap (λ n. n - 2 ^ level) own.size_is in
        frontier-any (joined hash) (Ok empty) (length behind) level (node_rows behind) (omega
        (arith, rows, pow_above (length behind))) (omega (arith, rows, long, low, high))
        ∙ ap (frontier (joined hash) (Ok empty) level) (sym (drop-map Ok (2 ^ level) list))
        ∙ sym (ap (drop 1) (split empty))
        ∙ drop-map Ok 1 peaks;
  }

-- ---- tree by tree

pub joined-none : {hash : NodeHash} {digests more : List Digest} {own other : ℕ × List Digest}
    → IsFrontier hash digests own.0 own.1 → IsFrontier hash more other.0 other.1
    → IsJoinedUpTo hash digests more own other
joined-none {hash} {digests} {more} {own} {other} front behind = record {
  first = [];
  last = more;
  is = refl;
  done = let P : List Digest → Type 0 = λ l. IsFrontier hash l own.0 own.1 in subst P (sym (append-nil digests)) front;
  left = behind;
}

pub joined-next : {hash : NodeHash} {digests more : List Digest} {size left : ℕ} {peaks rest after : List Digest}
    (empty : Digest) (level : ℕ) → IsJoinedUpTo hash digests more (size, peaks) (left, rest)
    → 2 ^ level ≤ left → left < 2 ^ suc level
    → ((list tree : List Digest) → IsFrontier hash list size peaks → length tree ≡ 2 ^ level
    → merkle_tree_hash hash empty tree ≡ Ok (get_or rest 0 [])
    → IsFrontier hash (list ++ tree) (size + 2 ^ level) after)
    → IsJoinedUpTo hash digests more (size + 2 ^ level, after) (left - 2 ^ level, drop 1 rest)
joined-next {hash} {digests} {more} {size} {left} {peaks} {rest} {after} empty level at low high appended =
    let tree = take (2 ^ level) at.last in
    let whole : at.last ≡ tree ++ drop (2 ^ level) at.last = sym (take-append-drop (2 ^ level) at.last) in
    let long : length tree ≡ 2 ^ level = length-take-le (2 ^ level) at.last (omega (arith, at.left.size_is, low)) in
    record {
      first = at.first ++ tree;
      last = drop (2 ^ level) at.last;
      is = at.is ∙ ap (λ l. at.first ++ l) whole ∙ sym (append_assoc at.first tree (drop (2 ^ level) at.last));
      done =
          let P : List Digest → Type 0 = λ l. IsFrontier hash l (size + 2 ^ level) after in
          subst P (append_assoc digests at.first tree) (appended (digests ++ at.first) tree at.done long
          (first-tree at.left level low high empty));
      left = other-trees at.left level low high;
    }

pub joined-all : {hash : NodeHash} {digests more : List Digest} {size left : ℕ} {peaks rest : List Digest}
    → IsJoinedUpTo hash digests more (size, peaks) (left, rest) → left ≡ 0
    → IsFrontier hash (digests ++ more) size peaks
joined-all {hash} {digests} {more} {size} {left} {peaks} {rest} at none =
    let P : List Digest → Type 0 = λ l. IsFrontier hash l size peaks in
    let nothing : at.last ≡ [] = nil_from_length at.last (at.left.size_is ∙ none) in
    subst P (ap (λ l. digests ++ l) (sym (at.is ∙ ap (λ l. at.first ++ l) nothing ∙ append-nil at.first))) at.done

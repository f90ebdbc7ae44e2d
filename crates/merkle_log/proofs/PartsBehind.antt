-- A part of a log behind others: its stored digests stand where the whole log has them.
use Rattle.std.proofs.Common.{zero, suc, ◌≡◌, ℕ, ◌+◌, ◌-◌, ◌*◌, ◌/◌, ◌%◌, ◌<◌, ◌≤◌, ◌^◌, List, [], ◌++◌, length, take, get_or, arith, pow_pos, refl, ap, sym, ◌∙◌}
use Rattle.std.proofs.lemmas.List.{get_or-append_right, get_or-take, get_or_append_left, length-take-le}
use Rattle.std.proofs.lemmas.Nat.{ones_cat, ones_le_self, pow-add}
use Rattle.std.proofs.Math.Nat.{add-mul, add-mul-div_right, mul_assoc}
use Rattle.std.specs.Prelude.{count_ones}
use Rattle.ark_paths.specs.Index.{log2}
use Rattle.ark_paths.specs.Pair.{Digest}
use Rattle.ark_trees.specs.Rfc6962.{node_hash, node_of}
use Rattle.merkle_log.specs.Kept.{front, Keeps}
use Rattle.merkle_log.specs.Levels.{Lies, RisesTo, covering_level, parent_in, place_in}
use Rattle.merkle_log.specs.Stored.{position, stored_count, IsStored, row_at}
use Rattle.merkle_log.specs.Walk.{index_up}
use Rattle.merkle_log.proofs.Levels.{held-at, pair-held, risen-keeps, up-is}
use Rattle.merkle_log.proofs.Positions.{count-half, count-rises, no-count, place-within, position-within, some-below, up-more}
use Rattle.merkle_log.proofs.Tests.{mul-twice, twice}
use Rattle.merkle_log.proofs.Verdicts.{pow_above}

-- ---- counts

no-ones : count_ones 0 ≡ 0
unfolding lib.Count.ones
no-ones = refl

-- no leaves
pub covering-none : (count : ℕ) → count ≡ 0 → 0 ≡ covering_level count
unfolding log2
covering-none count none =
    let none : 2 * count - 1 ≡ 0 = omega (arith, none) in
    sym (ap log2 none)

-- Behind a multiple of a power of two fewer entries have as many stored digests as alone.
pub stored-cat : (k q n : ℕ) → n < 2 ^ k → stored_count (q * 2 ^ k + n) ≡ stored_count (q * 2 ^ k) + stored_count n
stored-cat k q n less =
    let e : q * 2 ^ k ≡ q * 2 ^ k + 0 = omega arith in
    omega (
      arith,
      ones_cat k q n less,
      ap count_ones e ∙ ones_cat k q 0 (pow_pos k),
      no-ones,
      ones_le_self (q * 2 ^ k),
      ones_le_self n,
      ones_le_self (q * 2 ^ k + n),
    )

-- Two lists together have at least the stored digests of both.
count-adds_below : (k a b : ℕ) → a + b < 2 ^ k → stored_count a + stored_count b ≤ stored_count (a + b)
count-adds_below zero a b low =
    let first : a ≡ 0 = omega arith in
    let second : b ≡ 0 = omega arith in
    rw (first, second) (omega (arith, no-count))
count-adds_below (suc k) a b low = omega (
  arith,
  count-adds_below k (a / 2) (b / 2) (omega (arith, twice k, low)),
  count-rises (a / 2 + b / 2) ((a + b) / 2) (omega arith),
  count-half a,
  count-half b,
  count-half (a + b),
)

pub count-adds : (a b : ℕ) → stored_count a + stored_count b ≤ stored_count (a + b)
count-adds a b = count-adds_below (a + b) a b (pow_above (a + b))

-- ---- places

module _ (k size count : ℕ) (aligned : size % 2 ^ k ≡ 0) (covers : count ≤ 2 ^ k) where
  abbrev q : ℕ
  q = size / 2 ^ k

  size-is : size ≡ q * 2 ^ k
  size-is = omega (arith, aligned, pow_pos k)

  -- the size, counted in the subtrees of a level
  in-places : (l : ℕ) → l ≤ k → size ≡ q * 2 ^ (k - l) * 2 ^ l
  in-places l le =
      let e : k - l + l ≡ k = omega arith in
      size-is ∙ ap (λ n. q * 2 ^ n) (sym e) ∙ ap (λ n. q * n) (pow-add 2 (k - l) l) ∙ sym (mul_assoc q (2 ^ (k - l))
      (2 ^ l))

  up-own : (l : ℕ) → l ≤ k → index_up l size ≡ q * 2 ^ (k - l)
  up-own l le =
      let none : 0 + q * 2 ^ (k - l) * 2 ^ l ≡ q * 2 ^ (k - l) * 2 ^ l = omega arith in
      up-is l size ∙ ap (λ n. n / 2 ^ l) (in-places l le ∙ sym none)
      ∙ add-mul-div_right 0 (q * 2 ^ (k - l)) (pow_pos l) ∙ omega (arith, zero-div l)
    where
      zero-div : (l : ℕ) → 0 / 2 ^ l ≡ 0
      zero-div l = omega (arith, pow_pos l)

  -- Each place of the part is one of the whole log.
  pub up-sum : (l : ℕ) → l ≤ k → index_up l (size + count) ≡ index_up l size + index_up l count
  up-sum l le =
      let turned : size + count ≡ count + q * 2 ^ (k - l) * 2 ^ l = omega (arith, in-places l le) in
      up-is l (size + count) ∙ ap (λ n. n / 2 ^ l) turned
      ∙ add-mul-div_right count (q * 2 ^ (k - l)) (pow_pos l)
      ∙ omega (arith, up-own l le, up-is l count)

  -- It stands behind the stored digests of the others.
  pub position-sum : (l p : ℕ) → l ≤ k → (p + 1) * 2 ^ l ≤ 2 ^ k → position l (index_up l size + p)
      ≡ stored_count size + position l p
  position-sum l p le inside =
      let m = (p + 1) * 2 ^ l - 1 in
      let some = some-below l p in
      let sum : index_up l size + p + 1 ≡ index_up l size + (p + 1) = omega arith in
      let last : (index_up l size + p + 1) * 2 ^ l - 1 ≡ q * 2 ^ k + m =
      ap (λ n. n * 2 ^ l - 1) sum ∙ omega (
        arith,
        add-mul (index_up l size) (p + 1) (2 ^ l),
        ap (λ n. n * 2 ^ l) (up-own l le),
        in-places l le,
        size-is,
        some,
      ) in
      ap (λ n. stored_count n + l) last
      ∙ omega (arith, stored-cat k q m (omega (arith, inside, some)), ap stored_count size-is)

  module _ (kept more part entries : List Digest) (long : length kept ≡ stored_count size)
      (copied : (j : ℕ) → j < stored_count count → get_or more j [] ≡ get_or part j []) where
    pub place-sum : (l p : ℕ) → l ≤ k → p < index_up l count → place_in (kept ++ more) l (index_up l size + p)
        ≡ place_in part l p
    place-sum l p le below =
        let within = place-within l p count below in
        let back : stored_count size + position l p - stored_count size ≡ position l p = omega arith in
        ap (λ n. get_or (kept ++ more) n []) (position-sum l p le (omega (arith, within, covers)))
        ∙ get_or-append_right kept more (stored_count size) (stored_count size + position l p) [] long (omega arith)
        ∙ ap (λ n. get_or more n []) back
        ∙ copied (position l p) (position-within l p count within)

    module _ (total : length entries ≡ count) (keeps : Keeps entries part) where
      own-hashed : IsStored node_of (row_at (front count part))
      own-hashed = rw (total) at keeps.hashed

      pub part-lies : Lies (kept ++ more) size entries
      part-lies place below =
          let own : place < count = omega (arith, total, below) in
          place-sum 0 place (omega arith) own ∙ sym (held-at part count 0 place own)
          ∙ ap (λ l. get_or l place []) (rw (total) at keeps.lowest)

      pub part-rises : RisesTo (kept ++ more) size (size + count) k
      part-rises = record {
        raised = λ l place less low high.
            let p = place - index_up (l + 1) size in
            let e : index_up (l + 1) size + p ≡ place = omega (arith, low) in
            let below : p < index_up (l + 1) count = omega (arith, high, low, up-sum (l + 1) (omega arith)) in
            rw (← e) (here l p less below);
      }
        where
          here : (l p : ℕ) → l < k → p < index_up (l + 1) count
              → place_in (kept ++ more) (l + 1) (index_up (l + 1) size + p)
              ≡ parent_in (kept ++ more) l (index_up (l + 1) size + p)
          here l p less below =
              let half = up-more l count in
              let left : 2 * (index_up (l + 1) size + p) ≡ index_up l size + 2 * p =
              omega (arith, even l less) in
              let right : 2 * (index_up (l + 1) size + p) + 1 ≡ index_up l size + (2 * p + 1) =
              omega (arith, even l less) in
              place-sum (l + 1) p (omega arith) below ∙ sym (pair-held part count own-hashed l p below)
              ∙ ap (λ d. node_hash d (place_in part l (2 * p + 1)))
              (sym (place-sum l (2 * p) (omega arith) (omega (arith, below, half))) ∙ ap (place_in (kept ++ more) l)
              (sym left))
              ∙ ap (node_hash (place_in (kept ++ more) l (2 * (index_up (l + 1) size + p))))
              (sym (place-sum l (2 * p + 1) (omega arith) (omega (arith, below, half))) ∙ ap (place_in (kept ++ more) l)
              (sym right))
            where
              even : (l : ℕ) → l < k → index_up l size ≡ 2 * index_up (l + 1) size
              even l less =
                  let e : k - l ≡ suc (k - (l + 1)) = omega arith in
                  omega (
                    arith,
                    up-own l (omega arith),
                    up-own (l + 1) (omega arith),
                    ap (λ n. q * 2 ^ n) e,
                    mul-twice (k - (l + 1)) q,
                  )

-- ---- what is kept of both

-- what is read of a part's digests in front of others
pub part-read : (part own rest more : List Digest) (count : ℕ) → own ≡ take count part → count ≤ length part
    → more ≡ own ++ rest → (j : ℕ) → j < count → get_or more j [] ≡ get_or part j []
part-read part own rest more count own_is inside is j below =
    ap (λ l. get_or l j []) (is ∙ ap (λ l. l ++ rest) own_is)
    ∙ get_or_append_left (take count part) rest [] j (omega (arith, length-take-le count part inside, below))
    ∙ get_or-take count part j [] below

-- The part's digests were copied, and those above it are hashed.
pub part-joined : (leaves entries kept part mid new : List Digest) (size count level : ℕ) → length leaves ≡ size
    → length entries ≡ count → Keeps leaves kept → Keeps entries part → size % 2 ^ level ≡ 0 → count ≤ 2 ^ level
    → stored_count (size + count) ≡ stored_count size + length new
    → ((j : ℕ) → j < stored_count count → get_or mid j [] ≡ get_or part j [])
    → (RisesTo (take (stored_count size) kept ++ mid) size (size + count) level
    → (top : ℕ) → RisesTo (take (stored_count size) kept ++ new) size (size + count) top)
    → ((place : ℕ) → place_in (take (stored_count size) kept ++ new) 0 place
    ≡ place_in (take (stored_count size) kept ++ mid) 0 place)
    → Keeps (leaves ++ entries) (take (stored_count size) kept ++ new)
part-joined leaves entries kept part mid new size count level own total keeps keeps_part aligned covers whole copied
    rises same =
    let front = take (stored_count size) kept in
    let inside : stored_count size ≤ length kept = rw (own) at keeps.inside in
    let long = length-take-le (stored_count size) kept inside in
    let lies = part-lies level size count aligned covers front mid part entries long copied total keeps_part in
    let risen = part-rises level size count aligned covers front mid part entries long copied total keeps_part in
    risen-keeps leaves kept new entries size (size + count) own keeps (ap (λ n. size + n) (sym total)) whole
    (λ place below. same (size + place) ∙ lies place below) (rises risen)

-- A leaf digest is changed: what the places on its way become.
use Rattle.std.proofs.Common.{zero, suc, ◌≡◌, ◌≢◌, ℕ, ◌+◌, ◌-◌, ◌*◌, ◌/◌, ◌<◌, ◌^◌, Bool, true, false, if◌then◌else◌, List, [], ◌∷◌, ◌++◌, length, take, get_or, set, Ok, Err, arith, refl, ap, sym, subst, ◌∙◌, inl, inr}
use Rattle.std.proofs.lemmas.Bool.{cases_lt, cases_eq}
use Rattle.std.proofs.lemmas.List.{length-set, length-append, get_or_append_left, get_or-set_same, get_or-set_other, drop-set-lt}
use Rattle.std.proofs.Math.Seq.{get_or-append_seam}
use Rattle.std.proofs.Math.Nat.{div-eq_of_lt-le}
use Rattle.ark_base.specs.declared.error.Error.{Error}
use Rattle.ark_paths.specs.Index.{bit_at, neighbour}
use Rattle.ark_paths.specs.Pair.{Digest, HashPair, hash_in_order}
use Rattle.ark_paths.specs.Root.{Place, Root, Refused, place_at, place_of_halves, place, outcome_of, root, upper_levels}
use Rattle.ark_paths.specs.Rows.{IsTree, part}
use Rattle.ark_paths.proofs.OwnPaths.{IsCouple, is_couple, ordered-neighbour, bit_at-level, place-above, first_place}
use Rattle.ark_paths.proofs.Parts.{part-left, part-right, get_or-part, part-whole}
use Rattle.ark_paths.proofs.PlaceLemmas.{row-twice, place-inside, neighbour-inside}
use Rattle.ark_merkle.specs.Update.{AreOnWay}
use Rattle.ark_merkle.proofs.ListParts.{part-set_past}

-- a part that does not hold the index is as before
pub part-set_other : (k q index : ℕ) (digests : List Digest) (digest : Digest) → q ≢ index / 2 ^ suc k
    → part k q (set digests index digest) ≡ part k q digests
part-set_other k q index digests digest other =
    let w = 2 ^ suc k in
    elim (cases_lt index (q * w)) [
      | inl before ↦ ap (take w) (drop-set-lt (q * w) digests index digest before)
      | inr from ↦ elim (cases_lt index ((q + 1) * w)) [
        | inl within ↦ absurd (other (sym (div-eq_of_lt-le w from within)))
        | inr past ↦
            let more : (q + 1) * w ≡ q * w + w = grind arith in
            part-set_past w (q * w) index digests digest (omega arith)
      ]
    ]

-- a place and the one beside it, from the left
from_left : (places : ℕ → Place) (p : ℕ) (b : Bool) (own beside : Place) → IsCouple b p → places p ≡ own
    → places (if b then p - 1 else p + 1) ≡ beside
    → (places (2 * (p / 2)) ≡ (if b then beside else own)) × (places (2 * (p / 2) + 1) ≡ (if b then own else beside))
from_left places p true own beside c is other = (rw (c.neighbour_is) at other, rw (← c.place_is) is)
from_left places p false own beside c is other = (rw (← c.place_is) is, rw (c.neighbour_is) at other)

-- what a place makes of the one above it, with the digest beside it
abbrev place_up : HashPair → ℕ → Bool → Place → Digest → Place
place_up h level b (Root own) beside = place_at level (hash_in_order h.upper b own beside)
place_up h level b (Refused l e) beside = Refused l e

halves-up : (h : HashPair) (level : ℕ) (b : Bool) (own : Place) (beside : Digest) → place_of_halves h level
    (if b then Root beside else own) (if b then own else Root beside) ≡ place_up h level b own beside
halves-up h level true (Root own) beside = refl
halves-up h level false (Root own) beside = refl
halves-up h level true (Refused l e) beside = refl
halves-up h level false (Refused l e) beside = refl

neighbour-other : (b : Bool) (p : ℕ) → IsCouple b p → (if b then p - 1 else p + 1) ≢ p
neighbour-other true p c = λ e. absurd (omega (arith, c.place_is))
neighbour-other false p c = λ e. absurd (omega arith)

other : (p : ℕ) → neighbour p ≢ p
other p = neighbour-other (bit_at p 0) p (is_couple p (bit_at p 0) refl)

module _ (h : HashPair) (leaves : List Digest) (rows : List (List Digest)) (tree : IsTree h leaves rows) (index : ℕ)
    (inside : index < length leaves) (digest : Digest) where
  abbrev pub new : List Digest
  new = set leaves index digest

  -- the part on the way of the index
  abbrev pub own : ℕ → List Digest
  own k = part k (index / 2 ^ suc k) new

  pub lowest-place : place h 0 (own 0) ≡ place_at 0 (hash_in_order h.bottom (bit_at index 0) digest
      (get_or leaves (neighbour index) []))
  lowest-place =
      let q = index / 2 in
      let half : index / 2 ^ 1 ≡ q = omega arith in
      let first : 2 * q + 0 ≡ 2 * q = omega arith in
      let here = get_or-set_same leaves index digest [] inside in
      let beside = get_or-set_other leaves index (neighbour index) digest [] (other index) in
      rw (half, get_or-part q 0 new (omega arith), first, get_or-part q 1 new (omega arith)) (ap (place_at 0)
      (sym (rw (here, beside) at (ordered-neighbour h.bottom new index))))

  -- beside the way nothing changes
  place-beside : (k : ℕ) → suc k < length rows → place h k (part k (neighbour (index / 2 ^ suc k)) new)
      ≡ Root (get_or (get_or rows k []) (neighbour (index / 2 ^ suc k)) [])
  place-beside k below =
      let p = index / 2 ^ suc k in
      let twice = row-twice rows (length leaves) tree.levels k below in
      let here = place-inside rows (length leaves) tree.levels k index (omega arith) inside in
      let next : neighbour p < 2 * length (get_or rows (suc k) []) =
      neighbour-inside p (length (get_or rows (suc k) [])) (omega arith) in
      ap (place h k) (part-set_other k (neighbour p) index leaves digest (other p))
      ∙ tree.roots k (neighbour p) (omega arith) (rw twice next)

  place-above_own : (k : ℕ) → suc k < length rows → (o : Place) → place h k (own k) ≡ o → place h (suc k)
      (own (suc k)) ≡ place_up h (suc k) (bit_at index (suc k)) o (get_or (get_or rows k []) (neighbour (index
      / 2 ^ suc k)) [])
  place-above_own k below o is =
      let p = index / 2 ^ suc k in
      let q = index / 2 ^ suc (suc k) in
      let beside = get_or (get_or rows k []) (neighbour p) [] in
      let two = from_left (λ n. place h k (part k n new)) p (bit_at p 0) o (Root beside)
      (is_couple p (bit_at p 0) refl) is (place-beside k below) in
      rw (part-left k q new, part-right k q new, place-above index (suc k), two.0, two.1)
      (halves-up h (suc k) (bit_at p 0) o beside)
      ∙ ap (λ b. place_up h (suc k) b o beside) (bit_at-level index (suc k))

  pub place-up : (k : ℕ) → suc k < length rows → (d : Digest) → place h k (own k) ≡ Root d → place h (suc k)
      (own (suc k)) ≡ place_at (suc k) (hash_in_order h.upper (bit_at index (suc k)) d (get_or (get_or rows k [])
      (neighbour (index / 2 ^ suc k)) []))
  place-up k below d is = place-above_own k below (Root d) is

  refused-on : (l : ℕ) (e : Error) (n k : ℕ) → suc (k + n) ≡ length rows → place h k (own k) ≡ Refused l e
      → place h (k + n) (own (k + n)) ≡ Refused l e
  refused-on l e zero k last is = let same : k + 0 ≡ k = omega arith in rw same is
  refused-on l e (suc n) k last is =
      let next : suc k + n ≡ k + suc n = omega arith in
      rw next at (refused-on l e n (suc k) (omega arith) (place-above_own k (omega arith) (Refused l e) is))

  same_levels : upper_levels new ≡ upper_levels leaves
  same_levels = rw (length-set leaves index digest) refl

  pub root-own : root h new ≡ outcome_of (place h (upper_levels leaves) (own (upper_levels leaves)))
  root-own =
      let whole = part-whole (upper_levels leaves) new (length-set leaves index digest ∙ tree.size) in
      rw (same_levels, first_place h leaves rows tree index inside, whole) refl

  -- a refusal on the way is that of the whole
  pub root-refused : (k l : ℕ) (e : Error) → k < length rows → place h k (own k) ≡ Refused l e → root h new ≡ Err e
  root-refused k l e below is =
      let m = upper_levels leaves in
      let n = m - k in
      let last : k + n ≡ m = omega (arith, tree.count) in
      root-own ∙ ap outcome_of (rw last at (refused-on l e n k (omega (arith, tree.count)) is))

  -- ---- the way, digest by digest

  -- the lowest digest
  module _ (sibling : Digest) (beside : get_or leaves (neighbour index) [] ≡ sibling) where
    pub lowest-on_way : (d : Digest) → hash_in_order h.bottom (bit_at index 0) digest sibling ≡ Ok d → AreOnWay h new
        index (d ∷ [])
    lowest-on_way d hashed zero below = lowest-place ∙ rw (beside, hashed) refl
    lowest-on_way d hashed (suc k) below = absurd (omega arith)

    pub lowest-refused : (e : Error) → hash_in_order h.bottom (bit_at index 0) digest sibling ≡ Err e
        → root h new ≡ Err e
    lowest-refused e refused = root-refused 0 0 e (omega (arith, tree.count)) (lowest-place ∙ rw (beside, refused) refl)

  -- the digest of a level, from the one below and that beside it
  module _ (way : List Digest) (on_way : AreOnWay h new index way) (level : ℕ) (long : length way ≡ level)
      (some : 0 < level) (inside_rows : level < length rows) (below sibling : Digest) (below_is : get_or way (level - 1)
      [] ≡ below) (sibling_is : get_or (get_or rows (level - 1) []) (neighbour (index / 2 ^ level)) [] ≡ sibling) where
    level-place : place h level (own level) ≡ place_at level (hash_in_order h.upper (bit_at index level) below sibling)
    level-place =
        let k = level - 1 in
        let is : suc k ≡ level = omega arith in
        let under : place h k (own k) ≡ Root below = on_way k (omega arith) ∙ ap Root below_is in
        subst (λ (n : ℕ). n < length rows → place h n (own n) ≡ place_at n (hash_in_order h.upper (bit_at index n) below
        (get_or (get_or rows k []) (neighbour (index / 2 ^ n)) []))) is (λ inner. place-up k inner below under)
        inside_rows
        ∙ ap (λ (d : Digest). place_at level (hash_in_order h.upper (bit_at index level) below d)) sibling_is

    pub next-on_way : (d : Digest) → hash_in_order h.upper (bit_at index level) below sibling ≡ Ok d → AreOnWay h new
        index (way ++ d ∷ [])
    next-on_way d hashed k under = elim (cases_lt k (length way)) [
      | inl lt ↦ on_way k lt ∙ ap Root (sym (get_or_append_left way (d ∷ []) [] k lt))
      | inr ge ↦
          let last : k ≡ length way = omega (arith, under, length-append way (d ∷ [])) in
          let read : get_or (way ++ d ∷ []) (length way) [] ≡ d = get_or-append_seam way d [] [] in
          rw (last, read, long) (level-place ∙ rw (hashed) refl)
    ]

    pub next-refused : (e : Error) → hash_in_order h.upper (bit_at index level) below sibling ≡ Err e
        → root h new ≡ Err e
    next-refused e refused = root-refused level level e inside_rows (level-place ∙ rw (refused) refl)

  module _ (way : List Digest) (on_way : AreOnWay h new index way) (long : length way ≡ length rows) where
    -- the last digest on the way is the root
    pub root-way : root h new ≡ Ok (get_or way (upper_levels leaves) [])
    root-way = root-own ∙ ap outcome_of (on_way (upper_levels leaves) (omega (arith, tree.count, long)))

    module _ (put : List (List Digest)) (count : length put ≡ length rows) (puts : (k : ℕ) → k < length rows
        → get_or put k [] ≡ set (get_or rows k []) (index / 2 ^ suc k) (get_or way k [])) where
      long_as : (k : ℕ) → k < length rows → length (get_or put k []) ≡ length (get_or rows k [])
      long_as k below = ap length (puts k below) ∙ length-set (get_or rows k []) (index / 2 ^ suc k) (get_or way k [])

      roots-put : (k q : ℕ) → k < length rows → q < length (get_or rows k []) → place h k (part k q new)
          ≡ Root (get_or (get_or put k []) q [])
      roots-put k q below within =
          let p = index / 2 ^ suc k in
          let d = get_or way k [] in
          elim (cases_eq q p) [
            | inl same ↦
                let read = get_or-set_same (get_or rows k []) p d [] (rw (← same) within) in
                rw (same, puts k below, read) (on_way k (omega (arith, long)))
            | inr apart ↦
                ap (place h k) (part-set_other k q index leaves digest apart) ∙ tree.roots k q below within
                ∙ rw (puts k below, get_or-set_other (get_or rows k []) p q d [] apart) refl
          ]

      -- the rows with the digests of the way are those of the changed tree
      pub is_tree-changed : IsTree h new put
      is_tree-changed = record {
        size = rw (same_levels) (length-set leaves index digest ∙ tree.size);
        count = rw (same_levels) (count ∙ tree.count);
        levels = λ k below. let k_below : k < length rows =
            rw count at below in rw (long_as k k_below, length-set leaves index digest) (tree.levels k k_below);
        roots = λ k q below within. let k_below : k < length rows =
            rw count at below in roots-put k q k_below (rw (long_as k k_below) at within);
      }

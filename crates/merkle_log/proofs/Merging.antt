-- How a digest is put behind a frontier.
use Rattle.std.proofs.Common.{suc, ◌≡◌, ℕ, ◌+◌, ◌-◌, ◌/◌, ◌%◌, ◌<◌, ◌≤◌, ◌^◌, List, [], ◌∷◌, ◌++◌, length, map, take, get_or, Ok, Err, arith, refl, ap, sym, ◌∙◌}
use Rattle.std.proofs.lemmas.List.{length-append, length-map, map-append, take_more, take_all, same_from_push, get_or_append_left, get_or_push}
use Rattle.std.proofs.lemmas.Nat.{zero_from_ones}
use Rattle.std.specs.Prelude.{count_ones}
use Rattle.ark_base.specs.declared.error.Error.{Error}
use Rattle.ark_base.specs.Outcome.{Outcome}
use Rattle.merkle_log.specs.Walk.{index_up, joined}
use Rattle.ark_paths.specs.Pair.{Digest}
use Rattle.merkle_log.specs.Log.{NodeHash, merkle_tree_hash}
use Rattle.merkle_log.specs.Frontier.{complete_pairs, frontier, peak_back, HasPeaks, IsFrontier, RefusesPeak}
use Rattle.merkle_log.proofs.Tests.{fewer}
use Rattle.merkle_log.proofs.Carried.{chain-more, odd-more}
use Rattle.merkle_log.proofs.Completing.{digest-read}
use Rattle.merkle_log.proofs.Positions.{up-more}
use Rattle.merkle_log.proofs.Verdicts.{pow_above}
use Rattle.merkle_log.proofs.Lasts.{Node, node_rows}
use Rattle.merkle_log.proofs.Peaks.{length-complete_pairs, frontier-odd, frontier-push_even, frontier-push_odd, frontier-any, frontier-levels, folded, folded-push, root-folded}

-- ---- a digest more

-- From a row of complete trees on, with the peaks so far left of it, the frontier is this.
pub record Merging (hash : NodeHash) (empty : Digest) (peaks : List Digest) (count left : ℕ) (last : Digest)
    (goal : List Node) : Type 0 where
  pub row : List Node
  pub levels : ℕ
  pub size : length row ≡ count
  pub high : count < 2 ^ levels
  pub peaks_are : frontier (joined hash) (Ok empty) levels row ≡ node_rows (take left peaks)
  pub is : frontier (joined hash) (Ok empty) (suc levels) (row ++ (Ok last ∷ [])) ≡ goal

pub merging-first : {hash : NodeHash} (empty : Digest) {row : List Node} {size left : ℕ} {peaks : List Digest}
    {digest : Digest} → length peaks ≡ left → length row ≡ size → HasPeaks hash row peaks
    → Merging hash empty peaks size left digest (frontier (joined hash) (Ok empty) (suc size) (row ++ (Ok digest ∷ [])))
merging-first {hash} empty {row} {size} {left} {peaks} {digest} left_is size_is own =
    record {
      row = row;
      levels = size;
      size = size_is;
      high = pow_above size;
      peaks_are = own.at empty size (omega (arith, size_is, pow_above size))
          ∙ ap node_rows (sym (take_all left peaks (omega arith)));
      is = refl;
    }

module _ {A : Type 0} (numbers : A → Digest) (items : List A) {hash : NodeHash} {empty : Digest} where
  pub merging-next : {count left : ℕ} {last next : Digest} {goal : List Node}
      → Merging hash empty (map numbers items) count left last goal
      → count % 2 ≡ 1
      → (up : ℕ)
      → left ≡ up + 1
      → left ≤ length items
      → (peak : A)
      → peak ≡ get_or items up peak
      → hash (numbers peak) last ≡ Ok next
      → Merging hash empty (map numbers items) (count / 2) up next goal
  merging-next {count} {left} {last} {next} {goal} at odd up left_is within peak read hashed =
      let own = digest-read numbers items up peak (omega arith) read in
      let level = fewer (λ k. (frontier (joined hash) (Ok empty) k at.row ≡ node_rows (take left peaks))
      × (frontier (joined hash) (Ok empty) (suc k) (at.row ++ (Ok last ∷ [])) ≡ goal))
      (λ k. (frontier (joined hash) (Ok empty) k row_up ≡ node_rows (take up peaks))
      × (frontier (joined hash) (Ok empty) (suc k) (row_up ++ (Ok next ∷ [])) ≡ goal)) at.levels (omega arith) at.high
      (at.peaks_are, at.is) (λ k high so.
      let parts = same_from_push (frontier (joined hash) (Ok empty) k row_up) (node_rows (take up peaks)) last_one
      (Ok (get_or peaks up [])) (sym (frontier-odd (joined hash) (Ok empty) k at.row odd_row) ∙ so.0 ∙ cut) in (
        parts.0,
        ap (λ z. frontier (joined hash) (Ok empty) (suc k) (row_up ++ (z ∷ []))) (sym (ap (λ z. joined hash z
            (Ok last)) parts.1 ∙ ap (λ d. hash d last) (sym own) ∙ hashed))
            ∙ sym (frontier-push_odd (joined hash) (Ok empty) (suc k) at.row (Ok last) odd_row) ∙ so.1,
      )) in
      record {
        row = row_up;
        levels = level.levels;
        size = length-complete_pairs (joined hash) at.row ∙ ap (λ n. n / 2) at.size;
        high = level.high;
        peaks_are = level.at.0;
        is = level.at.1;
      }
    where
      peaks : List Digest
      peaks = map numbers items

      row_up : List Node
      row_up = complete_pairs (joined hash) at.row

      last_one : Node
      last_one = get_or at.row (length at.row - 1) (Ok empty)

      odd_row : length at.row % 2 ≡ 1
      odd_row = ap (λ n. n % 2) at.size ∙ odd

      cut : node_rows (take left peaks) ≡ node_rows (take up peaks) ++ (Ok (get_or peaks up []) ∷ [])
      cut = ap (λ n. node_rows (take n peaks)) left_is
          ∙ ap (map Ok) (take_more peaks up [] (omega (arith, length-map items numbers)))
          ∙ map-append Ok (take up peaks) (get_or peaks up [] ∷ [])

pub merging-end : {hash : NodeHash} {empty : Digest} {peaks : List Digest} {count left : ℕ} {last : Digest}
    {goal : List Node} → Merging hash empty peaks count left last goal → count % 2 ≡ 0 → goal
    ≡ node_rows (take left peaks ++ (last ∷ []))
merging-end {hash} {empty} {peaks} {count} {left} {last} at even =
    sym at.is
    ∙ frontier-push_even (joined hash) (Ok empty) at.levels at.row (Ok last) (ap (λ n. n % 2) at.size ∙ even)
    ∙ ap (λ l. l ++ (Ok last ∷ [])) (frontier-levels (joined hash) (Ok empty) at.levels at.row
    (omega (arith, at.size, at.high)) ∙ at.peaks_are)
    ∙ sym (map-append Ok (take left peaks) (last ∷ []))

-- The row and one more have these peaks.
pub peaks-more : {hash : NodeHash} (row : List Node) {size : ℕ} {peaks : List Digest} (digest : Digest)
    → length row ≡ size → ((empty : Digest) → frontier (joined hash) (Ok empty) (suc size) (row ++ (Ok digest ∷ []))
    ≡ node_rows peaks) → HasPeaks hash (row ++ (Ok digest ∷ [])) peaks
peaks-more {hash} row {size} {peaks} digest size_is is = record {
  at = λ empty levels high. frontier-any (joined hash) (Ok empty) levels (suc size) (row ++ (Ok digest ∷ [])) high
      (omega (arith, length-append row (Ok digest ∷ []), size_is, pow_above (suc size))) ∙ is empty;
}

-- ---- the pairs that are hashed for it

-- A digest made these of the last peaks, one behind the other, up to the last one.
pub record MadeOf (hash : NodeHash) (size : ℕ) (peaks : List Digest) (digest : Digest) (count left : ℕ)
    (last : Digest) : Type 0 where
  pub level : ℕ
  pub made : List Digest
  pub long : length made ≡ level + 1
  pub first : get_or made 0 [] ≡ digest
  pub last_is : get_or made level [] ≡ last
  pub count_is : index_up level size ≡ count
  pub left_is : left + level ≡ length peaks
  pub odd : (k : ℕ) → k < level → index_up k size % 2 ≡ 1
  pub hashed : (k : ℕ) → k < level → hash (peak_back peaks k) (get_or made k []) ≡ Ok (get_or made (suc k) [])

pub made-first : {hash : NodeHash} {size left : ℕ} {peaks : List Digest} {digest : Digest} → length peaks ≡ left
    → MadeOf hash size peaks digest size left digest
made-first {digest = digest} all = record {
  level = 0;
  made = digest ∷ [];
  long = refl;
  first = refl;
  last_is = refl;
  count_is = refl;
  left_is = omega arith;
  odd = λ k below. absurd (omega arith);
  hashed = λ k below. absurd (omega arith);
}

module _ {hash : NodeHash} {size count left : ℕ} {peaks : List Digest} {digest last : Digest}
    (at : MadeOf hash size peaks digest count left last) (odd : count % 2 ≡ 1) (up : ℕ) (left_is : left ≡ up + 1) where
  here : (next : Outcome Digest) → hash (get_or peaks up []) last ≡ next
      → hash (peak_back peaks at.level) (get_or at.made at.level []) ≡ next
  here next is =
      let back : length peaks - 1 - at.level ≡ up = omega (arith, at.left_is) in
      ap (λ n. hash (get_or peaks n []) (get_or at.made at.level [])) back ∙ ap (hash (get_or peaks up [])) at.last_is
      ∙ is

  odds : (k : ℕ) → k < at.level + 1 → index_up k size % 2 ≡ 1
  odds = odd-more (λ k. index_up k size) at.level at.odd (ap (λ n. n % 2) at.count_is ∙ odd)

  pub made-next : (next : Digest) → hash (get_or peaks up []) last ≡ Ok next
      → MadeOf hash size peaks digest (count / 2) up next
  made-next next is = record {
    level = at.level + 1;
    made = at.made ++ (next ∷ []);
    long = length-append at.made (next ∷ []) ∙ ap (λ n. n + 1) at.long;
    first = get_or_append_left at.made (next ∷ []) [] 0 (omega (arith, at.long)) ∙ at.first;
    last_is = get_or_push at.made next [] (at.level + 1) (omega (arith, at.long));
    count_is = up-more at.level size ∙ ap (λ n. n / 2) at.count_is;
    left_is = omega (arith, at.left_is);
    odd = odds;
    hashed = chain-more hash (peak_back peaks) at.level at.made next at.long at.hashed (here (Ok next) is);
  }

  pub made-refused : (error : Error) → hash (get_or peaks up []) last ≡ Err error
      → RefusesPeak hash size peaks digest error
  made-refused error is = record {
    level = at.level;
    made = at.made;
    first = at.first;
    odd = λ k le. odds k (omega arith);
    hashed = at.hashed;
    refused = here (Err error) is;
  }

-- ---- the root

-- What the peaks left make of a last digest is this.
pub record Folding (hash : NodeHash) (peaks : List Digest) (left : ℕ) (last : Node) (answer : Outcome Digest) :
    Type 0 where
  pub is : folded (joined hash) (node_rows (take left peaks)) last ≡ answer

pub folding-first : {hash : NodeHash} (empty : Digest) {digests : List Digest} {size : ℕ} {peaks : List Digest}
    (left : ℕ) {last : Digest} → IsFrontier hash digests size peaks → length peaks ≡ left + 1 → get_or peaks left []
    ≡ last → Folding hash peaks left (Ok last) (merkle_tree_hash hash empty digests)
folding-first {hash} empty {digests} {size} {peaks} left {last} own count same =
    let cut : node_rows peaks ≡ node_rows (take left peaks) ++ (Ok (get_or peaks left []) ∷ []) =
    ap node_rows (sym (take_all (left + 1) peaks (omega arith)) ∙ take_more peaks left [] (omega arith)) ∙ map-append Ok
    (take left peaks) (get_or peaks left [] ∷ []) in
    record {
      is = sym (root-folded (joined hash) (Ok empty) (length digests) (node_rows digests) (node_rows (take left peaks))
          (Ok last) (omega (arith, pow_above (length digests), length-map {B = Node} digests Ok))
          (own.peaks_are empty ∙ cut ∙ ap (λ d. node_rows (take left peaks) ++ (Ok d ∷ [])) same));
    }

pub folding-next : {A : Type 0} (numbers : A → Digest) (items : List A) {hash : NodeHash} {left : ℕ} {last : Digest}
    {next : Node} {answer : Outcome Digest} → Folding hash (map numbers items) left (Ok last) answer → (up : ℕ)
    → left ≡ up + 1 → left ≤ length items → (peak : A) → peak ≡ get_or items up peak → hash (numbers peak) last ≡ next
    → Folding hash (map numbers items) up next answer
folding-next numbers items {hash} {left} {last} {next} at up left_is within peak read hashed =
    let peaks = map numbers items in
    let own = digest-read numbers items up peak (omega arith) read in
    record {
      is = ap (folded (joined hash) (node_rows (take up peaks))) (sym (ap (λ d. hash d last) (sym own) ∙ hashed))
          ∙ sym (folded-push (joined hash) (node_rows (take up peaks)) (Ok (get_or peaks up [])) (Ok last))
          ∙ ap (λ l. folded (joined hash) l (Ok last)) (sym (map-append Ok (take up peaks) (get_or peaks up [] ∷ []))
          ∙ ap node_rows (sym (take_more peaks up [] (omega (arith, length-map items numbers)))
          ∙ ap (λ n. take n peaks) (sym left_is)))
          ∙ at.is;
    }

pub folding-refused : {hash : NodeHash} {peaks : List Digest} {left : ℕ} {e : Error} {answer : Outcome Digest}
    → Folding hash peaks left (Err e) answer → answer ≡ Err e
folding-refused {hash} {peaks} {left} {e} at = sym at.is ∙ still (take left peaks)
  where
    still : (ps : List Digest) → folded (joined hash) (node_rows ps) (Err e) ≡ Err e
    still [] = refl
    still (p ∷ ps) = ap (joined hash (Ok p)) (still ps)

pub folding-last : {hash : NodeHash} {peaks : List Digest} {left : ℕ} {last : Node} {answer : Outcome Digest}
    → Folding hash peaks left last answer → left ≡ 0 → answer ≡ last
folding-last {hash} {peaks} {left} {last} at none =
    sym at.is ∙ ap (λ n. folded (joined hash) (node_rows (take n peaks)) last) none

-- ---- the list of no digests

pub no_digests : (digests : List Digest) → length digests ≡ 0 → digests ≡ []
no_digests [] none = refl
no_digests (d ∷ digests) none = absurd (omega arith)

pub no_peaks : (size : ℕ) → count_ones size ≡ 0 → size ≡ 0
no_peaks size none = zero_from_ones size none

pub empty-root : (hash : NodeHash) (empty : Digest) (digests : List Digest) (size : ℕ) (peaks : List Digest)
    → IsFrontier hash digests size peaks → length peaks ≡ count_ones size → length peaks ≡ 0 → merkle_tree_hash hash
    empty digests ≡ Ok empty
empty-root hash empty digests size peaks own ones none =
    ap (merkle_tree_hash hash empty) (no_digests digests (own.size_is ∙ no_peaks size (sym ones ∙ none)))

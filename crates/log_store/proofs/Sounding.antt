-- The stored digests of a log's file, of which each is the hash of its two.
use Rattle.std.proofs.Common.{suc, ◌≡◌, ℕ, ◌+◌, ◌-◌, ◌*◌, ◌/◌, ◌%◌, ◌<◌, ◌≤◌, ◌^◌, nat_eq, Bool, true, false, List, [], length, take, drop, get_or, Option, Some, None, Result, Ok, Err, refl, ap, sym, ◌∙◌, subst, inl, inr, arith}
use Rattle.std.proofs.lemmas.Bool.{cases_lt}
use Rattle.std.proofs.lemmas.Bool.Decides.{nat_tests}
use Rattle.std.proofs.lemmas.List.{drop-drop, drop-take, take-take}
use Rattle.sha2.specs.Sha256.{sha256}
use Rattle.ark_base.specs.Laws.Steps.{done_injective}
use Rattle.ark_base.specs.declared.error.Error.{Error}
use Rattle.ark_paths.specs.Pair.{Digest}
use Rattle.ark_trees.specs.Rfc6962.{node_hash, node_of}
use Rattle.merkle_log.specs.Kept.{front, has_front, Keeps}
use Rattle.merkle_log.specs.Log.{merkle_tree_hash}
use Rattle.merkle_log.specs.Stored.{position, stored_count, row_at, row_pairs}
use Rattle.merkle_log.specs.Walk.{index_up}
use Rattle.merkle_log.proofs.Edges.{row_pair}
use Rattle.merkle_log.proofs.Hashed.{hashed-all, HashedTo}
use Rattle.merkle_log.proofs.KeptRows.{keeps-of, up-rises}
use Rattle.merkle_log.proofs.Positions.{length-row_of, place-within, position-within, row_of-at, up-carry, up-more, up-same, up-times_all}
use Rattle.log_file.specs.Faults.{log_size, only_if}
use Rattle.log_file.specs.LogFile.{digest_count, file_end, file_head, slot_to_take, stored_in, IsLogFile}
use Rattle.log_file.specs.declared.fault.Fault.{Fault}
use Rattle.log_file.specs.declared.fault.Fault.TheVariants.{Short}
use Rattle.log_file.proofs.Files.{known}
use Rattle.log_store.specs.Sound.{placed, AreNodes, HasStored, IsAhead, IsNode}
use Rattle.log_store.proofs.Reading.{length-chunks, stands, stored-at, up-less, Stands}

-- ---- digests by their places

-- the digest of a complete place of the list
placed-in : (file : List ℕ) (size level place : ℕ) → place < index_up level size
    → placed file level place ≡ get_or (row_at (front size (stored_in size file)) level) place []
placed-in file size level place below =
    stored-at size (position level place) file (position-within level place size (place-within level place size below))
    ∙ sym (row_of-at (front size (stored_in size file)) level place below)

-- the digest of an entry
pub leaf-placed : (leaves : List Digest) (file : List ℕ) (index : ℕ) → Keeps leaves (stored_in (length leaves) file)
    → index < length leaves → placed file 0 index ≡ get_or leaves index []
leaf-placed leaves file index keeps below =
    placed-in file (length leaves) 0 index below ∙ ap (λ l. get_or l index []) keeps.lowest

up-next : (level size : ℕ) → index_up (suc level) size ≡ index_up level size / 2
up-next level size =
    let e : level + 1 ≡ suc level = omega arith in
    ap (λ l. index_up l size) (sym e) ∙ up-more level size

module _ (file : List ℕ) (size : ℕ) where
  abbrev pub rows : ℕ → List Digest
  rows = row_at (front size (stored_in size file))

  long : (level : ℕ) → length (rows level) ≡ index_up level size
  long level = length-row_of (front size (stored_in size file)) level

  -- the pairs of a row
  level-hashed : AreNodes file size → (level : ℕ) → row_pairs node_of (rows level) ≡ Ok (rows (suc level))
  level-hashed are level =
      hashed-all node_of (rows level) (rows (suc level)) (long (suc level) ∙ up-next level size
      ∙ ap (λ n. n / 2) (sym (long level))) pairs
    where
      pairs : HashedTo node_of (rows level) (rows (suc level)) (length (rows (suc level)))
      pairs q below =
          let up : q < index_up (suc level) size = omega (arith, below, long (suc level)) in
          let inside : 2 * q + 1 < index_up level size = omega (arith, up, up-next level size) in
          ap (λ d. node_of d (get_or (rows level) (2 * q + 1) []))
          (sym (placed-in file size level (2 * q) (omega (arith, inside))))
          ∙ ap (node_of (placed file level (2 * q))) (sym (placed-in file size level (2 * q + 1) inside))
          ∙ ap (λ d. Ok d) (are level q up ∙ placed-in file size (suc level) q up)

  -- Digests that are hashed so are those of a log.
  pub hashed-keeps : AreNodes file size → Keeps (rows 0) (stored_in size file)
  hashed-keeps are = keeps-of size (rows 0) (stored_in size file) (long 0)
      (omega (arith, length-chunks (stored_count size) (drop 96 file))) refl
      (record { pairs = level-hashed are })

  pub first-long : length (rows 0) ≡ size
  first-long = long 0

-- Those of a log are hashed so, also the first of them.
pub keeps-hashed : (leaves : List Digest) (file : List ℕ) (size : ℕ) → Keeps leaves (stored_in (length leaves) file)
    → size ≤ length leaves → AreNodes file size
keeps-hashed leaves file size keeps le = λ level place below.
    let all = length leaves in
    let row = row_at (front all (stored_in all file)) level in
    let next = row_at (front all (stored_in all file)) (suc level) in
    let up : place < index_up (suc level) all = omega (arith, below, up-rises (suc level) size all le) in
    let inside : 2 * place + 1 < index_up level all = omega (arith, up, up-next level all) in
    let pair = row_pair node_of row next (keeps.hashed.pairs level) place (2 * place) (2 * place + 1) (omega arith) refl
    (omega (arith, inside, length-row_of (front all (stored_in all file)) level)) in
    ap (λ d. node_hash d (placed file level (2 * place + 1)))
    (placed-in file all level (2 * place) (omega (arith, inside)))
    ∙ ap (node_hash (get_or row (2 * place) [])) (placed-in file all level (2 * place + 1) inside)
    ∙ done_injective {E = Error} _ _ pair
    ∙ sym (placed-in file all (suc level) place up)

-- so they stand behind a head
pub front-of : (file : List ℕ) (size : ℕ) → AreNodes file size → file_end size ≤ length file
    → HasStored (rows file size 0) file
front-of file size are inside = record {
  inside = rw (first-long file size) inside;
  keeps = subst (λ n. Keeps (rows file size 0) (stored_in n file)) (sym (first-long file size))
      (hashed-keeps file size are);
}

-- ---- one entry more

module _ (file : List ℕ) (index : ℕ) where
  -- each digest that it completes
  pub entry-hashed : (last : ℕ) → AreNodes file index → ((l : ℕ) → l < last → index_up l index % 2 ≡ 1)
      → index_up last index % 2 ≡ 0 → ((l : ℕ) → l < last → IsNode file l (index_up (suc l) index))
      → AreNodes file (index + 1)
  entry-hashed last are odd even more = λ level place below. elim (cases_lt level last) [
    | inl low ↦
        let carried = up-carry (suc level) index (λ l less. odd l (omega (arith, low, less))) in
        elim (cases_lt place (index_up (suc level) index)) [
          | inl old ↦ are level place old
          | inr new ↦
              let e : place ≡ index_up (suc level) index = omega (arith, new, below, carried) in
              subst (IsNode file level) (sym e) (more level low)
        ]
    | inr high ↦
        let same = up-same (suc level) last index (omega (arith, high)) odd even in
        are level place (omega (arith, below, same))
  ]

  -- one of them that is not
  pub entry-damaged : (level : ℕ) → ((l : ℕ) → l ≤ level → index_up l index % 2 ≡ 1)
      → (IsNode file level (index_up (suc level) index) → ⊥) → AreNodes file (index + 1) → ⊥
  entry-damaged level odd not are =
      let carried = up-carry (suc level) index (λ l less. odd l (omega (arith, less))) in
      not (are level (index_up (suc level) index) (omega (arith, carried)))

-- no entry
pub none-hashed : (file : List ℕ) → AreNodes file 0
none-hashed file = λ level place below. absurd (omega (arith, below, up-less (suc level) 0))

-- ---- the places that an entry completes

-- some levels up, where all below are odd
pub record Climbs (index level left : ℕ) : Type 0 where
  pub left_is : left ≡ index_up level index
  pub odd : (l : ℕ) → l < level → index_up l index % 2 ≡ 1

pub climbs : (index : ℕ) → Climbs index 0 index
climbs index = record { left_is = refl; odd = λ l below. absurd (omega arith) }

pub climb : (index level left : ℕ) → Climbs index level left → left % 2 ≡ 1 → Climbs index (level + 1) (left / 2)
climb index level left at odd = record {
  left_is = ap (λ n. n / 2) at.left_is ∙ sym (up-more level index);
  odd = λ l below. elim (cases_lt l level) [
    | inl less ↦ at.odd l less
    | inr here ↦
        let e : l ≡ level = omega (arith, here, below) in
        ap (λ k. index_up k index % 2) e ∙ ap (λ n. n % 2) (sym at.left_is) ∙ odd
  ];
}

-- where the digest of a place stands that the entry completes
pub own-stands : (index level left : ℕ) → Climbs index level left → index + 1 < 2 ^ 63 → Stands (index + 1) level left
own-stands index level left at fits =
    let all = up-times_all level index at.odd in
    stands (index + 1) level left fits (rw (at.left_is) (omega (arith, all)))

-- and that of the one on its left
pub other-stands : (index level left : ℕ) → Climbs index level left → left % 2 ≡ 1 → index + 1 < 2 ^ 63
    → Stands (index + 1) level (left - 1)
other-stands index level left at odd fits =
    let le = place-within level (left - 1) index (omega (arith, odd, at.left_is)) in
    stands (index + 1) level (left - 1) fits (omega (arith, le))

-- and of the one above both
pub up-stands : (index level left : ℕ) → Climbs index level left → left % 2 ≡ 1 → index + 1 < 2 ^ 63
    → Stands (index + 1) (level + 1) (left / 2)
up-stands index level left at odd fits = own-stands index (level + 1) (left / 2) (climb index level left at odd) fits

-- What is compared with the digest of a place is the hash of its two.
pub record Compares (file : List ℕ) (index level : ℕ) (made above : Digest) : Type 0 where
  pub same : made ≡ above → IsNode file level (index_up (suc level) index)
  pub back : IsNode file level (index_up (suc level) index) → made ≡ above

pub compares : (file : List ℕ) (index level left : ℕ) (other own above : Digest) → Climbs index level left
    → left % 2 ≡ 1 → other ≡ placed file level (left - 1) → own ≡ placed file level left
    → above ≡ placed file (level + 1) (left / 2) → Compares file index level (node_hash other own) above
compares file index level left other own above at odd other_is own_is above_is =
    let p = index_up (suc level) index in
    let up : p ≡ left / 2 = up-next level index ∙ ap (λ n. n / 2) (sym at.left_is) in
    let two : left - 1 ≡ 2 * p = omega (arith, up, odd) in
    let three : left ≡ 2 * p + 1 = omega (arith, up, odd) in
    let next : level + 1 ≡ suc level = omega arith in
    let sides : node_hash other own ≡ node_hash (placed file level (2 * p)) (placed file level (2 * p + 1)) =
    ap (λ d. node_hash d own) (other_is ∙ ap (placed file level) two)
    ∙ ap (node_hash (placed file level (2 * p))) (own_is ∙ ap (placed file level) three) in
    let top : above ≡ placed file (suc level) p =
    above_is ∙ ap (λ n. placed file n (left / 2)) next ∙ ap (placed file (suc level)) (sym up) in
    record { same = λ is. sym sides ∙ is ∙ top; back = λ is. sides ∙ is ∙ sym top }

-- ---- the head

-- what a size says of the head
pub record HasSize (file : List ℕ) (size : ℕ) : Type 0 where
  pub second : Bool
  pub head : file_head file ≡ Some (size, second)
  pub whole : has_front size (digest_count file) ≡ true

pub has-size : (file : List ℕ) (size : ℕ) → log_size file ≡ Ok size → HasSize file size
has-size file size is = go (file_head file) refl is
  where
    number_in : Result ℕ Fault → ℕ
    number_in (Ok n) = n
    number_in (Err fault) = 0

    go : (head : Option (ℕ × Bool)) → file_head file ≡ head
        → log_size file ≡ Ok size → HasSize file size
    go None told known = let clash = rw (told) at known in absurd cc
    go (Some (n, second)) told known =
        let parts = rw (told) at known in
        with_front (has_front n (digest_count file)) refl parts
      where
        with_front : (front : Bool) → has_front n (digest_count file) ≡ front
            → only_if front Short (Ok n) ≡ Ok size → HasSize file size
        with_front false told_no clash = absurd cc
        with_front true told_yes same =
            let e : n ≡ size = ap number_in same in
            record {
              second = second;
              head = told ∙ ap (λ k. Some (k, second)) e;
              whole = rw (← e) told_yes;
            }

-- ---- the file of a log

pub log-stored : (leaves : List Digest) (file : List ℕ) → IsLogFile leaves file → HasStored leaves file
log-stored leaves file log =
    let own = known leaves file log in record { inside = own.holds.inside; keeps = own.holds.keeps }

-- A file whose digests are hashed so, and whose root a slot states or none, is that of a log.
pub sound-file : (file : List ℕ) (size : ℕ) (root : Digest) (free : Bool) → log_size file ≡ Ok size
    → AreNodes file size → slot_to_take file size root ≡ Some free
    → ((leaves : List Digest) → length leaves ≡ size → Keeps leaves (stored_in size file)
    → merkle_tree_hash node_of (sha256 []) leaves ≡ Ok root) → (leaves : List Digest) × IsLogFile leaves file
sound-file file size root free is are states top =
    let leaves = rows file size 0 in
    let count : length leaves ≡ size = first-long file size in
    let keeps : Keeps leaves (stored_in size file) = hashed-keeps file size are in
    let head = has-size file size is in (
      leaves,
      record {
        second_is_next = head.second;
        head = head.head ∙ ap (λ n. Some (n, head.second)) (sym count);
        whole = rw (count) head.whole;
        keeps = subst (λ n. Keeps leaves (stored_in n file)) (sym count) keeps;
        root = root;
        root_is = top leaves count keeps;
        second_is_free = free;
        states = rw (count) states;
      },
    )

-- ---- what is read ahead

pub ahead-at : (start count place : ℕ) (bytes file : List ℕ) → IsAhead start count bytes file → place < count
    → take 32 (drop (32 * place) bytes) ≡ take 32 (drop (96 + 32 * (start + place)) file)
ahead-at start count place bytes file ahead below =
    let at = 32 * place in
    let rest = 32 * count - at in
    let two : at + rest ≡ 32 * count = omega (arith, below) in
    let cut : (xs : List ℕ) → take 32 (drop at (take (32 * count) xs)) ≡ take 32 (drop at xs) = λ xs.
    ap (λ k. take 32 (drop at (take k xs))) (sym two) ∙ ap (take 32) (drop-take at rest xs)
    ∙ take-take 32 rest (drop at xs) (omega (arith, below)) in
    let there : 96 + 32 * start + at ≡ 96 + 32 * (start + place) = omega arith in
    sym (cut bytes) ∙ ap (λ l. take 32 (drop at l)) ahead ∙ cut (drop (96 + 32 * start) file)
    ∙ ap (take 32) (drop-drop at (96 + 32 * start) file) ∙ ap (λ k. take 32 (drop k file)) there

-- ---- two sizes that are compared

abbrev said : {E : Type 0} → Bool → Result Bool E
said holds = Ok holds

answer : {E : Type 0} → Result Bool E → Bool
answer (Ok holds) = holds
answer (Err why) = true

pub said-same : {E : Type 0} (a b : Bool) → said {E = E} a ≡ said b → a ≡ b
unfolding answer
said-same a b is = ap answer is

pub sizes-equal : (a b : ℕ) → nat_eq a b ≡ true → a ≡ b
sizes-equal a b told = grind (arith, nat_tests)

pub sizes-other : (a b : ℕ) → nat_eq a b ≡ false → a ≡ b → ⊥
sizes-other a b told same = grind (arith, nat_tests)

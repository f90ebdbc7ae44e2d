-- What a write that was cut short leaves of a log's file.
use Rattle.std.proofs.Common.{◌≡◌, inl, inr, ℕ, ◌+◌, ◌<◌, ◌≤◌, ◌^◌, Bool, true, false, List, [], ◌++◌, length, take, drop, Option, Some, None, Ok, refl, ap, sym, ◌∙◌, subst, append_assoc, arith}
use Rattle.std.specs.Prelude.{not}
use Rattle.std.proofs.lemmas.Bool.{cases_lt}
use Rattle.std.proofs.lemmas.List.{length-append, length-drop, length-take-le, take-append-drop, drop-drop, take_at, drop_at}
use Rattle.std.proofs.Math.Nat.{max-eq_left}
use Rattle.ark_paths.specs.Pair.{Digest}
use Rattle.log_file.specs.Append.{HasBehind}
use Rattle.sha2.specs.Sha256.{sha256}
use Rattle.ark_trees.specs.Rfc6962.{node_of}
use Rattle.merkle_log.specs.Kept.{Keeps}
use Rattle.merkle_log.specs.Log.{merkle_tree_hash}
use Rattle.log_file.specs.LogFile.{file_end, next_slot, slot, slot_front, slot_size, statement, stored_in, written, IsLogFile}
use Rattle.log_file.proofs.Files.{cut-head, cut-holds, cut-uses, holds-slot, keeps-more, known, known-free, log-holds, slot-torn, Holds, Known}
use Rattle.log_file.proofs.Heads.{fits-size, fits-stated, head-kept, is_headed, length-front, length-slot, length-statement, size-begins, slot-begin, slot-end, slot-fits, uses-kept, uses-turned, HasHead, Uses}
use Rattle.log_file.proofs.Pieces.{piece-written}
use Rattle.log_store.specs.Disk.{Cut}
use Rattle.log_store.specs.Store.{HasSpare, IsGrowth, IsSettled}
use Rattle.log_store.proofs.Mixing.{IsSaid}
use Rattle.log_store.proofs.Spares.{without-used}

-- What is written makes a file no shorter.
pub longer-written : (file bytes : List ℕ) (at : ℕ) → at ≤ length file → length file ≤ length (written file at bytes)
longer-written file bytes at inside = omega (
  arith,
  length-append (take at file ++ bytes) (drop (at + length bytes) file),
  length-append (take at file) bytes,
  length-take-le at file inside,
  length-drop (at + length bytes) file,
)

-- A piece inside the file was cut.
pub torn-piece : (at n : ℕ) (file left : List ℕ) → at + n ≤ length file → Cut at n file left
    → (part : List ℕ) × (length part ≡ n) × (left ≡ written file at part)
torn-piece at n file left inside torn =
    let long : length left ≡ length file =
    omega (arith, torn.no_shorter, torn.no_longer, max-eq_left {n = length file} {m = at + n} inside) in
    let part = take n (drop at left) in
    let count : length part ≡ n = length-take-le n (drop at left) (omega (arith, length-drop at left)) in (
      part,
      count,
      sym (take-append-drop at left) ∙ ap (λ l. take at left ++ l) (sym (take-append-drop n (drop at left)))
          ∙ ap (λ l. take at left ++ (part ++ l)) (drop-drop n at left ∙ torn.after)
          ∙ ap (λ l. l ++ (part ++ drop (at + n) file)) torn.before
          ∙ sym (append_assoc (take at file) part (drop (at + n) file))
          ∙ ap (λ k. (take at file ++ part) ++ drop (at + k) file) (sym count),
    )

-- A piece from a place on was cut, of which the end is not known.
torn-behind : (at n : ℕ) (file left : List ℕ) → Cut at n file left → left ≡ take at file ++ drop at left
torn-behind at n file left torn = sym (take-append-drop at left) ∙ ap (λ l. l ++ drop at left) torn.before

-- ---- an append

-- Leaves are appended to the file of a log: these bytes, and then the size and the root.
pub record Growing (leaves more : List Digest) (file bytes : List ℕ) (second : Bool) : Type 0 where
  pub log : Known leaves file
  pub same : log.free ≡ second
  pub behind : HasBehind leaves (stored_in (length leaves) file) more bytes
  pub fits : length (leaves ++ more) < 2 ^ 63
  pub some : 0 < length more

pub growing : {leaves more : List Digest} {file bytes : List ℕ} {second : Bool} → IsGrowth leaves more file bytes
    second
    → Growing leaves more file bytes second
growing {leaves} {more} {file} {bytes} {second} growth = record {
  log = known leaves file growth.log;
  same = known-free leaves file growth.log ∙ growth.free;
  behind = growth.behind;
  fits = growth.fits;
  some = growth.some;
}

-- the other slot
twice_not : (b : Bool) → not (not b) ≡ b
twice_not true = refl
twice_not false = refl

slot-inside : (second : Bool) → next_slot second + 32 ≤ 96
slot-inside true = omega arith
slot-inside false = omega arith

module _ {leaves more : List Digest} {file bytes : List ℕ} {second : Bool} (grow : Growing leaves more file bytes
    second) where
  abbrev size : ℕ
  size = length leaves

  abbrev new : ℕ
  new = length (leaves ++ more)

  abbrev old_root : Digest
  old_root = grow.log.root

  abbrev free : ℕ
  free = next_slot second

  longer : size < new
  longer = omega (arith, length-append leaves more, grow.some)

  small : new < 2 ^ 64
  small = omega (arith, grow.fits)

  uses : Uses file size old_root second
  uses = subst (Uses file size old_root) grow.same grow.log.uses

  -- the file with the digests
  abbrev pub digests-written : List ℕ
  digests-written = written file (file_end (length leaves)) bytes

  abbrev rest : List ℕ
  rest = drop (file_end size + length bytes) file

  digests-are : digests-written ≡ take (file_end size) file ++ (bytes ++ rest)
  digests-are = append_assoc (take (file_end size) file) bytes rest

  pub more-keeps : Keeps (leaves ++ more) (stored_in (length (leaves ++ more)) digests-written)
  more-keeps = subst (λ f. Keeps (leaves ++ more) (stored_in new f)) (sym digests-are)
      (keeps-more leaves more old_root file bytes rest grow.log.head.long grow.log.holds grow.behind).0

  pub more-inside : file_end (length (leaves ++ more)) ≤ length digests-written
  more-inside = omega (
    arith,
    ap length digests-are,
    (keeps-more leaves more old_root file bytes rest grow.log.head.long grow.log.holds grow.behind).1,
  )

  -- where is written
  pub first-inside : file_end (length leaves) ≤ length file
  first-inside = grow.log.holds.inside

  uses-in : Uses digests-written size old_root second
  uses-in = subst (λ f. Uses f size old_root second) (sym digests-are)
      (cut-uses leaves old_root file (bytes ++ rest) grow.log.head.long grow.log.holds size old_root second uses)

  holds-in : Holds leaves old_root digests-written
  holds-in = subst (Holds leaves old_root) (sym digests-are)
      (cut-holds leaves old_root file (bytes ++ rest) grow.log.head.long grow.log.holds)

  -- a crash while the digests and a slot's end are written
  pub crash-behind : (n : ℕ) (mid left : List ℕ) → Cut (file_end (length leaves)) n file mid
      → Cut (next_slot second + 20) 12 mid left → IsLogFile leaves left
  crash-behind n mid left first then =
      let behind = drop (file_end size) mid in
      let mid-is = torn-behind (file_end size) n file mid first in
      let has : Holds leaves old_root mid = subst (Holds leaves old_root) (sym mid-is)
      (cut-holds leaves old_root file behind grow.log.head.long grow.log.holds) in
      let head : HasHead mid size grow.log.next = subst (λ f. HasHead f size grow.log.next) (sym mid-is)
      (cut-head leaves old_root file behind grow.log.head.long grow.log.holds grow.log.next grow.log.head) in
      let used : Uses mid size old_root second = subst (λ f. Uses f size old_root second) (sym mid-is)
      (cut-uses leaves old_root file behind grow.log.head.long grow.log.holds size old_root second uses) in
      let inside : free + 32 ≤ length mid = omega (arith, slot-inside second, used.long) in
      let piece = torn-piece (free + 20) 12 mid left (omega (arith, inside)) then in
      let begin = take 20 (drop free mid) in
      let count : length begin ≡ 20 = length-take-le 20 (drop free mid) (omega (arith, inside, length-drop free mid)) in
      let part = begin ++ piece.0 in
      let long : length part ≡ 32 = omega (arith, count, piece.1, length-append begin piece.0) in
      let is : left ≡ written mid free part = piece.2 ∙ slot-end mid piece.0 free inside piece.1 in
      let same : take 20 part ≡ begin = take_at begin piece.0 20 count in
      subst (IsLogFile leaves) (sym is) (log-holds leaves old_root (written mid free part) grow.log.next second
      (head-kept mid part size second grow.log.next head long same)
      (uses-kept mid part size old_root second used long)
      (holds-slot leaves old_root mid part second used.long long has))

  -- ---- with the root of the log with the new leaves

  module _ (root : Digest) (root_is : merkle_tree_hash node_of (sha256 []) (leaves ++ more) ≡ Ok root) where
    -- the file with a slot's end, with that slot, and with both
    abbrev pub end-written : List ℕ
    end-written = written digests-written (next_slot second + 20) (statement (length (leaves ++ more)) root)

    abbrev pub slot-written : List ℕ
    slot-written = written end-written (next_slot second) (slot_front (length (leaves ++ more)))

    abbrev pub both-written : List ℕ
    both-written = written slot-written (next_slot (not second)) (slot (length (leaves ++ more)) root)

    more-in : Holds (leaves ++ more) root digests-written
    more-in = record { fits = grow.fits; inside = more-inside; keeps = more-keeps; root_is = root_is }

    inside-in : free + 32 ≤ length digests-written
    inside-in = omega (arith, slot-inside second, uses-in.long)

    -- the end as a whole slot
    abbrev end-part : List ℕ
    end-part = take 20 (drop free digests-written) ++ statement new root

    end-count : length (take 20 (drop free digests-written)) ≡ 20
    end-count = length-take-le 20 (drop free digests-written)
        (omega (arith, inside-in, length-drop free digests-written))

    end-long : length end-part ≡ 32
    end-long = omega (
      arith,
      end-count,
      length-statement new root,
      length-append (take 20 (drop free digests-written)) (statement new root),
    )

    end-is : end-written ≡ written digests-written free end-part
    end-is = slot-end digests-written (statement new root) free inside-in (length-statement new root)

    end-uses : Uses end-written size old_root second
    end-uses = subst (λ f. Uses f size old_root second) (sym end-is)
        (uses-kept digests-written end-part size old_root second uses-in end-long)

    end-holds : Holds leaves old_root end-written
    end-holds = subst (Holds leaves old_root) (sym end-is)
        (holds-slot leaves old_root digests-written end-part second uses-in.long end-long holds-in)

    end-more : Holds (leaves ++ more) root end-written
    end-more = subst (Holds (leaves ++ more) root) (sym end-is)
        (holds-slot (leaves ++ more) root digests-written end-part second uses-in.long end-long more-in)

    end-there : take 12 (drop (free + 20) end-written) ≡ statement new root
    end-there = piece-written digests-written (statement new root) (free + 20) 12 (length-statement new root)
        (omega (arith, inside-in))

    end-inside : free + 32 ≤ length end-written
    end-inside = omega (arith, slot-inside second, end-uses.long)

    -- a slot's front as a whole slot
    front-is : (front : List ℕ) → length front ≡ 20 → written end-written free front
        ≡ written end-written free (front ++ statement new root)
    front-is front long = slot-begin end-written front free end-inside long
        ∙ ap (λ l. written end-written free (front ++ l)) end-there

    front-long : (front : List ℕ) → length front ≡ 20 → length (front ++ statement new root) ≡ 32
    front-long front long = omega (arith, long, length-statement new root, length-append front (statement new root))

    slot-is : slot-written ≡ written end-written free (slot new root)
    slot-is = front-is (slot_front new) (length-front new)

    slot-uses : Uses slot-written new root (not second)
    slot-uses = subst (λ f. Uses f new root (not second)) (sym slot-is)
        (uses-turned end-written (slot new root) size new old_root root second end-uses (length-slot new root) small
        (slot-fits new root))

    slot-holds : Holds (leaves ++ more) root slot-written
    slot-holds = subst (Holds (leaves ++ more) root) (sym slot-is)
        (holds-slot (leaves ++ more) root end-written (slot new root) second end-uses.long (length-slot new root)
        end-more)

    both-holds : Holds (leaves ++ more) root both-written
    both-holds = holds-slot (leaves ++ more) root slot-written (slot new root) (not second) slot-uses.long
        (length-slot new root) slot-holds

    both-uses : (other : Bool) → Uses both-written new root other
    both-uses other = go other second refl
      where
        kept : Uses both-written new root (not second)
        kept = uses-kept slot-written (slot new root) new root (not second) slot-uses (length-slot new root)

        turned : Uses both-written new root second
        turned = subst (Uses both-written new root) (twice_not second) (uses-turned slot-written (slot new root) new new
            root root (not second) slot-uses (length-slot new root) small (slot-fits new root))

        go : (other own : Bool) → own ≡ second → Uses both-written new root other
        go true true is = subst (Uses both-written new root) (sym is) turned
        go false false is = subst (Uses both-written new root) (sym is) turned
        go true false is = subst (Uses both-written new root) (ap not (sym is)) kept
        go false true is = subst (Uses both-written new root) (ap not (sym is)) kept

    -- a crash while the front of the first slot is written
    pub crash-slot : (left : List ℕ) → Cut (next_slot second) 20 end-written left → IsSaid leaves more left
    crash-slot left torn =
        let piece = torn-piece free 20 end-written left (omega (arith, end-inside)) torn in
        let part = piece.0 ++ statement new root in
        let long = front-long piece.0 piece.1 in
        let is : left ≡ written end-written free part = piece.2 ∙ front-is piece.0 piece.1 in
        subst (IsSaid leaves more) (sym is) (elim (slot-torn leaves old_root end-written part second
        end-uses long end-holds) [
          | inl same ↦ inl same
          | inr larger ↦ by_size piece.0 piece.1 larger.0 larger.1 larger.2 larger.3.0 larger.3.1
        ])
      where
        by_size : (front : List ℕ) → length front ≡ 20 → (other : ℕ)
            → slot_size (front ++ statement new root) ≡ Some other → size < other → (next : Bool)
            → HasHead (written end-written free (front ++ statement new root)) other next
            → IsSaid leaves more (written end-written free (front ++ statement new root))
        by_size front count other says less next head = elim (cases_lt other new) [
          | inl below ↦ inr (inr (other, next, is_headed _ other next head, less, λ same. omega (arith, same)))
          | inr ge ↦ elim (cases_lt new other) [
            | inl above ↦ inr (inr (other, next, is_headed _ other next head, less, λ same. omega (arith, same)))
            | inr le ↦
                let e : other ≡ new = omega arith in
                let part = front ++ statement new root in
                let begins = size-begins part new (says ∙ ap Some e) in
                let fits = fits-stated part new root begins (drop_at front (statement new root) 20 count) in
                inr (inl (log-holds (leaves ++ more) root (written end-written free part) next (not second)
                (subst (λ k. HasHead (written end-written free part) k next) e head)
                (uses-turned end-written part size new old_root root second end-uses (front-long front count) small
                fits)
                (holds-slot (leaves ++ more) root end-written part second end-uses.long (front-long front count)
                end-more)))
          ]
        ]

    -- a crash while the second slot is written
    pub crash-both : (left : List ℕ) → Cut (next_slot (not second)) 32 slot-written left
        → IsSaid leaves more left
    crash-both left torn =
        let piece = torn-piece (next_slot (not second)) 32 slot-written left
        (omega (arith, slot-inside (not second), slot-uses.long)) torn in
        subst (IsSaid leaves more) (sym piece.2)
        (elim (slot-torn (leaves ++ more) root slot-written piece.0 (not
        second)
        slot-uses piece.1 slot-holds) [
          | inl same ↦ inr (inl same)
          | inr larger ↦ inr (inr (
            larger.0,
            larger.3.0,
            is_headed _ larger.0 larger.3.0 larger.3.1,
            omega (arith, larger.2, longer),
            λ same. omega (arith, larger.2, same),
          ))
        ])

    -- Whatever a crash leaves of a slot, the other one has its log.
    pub spare-slot : (left : List ℕ) → Cut (next_slot second) 20 end-written left → HasSpare leaves left
    spare-slot left torn =
        let piece = torn-piece free 20 end-written left (omega (arith, end-inside)) torn in
        let part = piece.0 ++ statement new root in
        let long = front-long piece.0 piece.1 in
        let is : left ≡ written end-written free part = piece.2 ∙ front-is piece.0 piece.1 in
        subst (HasSpare leaves) (sym is) (
          second,
          without-used leaves old_root (written end-written free part) second
              (uses-kept end-written part size old_root second end-uses long)
              (holds-slot leaves old_root end-written part second end-uses.long long end-holds),
        )

    pub spare-both : (left : List ℕ) → Cut (next_slot (not second)) 32 slot-written left
        → HasSpare (leaves ++ more) left
    spare-both left torn =
        let piece = torn-piece (next_slot (not second)) 32 slot-written left
        (omega (arith, slot-inside (not second), slot-uses.long)) torn in
        subst (HasSpare (leaves ++ more)) (sym piece.2) (
          not second,
          without-used (leaves ++ more) root (written slot-written (next_slot (not second)) piece.0)
              (not second) (uses-kept slot-written piece.0 new root (not second) slot-uses piece.1)
              (holds-slot (leaves ++ more) root slot-written piece.0 (not second) slot-uses.long piece.1 slot-holds),
        )

    -- where is written
    pub second-inside : next_slot second ≤ length end-written
    second-inside = omega (arith, slot-inside second, end-uses.long)

    pub third-inside : next_slot (not second) ≤ length slot-written
    third-inside = omega (arith, slot-inside (not second), slot-uses.long)

    -- what is there once all is written
    pub both-settled : IsSettled (leaves ++ more) both-written
    both-settled = record {
      log = elim (slot-torn (leaves ++ more) root slot-written (slot new root) (not second) slot-uses
          (length-slot new root) slot-holds) [
            | inl same ↦ same
            | inr larger ↦ absurd (no_larger larger.0 larger.1 larger.2)
          ];
      lost = λ other. without-used (leaves ++ more) root both-written other (both-uses other) both-holds;
    }
      where
        some_of : Option ℕ → ℕ
        some_of None = 0
        some_of (Some n) = n

        no_larger : (other : ℕ) → slot_size (slot new root) ≡ Some other → new < other → ⊥
        no_larger other is less =
            let same = ap some_of (sym (fits-size (slot new root) new root small (slot-fits new root)) ∙ is) in
            omega arith

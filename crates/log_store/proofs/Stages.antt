-- What a crash may leave after each sync of an append.
use Rattle.std.proofs.Common.{◌≡◌, ◌⊎◌, inl, inr, ℕ, ◌+◌, ◌*◌, ◌<◌, ◌≤◌, Bool, List, [], ◌++◌, length, take, drop, Ok, refl, ap, sym, ◌∙◌, subst, arith}
use Rattle.std.specs.Prelude.{not}
use Rattle.std.proofs.Math.Seq.{take-add}
use Rattle.std.proofs.lemmas.List.{drop-take, length-append, take-append-drop, take_all, take_at}
use Rattle.sha2.specs.Sha256.{sha256}
use Rattle.ark_paths.specs.Pair.{Digest}
use Rattle.ark_trees.specs.Rfc6962.{node_of}
use Rattle.merkle_log.specs.Log.{merkle_tree_hash}
use Rattle.merkle_log.specs.Stored.{stored_count}
use Rattle.log_file.specs.Append.{HasBehind}
use Rattle.log_file.specs.LogFile.{file_end, next_slot, slot, slot_front, statement, written, IsLogFile}
use Rattle.log_file.proofs.Chunks.{length-flat}
use Rattle.log_file.proofs.Files.{cut-head, cut-holds, cut-uses, known, sizes-same, stays, stored-same, Holds}
use Rattle.log_file.proofs.Heads.{length-front, length-slot, length-statement, HasHead, Uses}
use Rattle.log_file.proofs.Pieces.{piece-before, piece-written}
use Rattle.log_store.specs.Disk.{After, IsMixed, Torn, TornTwice}
use Rattle.log_store.specs.Store.{AreDurableBehind, BeginsAs, HasDigestsOf, HasSpare, IsDurable, IsDurableBehind, IsMidAppend, IsSettled}
use Rattle.log_store.proofs.Mixing.{by_slot, digests-begins, digests-cut, digests-put, digests-then, mixed-front, newly, slot-within, slots-apart, slots-far, told, unmixed, IsSaid}
use Rattle.log_store.proofs.Spares.{spare-log}
use Rattle.log_store.proofs.Tearing.{both-settled, both-written, crash-behind, crash-both, crash-slot, digests-written, end-written, first-inside, longer-written, more-inside, slot-written, spare-both, spare-slot, Growing}
use Rattle.log_store.proofs.Writes.{begins-written, cut-beside, piece-beside, piece-of, written-alike}

-- ---- a file that begins as that of a log

-- the digests behind the head
digests-same : (size : ℕ) (file left : List ℕ) → BeginsAs size file left
    → take (32 * stored_count size) (drop 96 left) ≡ take (32 * stored_count size) (drop 96 file)
digests-same size file left is = sym (drop-take 96 (32 * stored_count size) left) ∙ ap (drop 96) is
    ∙ drop-take 96 (32 * stored_count size) file

cut-is : (size : ℕ) (file left : List ℕ) → BeginsAs size file left
    → left ≡ take (file_end size) file ++ drop (file_end size) left
cut-is size file left is = sym (take-append-drop (file_end size) left) ∙ ap (λ l. l ++ drop (file_end size) left) is

-- It is of the same log.
pub log-begins : (leaves : List Digest) (file left : List ℕ) → IsLogFile leaves file
    → BeginsAs (length leaves) file left → IsLogFile leaves left
log-begins leaves file left log is = subst (IsLogFile leaves) (sym (cut-is (length leaves) file left is))
    (stays leaves file (drop (file_end (length leaves)) left) (known leaves file log))

-- So an append was not begun.
pub mid-begins : (leaves more : List Digest) (file left : List ℕ) → IsLogFile leaves file
    → BeginsAs (length leaves) file left → IsMidAppend leaves more file left
mid-begins leaves more file left log is = record {
  log = inl (log-begins leaves file left log is);
  digests = digests-begins (length leaves) file left is;
  lost = inl (spare-log leaves left (log-begins leaves file left log is));
}

-- What grows the log of one file grows that of the other.
pub growing-same : {leaves more : List Digest} {file bytes : List ℕ} {second : Bool}
    → Growing leaves more file bytes second → (left : List ℕ) → BeginsAs (length leaves) file left
    → Growing leaves more left bytes second
growing-same {leaves} {more} {file} {bytes} {second} grow left is =
    let log = grow.log in
    let rest = drop (file_end (length leaves)) left in
    let cut = cut-is (length leaves) file left is in
    record {
      log = record {
        next = log.next;
        head = subst (λ f. HasHead f (length leaves) log.next) (sym cut)
            (cut-head leaves log.root file rest log.head.long log.holds log.next log.head);
        root = log.root;
        holds = subst (Holds leaves log.root) (sym cut)
            (cut-holds leaves log.root file rest log.head.long log.holds);
        free = log.free;
        uses = subst (λ f. Uses f (length leaves) log.root log.free) (sym cut)
            (cut-uses leaves log.root file rest log.head.long log.holds (length leaves) log.root log.free log.uses);
      };
      same = grow.same;
      behind = subst (λ l. HasBehind leaves l more bytes)
          (sym (stored-same (length leaves) file left (digests-same (length leaves) file left is))) grow.behind;
      fits = grow.fits;
      some = grow.some;
    }

-- A crash leaves the head and the digests: it leaves the log.
pub begins-of : (size : ℕ) (file left : List ℕ) → take 96 left ≡ take 96 file → HasDigestsOf size file left
    → BeginsAs size file left
begins-of size file left head digests =
    let d = 32 * stored_count size in
    take-add 96 d left ∙ ap (λ l. l ++ take d (drop 96 left)) head ∙ ap (λ l. take 96 file ++ l) digests
    ∙ sym (take-add 96 d file)

-- ---- an append, from a file of which a crash leaves the log

-- An append is not done whose digests are there.
pub record IsLate {leaves more : List Digest} {file bytes : List ℕ} {second : Bool}
    (grow : Growing leaves more file bytes second) (root : Digest)
    (root_is : merkle_tree_hash node_of (sha256 []) (leaves ++ more) ≡ Ok root) (left : List ℕ) : Type 0 where
  pub mid : IsMidAppend leaves more file left
  pub digests : HasDigestsOf (length (leaves ++ more)) (end-written grow root root_is) left

module _ {leaves more : List Digest} {file bytes : List ℕ} {second : Bool}
    (grow : Growing leaves more file bytes second)
    (first : List ℕ → Type 0) (begins : (left : List ℕ) → first left → BeginsAs (length leaves) file left) where
  abbrev new : ℕ
  new = length (leaves ++ more)

  abbrev own : (before : List ℕ) → first before → Growing leaves more before bytes second
  own before now = growing-same grow before (begins before now)

  -- the front of a slot, as it stood there
  abbrev stood : Bool → List ℕ
  stood which = take 20 (drop (next_slot which) file)

  before-same : (which : Bool) (before : List ℕ) → first before → take 20 (drop (next_slot which) before) ≡ stood which
  before-same which before now = piece-of (file_end (length leaves)) (next_slot which) 20 before file
      (omega (arith, slot-within which)) (begins before now)

  abbrev Mixed-at : List ℕ → Bool → Type 0
  Mixed-at left which = IsMixed (stood which) (slot_front new) (take 20 (drop (next_slot which) left))

  -- the slot that is in use
  other-beside : (n : ℕ) → n ≤ 12 → (next_slot (not second) + 20 ≤ next_slot second) ⊎ (next_slot second + 32
      ≤ next_slot (not second)) → (next_slot (not second) + 20 ≤ next_slot second + 20) ⊎ (next_slot second + 20 + n
      ≤ next_slot (not second))
  other-beside n small (inl le) = inl (omega arith)
  other-beside n small (inr ge) = inr (omega arith)

  -- a crash while the digests and a slot's end are written
  abbrev Ending : List ℕ → Type 0
  Ending left = After (TornTwice (file_end (length leaves)) bytes (next_slot second + 20) 12) first left

  pub end-log : (left : List ℕ) → Ending left → IsLogFile leaves left
  end-log left (before, now, (mid, one, two)) = crash-behind (own before now) (length bytes) mid left one.cut two

  pub end-torn : (left : List ℕ) → Ending left → IsMidAppend leaves more file left
  end-torn left (before, now, (mid, one, two)) =
      let n = length leaves in
      record {
        log = inl (end-log left (before, now, (mid, one, two)));
        digests = digests-then n file mid left
            (digests-then n file before mid (digests-begins n file before (begins before now))
            (digests-begins n before mid one.cut.before))
            (digests-cut n (next_slot second + 20) 12 mid left (omega (arith, slot-within second)) two);
        lost = inl (spare-log leaves left (end-log left (before, now, (mid, one, two))));
      }

  -- ---- with the root of the log with the new leaves

  module _ (root : Digest) (root_is : merkle_tree_hash node_of (sha256 []) (leaves ++ more) ≡ Ok root) where
    -- a slot's end was synced, the slot, and both
    pub record HasEnd (left : List ℕ) : Type 0 where
      pub before : List ℕ
      pub now : first before
      pub is : left ≡ end-written (own before now) root root_is

    pub record HasSlot (left : List ℕ) : Type 0 where
      pub before : List ℕ
      pub now : first before
      pub is : left ≡ slot-written (own before now) root root_is

    -- what is there is long enough
    bytes-end : file_end (length leaves) + length bytes ≡ file_end (length (leaves ++ more))
    bytes-end = omega (
      arith,
      ap length grow.behind.is,
      length-flat grow.behind.new grow.behind.are_bytes,
      grow.behind.count,
      ap stored_count (length-append leaves more),
    )

    digests-long : {before : List ℕ} (own : Growing leaves more before bytes second) → 96 ≤ length (digests-written own)
    digests-long own = omega (arith, more-inside own)

    end-in : {before : List ℕ} (own : Growing leaves more before bytes second)
        → next_slot second + 20 ≤ length (digests-written own)
    end-in own = omega (arith, digests-long own, slot-within second)

    end-long : {before : List ℕ} (own : Growing leaves more before bytes second)
        → 96 ≤ length (end-written own root root_is)
    end-long own = omega (
      arith,
      digests-long own,
      longer-written (digests-written own) (statement new root) (next_slot second + 20) (end-in own),
    )

    slot-in : {before : List ℕ} (own : Growing leaves more before bytes second)
        → next_slot second ≤ length (end-written own root root_is)
    slot-in own = omega (arith, end-long own, slot-within second)

    slot-long : {before : List ℕ} (own : Growing leaves more before bytes second)
        → 96 ≤ length (slot-written own root root_is)
    slot-long own = omega (
      arith,
      end-long own,
      longer-written (end-written own root root_is) (slot_front new) (next_slot second) (slot-in own),
    )

    both-in : {before : List ℕ} (own : Growing leaves more before bytes second)
        → next_slot (not second) ≤ length (slot-written own root root_is)
    both-in own = omega (arith, slot-long own, slot-within (not second))

    -- Whatever was there before, the same log is there then.
    digests-alike : (before : List ℕ) (now : first before)
        → BeginsAs new (digests-written grow) (digests-written (own before now))
    digests-alike before now = subst (λ m. take m (digests-written (own before now)) ≡ take m (digests-written grow))
        (omega (arith, bytes-end))
        (written-alike (file_end (length leaves)) 0 bytes before file (first-inside (own before now))
        (first-inside grow)
        (begins before now) refl)

    end-alike : (before : List ℕ) (now : first before)
        → BeginsAs new (end-written grow root root_is) (end-written (own before now) root root_is)
    end-alike before now = begins-written (file_end new) (next_slot second + 20) (statement new root)
        (digests-written (own before now)) (digests-written grow)
        (omega (arith, slot-within second, length-statement new root)) (end-in (own before now)) (end-in grow)
        (digests-alike before now)

    slot-alike : (before : List ℕ) (now : first before)
        → BeginsAs new (slot-written grow root root_is) (slot-written (own before now) root root_is)
    slot-alike before now = begins-written (file_end new) (next_slot second) (slot_front new)
        (end-written (own before now) root root_is) (end-written grow root root_is)
        (omega (arith, slot-within second, length-front new)) (slot-in (own before now)) (slot-in grow)
        (end-alike before now)

    both-alike : (before : List ℕ) (now : first before)
        → BeginsAs new (both-written grow root root_is) (both-written (own before now) root root_is)
    both-alike before now = begins-written (file_end new) (next_slot (not second)) (slot new root)
        (slot-written (own before now) root root_is) (slot-written grow root root_is)
        (omega (arith, slot-within (not second), length-slot new root)) (both-in (own before now)) (both-in grow)
        (slot-alike before now)

    -- the fronts of the slots meanwhile
    digests-front : (which : Bool) (before : List ℕ) (now : first before)
        → take 20 (drop (next_slot which) (digests-written (own before now))) ≡ stood which
    digests-front which before now = piece-before before bytes (file_end (length leaves)) (next_slot which) 20
        (omega (arith, slot-within which)) (first-inside (own before now)) ∙ before-same which before now

    end-front : (before : List ℕ) (now : first before)
        → take 20 (drop (next_slot second) (end-written (own before now) root root_is)) ≡ stood second
    end-front before now = piece-before (digests-written (own before now)) (statement new root) (next_slot second + 20)
        (next_slot second) 20 (omega arith) (end-in (own before now)) ∙ digests-front second before now

    end-other : (before : List ℕ) (now : first before)
        → take 20 (drop (next_slot (not second)) (end-written (own before now) root root_is)) ≡ stood (not second)
    end-other before now = piece-beside (digests-written (own before now)) (statement new root) (next_slot second + 20)
        (next_slot (not second)) 20 (other-beside (length (statement new root))
        (omega (arith, length-statement new root)) (slots-apart second)) (end-in (own before now))
        ∙ digests-front (not second) before now

    front-beside : (next_slot (not second) + 20 ≤ next_slot second) ⊎ (next_slot second + 32 ≤ next_slot (not second))
        → (next_slot (not second) + 20 ≤ next_slot second) ⊎ (next_slot second
        + length (slot_front (length (leaves ++ more))) ≤ next_slot (not second))
    front-beside (inl le) = inl le
    front-beside (inr ge) = inr (omega (arith, length-front new))

    slot-other : (before : List ℕ) (now : first before)
        → take 20 (drop (next_slot (not second)) (slot-written (own before now) root root_is)) ≡ stood (not second)
    slot-other before now = piece-beside (end-written (own before now) root root_is) (slot_front new) (next_slot second)
        (next_slot (not second)) 20 (front-beside (slots-apart second)) (slot-in (own before now))
        ∙ end-other before now

    far-beside : (next_slot second + 20 ≤ next_slot (not second)) ⊎ (next_slot (not second) + 32 ≤ next_slot second)
        → (next_slot second + 20 ≤ next_slot (not second)) ⊎ (next_slot (not second)
        + length (slot (length (leaves ++ more)) root) ≤ next_slot second)
    far-beside (inl le) = inl le
    far-beside (inr ge) = inr (omega (arith, length-slot new root))

    -- the digests of the log as it was, of a file that has those of the new one
    fewer-digests : (left : List ℕ) → HasDigestsOf new (end-written grow root root_is) left
        → HasDigestsOf (length leaves) file left
    fewer-digests left digests =
        let n = length leaves in
        let less : 32 * stored_count n ≤ 32 * stored_count new = omega (arith, bytes-end) in
        digests-then n file (end-written grow root root_is) left
        (digests-then n file (digests-written grow) (end-written grow root root_is)
        (digests-begins n file (digests-written grow) (piece-before file bytes (file_end n) 0 (file_end n) (omega arith)
        (first-inside grow)))
        (digests-put n (next_slot second + 20) (statement new root) (digests-written grow)
        (omega (arith, slot-within second, length-statement new root)) (end-in grow)))
        (piece-of (32 * stored_count new) 0 (32 * stored_count n) (drop 96 left)
        (drop 96 (end-written grow root root_is)) (omega (arith, less)) digests)

    late : (left : List ℕ) → IsSaid leaves more left → ((which : Bool) → Mixed-at left which)
        → HasDigestsOf new (end-written grow root root_is) left
        → HasSpare leaves left ⊎ HasSpare (leaves ++ more) left → IsLate grow root root_is left
    late left said mixed digests lost = record {
      mid = record {
        log = told leaves more file left mixed said;
        digests = fewer-digests left digests;
        lost = lost;
      };
      digests = digests;
    }

    pub end-whole : (left : List ℕ) → After (λ old new. new ≡ written (written old (file_end (length leaves)) bytes)
        (next_slot second + 20) (statement (length (leaves ++ more)) root)) first left → HasEnd left
    end-whole left (before, now, is) = record { before = before; now = now; is = is }

    pub slot-torn : (left : List ℕ) → After (Torn (next_slot second) (slot_front (length (leaves ++ more)))) HasEnd left
        → IsLate grow root root_is left
    slot-torn left (mid, end, torn) =
        let there = subst (λ f. Torn (next_slot second) (slot_front new) f left) end.is torn in
        let own = own end.before end.now in
        let whole = end-written own root root_is in
        let front = drop (next_slot second) whole in
        late left (crash-slot own root root_is left (rw (length-front new) at there.cut))
        (λ which. by_slot (Mixed-at left) second which
        (mixed-front (stood second) front (slot_front new) (slot_front new) (drop (next_slot second) left) there.mixed
        (end-front end.before end.now) (length-front new)
        (omega (arith, length-front new)) (take_all 20 (slot_front new) (omega (arith, length-front new))))
        (unmixed (stood (not second)) (slot_front new) _
        (cut-beside (next_slot (not second)) 20 (next_slot second) (length (slot_front new)) whole left
        (front-beside (slots-apart second)) there.cut ∙ end-other end.before end.now)))
        (digests-then new (end-written grow root root_is) whole left
        (digests-begins new (end-written grow root root_is) whole (end-alike end.before end.now))
        (digests-cut new (next_slot second) (length (slot_front new)) whole left
        (omega (arith, slot-within second, length-front new)) there.cut))
        (inl (spare-slot own root root_is left (rw (length-front new) at there.cut)))

    pub slot-whole : (left : List ℕ) → After (λ old new. new ≡ written old (next_slot second)
        (slot_front (length (leaves ++ more)))) HasEnd left → HasSlot left
    slot-whole left (mid, end, is) = record {
      before = end.before;
      now = end.now;
      is = is ∙ ap (λ f. written f (next_slot second) (slot_front new)) end.is;
    }

    pub both-torn : (left : List ℕ) → After (Torn (next_slot (not second)) (slot (length (leaves ++ more)) root))
        HasSlot
        left → IsLate grow root root_is left
    both-torn left (mid, has, torn) =
        let there = subst (λ f. Torn (next_slot (not second)) (slot new root) f left) has.is torn in
        let own = own has.before has.now in
        let whole = slot-written own root root_is in
        let front = drop (next_slot (not second)) whole in
        let end = end-written own root root_is in
        late left (crash-both own root root_is left (rw (length-slot new root) at there.cut))
        (λ which. by_slot (Mixed-at left) second which
        (newly (stood second) (slot_front new) _
        (cut-beside (next_slot second) 20 (next_slot (not second)) (length (slot new root)) whole left
        (far-beside (slots-far second)) there.cut
        ∙ piece-written end (slot_front new) (next_slot second) 20 (length-front new) (slot-in own)))
        (mixed-front (stood (not second)) front (slot new root) (slot_front new) (drop (next_slot (not second)) left)
        there.mixed (slot-other has.before has.now) (length-front new) (omega (arith, length-slot new root))
        (take_at (slot_front new) (statement new root) 20 (length-front new))))
        (digests-then new (end-written grow root root_is) whole left
        (digests-then new (end-written grow root root_is) end whole
        (digests-begins new (end-written grow root root_is) end (end-alike has.before has.now))
        (digests-put new (next_slot second) (slot_front new) end
        (omega (arith, slot-within second, length-front new)) (slot-in own)))
        (digests-cut new (next_slot (not second)) (length (slot new root)) whole left
        (omega (arith, slot-within (not second), length-slot new root)) there.cut))
        (inr (spare-both own root root_is left (rw (length-slot new root) at there.cut)))

    -- all was written
    pub both-whole : (left : List ℕ) → After (λ old new. new ≡ written old (next_slot (not second))
        (slot (length (leaves ++ more)) root)) HasSlot left
        → BeginsAs (length (leaves ++ more)) (both-written grow root root_is) left × IsSettled (leaves ++ more) left
    both-whole left (mid, has, is) =
        let same : left ≡ both-written (own has.before has.now) root root_is =
        is ∙ ap (λ f. written f (next_slot (not second)) (slot new root)) has.is in (
          ap (take (file_end new)) same ∙ both-alike has.before has.now,
          subst (IsSettled (leaves ++ more)) (sym same) (both-settled (own has.before has.now) root root_is),
        )

-- ---- what may be written again

-- a log whose digests are as they were
kept-same : (leaves more : List Digest) (file seen : List ℕ) (may_leave : List ℕ → Type 0)
    → IsMidAppend leaves more file seen → ((left : List ℕ) → may_leave left → IsMidAppend leaves more file left)
    → IsDurableBehind (length leaves) seen may_leave
kept-same leaves more file seen may_leave read crash left now =
    digests-then (length leaves) seen file left (sym read.digests) (crash left now).digests

-- Where the log is read as it was, it is not read with the new leaves.
pub kept-early : (leaves more : List Digest) (file seen : List ℕ) (may_leave : List ℕ → Type 0) → 0 < length more
    → IsLogFile leaves seen → IsMidAppend leaves more file seen
    → ((left : List ℕ) → may_leave left → IsMidAppend leaves more file left) → AreDurableBehind leaves more seen
    may_leave
kept-early leaves more file seen may_leave some is read crash log (inl same) there =
    rw (same) (kept-same leaves more file seen may_leave read crash)
kept-early leaves more file seen may_leave some is read crash log (inr more_is) there =
    let sizes = sizes-same seen (length leaves) (length log) is.second_is_next there.second_is_next is.head there.head
    in
    absurd (omega (arith, sizes, ap length more_is, length-append leaves more, some))

-- Where an append was not begun, nothing changed.
pub kept-still : (leaves more : List Digest) (file : List ℕ) (may_leave : List ℕ → Type 0) → 0 < length more
    → IsLogFile leaves file → IsDurable (length leaves) file may_leave → AreDurableBehind leaves more file may_leave
kept-still leaves more file may_leave some log durable =
    kept-early leaves more file file may_leave some log (mid-begins leaves more file file log refl)
    (λ left now. mid-begins leaves more file left log (durable left now))

-- Where the digests are there, it may be either.
pub kept-late : {leaves more : List Digest} {file bytes : List ℕ} {second : Bool}
    (grow : Growing leaves more file bytes second) (root : Digest)
    (root_is : merkle_tree_hash node_of (sha256 []) (leaves ++ more) ≡ Ok root) (seen : List ℕ)
    (may_leave : List ℕ → Type 0) → IsLate grow root root_is seen
    → ((left : List ℕ) → may_leave left → IsLate grow root root_is left) → AreDurableBehind leaves more seen may_leave
kept-late {leaves} {more} {file} grow root root_is seen may_leave read crash log (inl same) there =
    rw (same) (kept-same leaves more file seen may_leave read.mid (λ left now. (crash left now).mid))
kept-late {leaves} {more} {file} grow root root_is seen may_leave read crash log (inr more_is) there =
    let size = length (leaves ++ more) in
    let end = end-written grow root root_is in
    rw (more_is) (λ left now. digests-then size seen end left (sym read.digests) (crash left now).digests)

use Rattle.std.proofs.Common.{◌≡◌, ◌≤◌, ◌+◌, ◌++◌, ℕ, Bool, List, [], length, take, refl, ap, sym, subst, ◌∙◌, Result, Ok, Err, OnOk}
use Rattle.sha2.specs.Sha256.{sha256}
use Rattle.ark_paths.specs.Pair.{Digest}
use Rattle.ark_trees.specs.Rfc6962.{node_of}
use Rattle.merkle_log.specs.Log.{merkle_tree_hash}
use Rattle.merkle_log.proofs.Givens.{known_if_ok}
use Rattle.log_file.specs.LogFile.{file_end, next_slot, slot_front, written, IsLogFile}
use Rattle.log_store.specs.Disk.{LeavesMore, LeavesOnly, TornTwice}
use Rattle.log_store.specs.Store.{AreDurableBehind, BeginsAs, IsDurable, IsGrowth, IsMidAppend, IsSettled}
use Rattle.log_store.proofs.Runs.{at_end, then_on, weaker}
use Rattle.log_store.proofs.Stages.{both-torn, both-whole, end-log, end-torn, end-whole, kept-early, kept-late, slot-torn, slot-whole, HasEnd, HasSlot, IsLate}
use Rattle.log_store.proofs.Tearing.{both-settled, end-written, first-inside, growing, more-inside, more-keeps, second-inside, slot-written, third-inside, Growing}
use Rattle.log_store.proofs.growth.write_all.Goals.{After-write_behind, After-write_durably, After-write_durably-2, In_ok-root, In_ok-write_durably}
use Rattle.log_store.proofs.growth.write_all.Goals as goal

-- what is known of a call
record Given (leaves more : List Digest) (file bytes : List ℕ) (second : Bool) (place size : ℕ) : Type 0 where
  growth : IsGrowth leaves more file bytes second
  place_is : place ≡ file_end (length leaves)
  size_is : size ≡ length (leaves ++ more)

abbrev Behind : (g : _) → After-write_behind g → List Digest → List Digest → Type 0
Behind g c leaves more =
    Given leaves more (g.D.Disk.seen c.args.disk.now) c.args.bytes.now c.args.is_second_free c.args.place c.args.size

abbrev Rooted : (g : _) → In_ok-root g → List Digest → List Digest → Type 0
Rooted g c leaves more =
    Given leaves more (g.D.Disk.seen c.args.disk.now) c.args.bytes.now c.args.is_second_free c.args.place c.args.size

abbrev Fronted : (g : _) → After-write_durably g → List Digest → List Digest → Type 0
Fronted g c leaves more =
    Given leaves more (g.D.Disk.seen c.args.disk.now) c.args.bytes.now c.args.is_second_free c.args.place c.args.size

abbrev Slotted : (g : _) → In_ok-write_durably g → List Digest → List Digest → Type 0
Slotted g c leaves more =
    Given leaves more (g.D.Disk.seen c.args.disk.now) c.args.bytes.now c.args.is_second_free c.args.place c.args.size

abbrev Doubled : (g : _) → After-write_durably-2 g → List Digest → List Digest → Type 0
Doubled g c leaves more =
    Given leaves more (g.D.Disk.seen c.args.disk.now) c.args.bytes.now c.args.is_second_free c.args.place c.args.size

abbrev grown : {leaves more : List Digest} {file bytes : List ℕ} {second : Bool} {place size : ℕ}
    → Given leaves more file bytes second place size → Growing leaves more file bytes second
grown given = growing given.growth

-- the file as it was read
abbrev Read : List ℕ → List ℕ → Type 0
Read file left = left ≡ file

alike : (size : ℕ) (file left : List ℕ) → Read file left → BeginsAs size file left
alike size file left is = ap (take (file_end size)) is

-- ---- the digests and a slot's end

inside : {leaves more : List Digest} {file bytes : List ℕ} {second : Bool} {place size : ℕ}
    → Given leaves more file bytes second place size → place ≤ length file
inside given = rw (given.place_is) (first-inside (grown given))

module _ (g : _) (c : After-write_behind g) {leaves more : List Digest} (given : Behind g c leaves more)
    (obeys : g.D.Disk.Obeys c.write_behind.new.disk) where
  abbrev seen-end : List ℕ
  seen-end = g.D.Disk.seen c.write_behind.new.disk

  torn-end : TornTwice (file_end (length leaves)) c.args.bytes.now (next_slot c.args.is_second_free + 20) 12
      (g.D.Disk.seen c.args.disk.now) seen-end
  torn-end = rw (given.place_is, c.next_slot-free.ensures) at
      (c.write_behind.ensures.torn obeys (inside given))

  read-end : IsMidAppend leaves more (g.D.Disk.seen c.args.disk.now) seen-end
  read-end = end-torn (grown given) (Read (g.D.Disk.seen c.args.disk.now))
      (alike (length leaves) (g.D.Disk.seen c.args.disk.now)) seen-end
      (g.D.Disk.seen c.args.disk.now, refl, torn-end)

  log-end : IsLogFile leaves seen-end
  log-end = end-log (grown given) (Read (g.D.Disk.seen c.args.disk.now))
      (alike (length leaves) (g.D.Disk.seen c.args.disk.now)) seen-end
      (g.D.Disk.seen c.args.disk.now, refl, torn-end)

  module _ (durable : IsDurable (length leaves) (g.D.Disk.seen c.args.disk.now) (g.D.Disk.may_leave c.args.disk.now))
    where
      run-end : LeavesOnly g.D.Disk.moment g.D.Disk.left_since c.args.disk.now c.write_behind.new.disk
          (IsMidAppend leaves more (g.D.Disk.seen c.args.disk.now))
      run-end = weaker g.D.Disk c.args.disk.now c.write_behind.new.disk
          (IsMidAppend leaves more (g.D.Disk.seen c.args.disk.now)) _
          (c.write_behind.ensures.any_moment obeys (inside given))
          (λ left torn. end-torn (grown given) (g.D.Disk.may_leave c.args.disk.now) durable left
          (rw (given.place_is, c.next_slot-free.ensures) at torn))

-- ---- with the root

module _ (g : _) (c : In_ok-root g) {leaves more : List Digest} (given : Rooted g c leaves more)
    (obeys : g.D.Disk.Obeys c.write_behind.new.disk) where
  root-is : merkle_tree_hash node_of (sha256 []) (leaves ++ more) ≡ Ok c.in_ok-root.root
  root-is = c.in_ok-root.ensures.root obeys (inside given) (leaves ++ more) (sym given.size_is)
      (rw (given.place_is, given.size_is) (more-inside (grown given)))
      (rw (given.place_is) (more-keeps (grown given)))

  end-is : g.D.Disk.seen c.write_behind.new.disk ≡ end-written (grown given) c.in_ok-root.root root-is
  end-is = rw (given.place_is, c.next_slot-free.ensures, given.size_is) at
      (c.in_ok-root.ensures.written obeys (inside given))

  -- what a crash leaves then, and what is read
  abbrev EndOf : (first : List ℕ → Type 0) → ((left : List ℕ) → first left
      → BeginsAs (length leaves) (g.D.Disk.seen c.args.disk.now) left) → List ℕ → Type 0
  EndOf first begins = HasEnd (grown given) first begins c.in_ok-root.root root-is

  end-left : (durable : IsDurable (length leaves) (g.D.Disk.seen c.args.disk.now)
      (g.D.Disk.may_leave c.args.disk.now)) (left : List ℕ) → g.D.Disk.may_leave c.write_behind.new.disk left
      → EndOf (g.D.Disk.may_leave c.args.disk.now) durable left
  end-left durable left now = end-whole (grown given) (g.D.Disk.may_leave c.args.disk.now) durable c.in_ok-root.root
      root-is left (rw (given.place_is, c.next_slot-free.ensures, given.size_is) at
      (c.in_ok-root.ensures.durable obeys (inside given) left now))

-- ---- the front of the slot

module _ (g : _) (c : After-write_durably g) {leaves more : List Digest} (given : Fronted g c leaves more)
    (obeys : g.D.Disk.Obeys c.write_durably.new.disk) (root-is : merkle_tree_hash node_of (sha256 []) (leaves ++ more)
    ≡ Ok c.in_ok-root.root)
    (end-is : g.D.Disk.seen c.write_behind.new.disk ≡ end-written (grown given) c.in_ok-root.root root-is) where
  within : c.next_slot-free.result ≤ length (g.D.Disk.seen c.write_behind.new.disk)
  within = rw (end-is, c.next_slot-free.ensures) (second-inside (grown given) c.in_ok-root.root root-is)

  slot-read : IsLate (grown given) c.in_ok-root.root root-is (g.D.Disk.seen c.write_durably.new.disk)
  slot-read = slot-torn (grown given) (Read (g.D.Disk.seen c.args.disk.now))
      (alike (length leaves) (g.D.Disk.seen c.args.disk.now))
      c.in_ok-root.root root-is (g.D.Disk.seen c.write_durably.new.disk) (
        g.D.Disk.seen c.write_behind.new.disk,
        record { before = g.D.Disk.seen c.args.disk.now; now = refl; is = end-is },
        rw (c.next_slot-free.ensures, c.front_of.ensures, given.size_is) at (c.write_durably.ensures.torn obeys within),
      )

  module _ (durable : IsDurable (length leaves) (g.D.Disk.seen c.args.disk.now) (g.D.Disk.may_leave c.args.disk.now))
      (ended : (left : List ℕ) → g.D.Disk.may_leave c.write_behind.new.disk left
      → HasEnd (grown given) (g.D.Disk.may_leave c.args.disk.now) durable c.in_ok-root.root root-is left) where
    run-front : LeavesOnly g.D.Disk.moment g.D.Disk.left_since c.write_behind.new.disk c.write_durably.new.disk
        (IsLate (grown given) c.in_ok-root.root root-is)
    run-front = weaker g.D.Disk c.write_behind.new.disk c.write_durably.new.disk
        (IsLate (grown given) c.in_ok-root.root root-is) _ (c.write_durably.ensures.any_moment obeys within)
        (λ left torn. slot-torn (grown given) (g.D.Disk.may_leave c.args.disk.now) durable c.in_ok-root.root root-is
        left (
          torn.0,
          ended torn.0 torn.1,
          rw (c.next_slot-free.ensures, c.front_of.ensures, given.size_is) at torn.2,
        ))

    slot-late : (left : List ℕ) → g.D.Disk.may_leave c.write_durably.new.disk left
        → IsLate (grown given) c.in_ok-root.root root-is left
    slot-late = at_end g.D.Disk c.write_behind.new.disk c.write_durably.new.disk
        (IsLate (grown given) c.in_ok-root.root root-is) run-front
        (g.met.D.Disk.counts_now c.write_durably.new.disk)

    run-slot : LeavesOnly g.D.Disk.moment g.D.Disk.left_since c.args.disk.now c.write_behind.new.disk
        (IsMidAppend leaves more (g.D.Disk.seen c.args.disk.now))
        → LeavesOnly g.D.Disk.moment g.D.Disk.left_since c.args.disk.now c.write_durably.new.disk
        (IsMidAppend leaves more (g.D.Disk.seen c.args.disk.now))
    run-slot so_far = then_on g.D.Disk c.args.disk.now c.write_behind.new.disk c.write_durably.new.disk
        (IsMidAppend leaves more (g.D.Disk.seen c.args.disk.now)) _ so_far run-front (λ left late. late.mid)

-- ---- the other slot

module _ (g : _) (c : In_ok-write_durably g) {leaves more : List Digest} (given : Slotted g c leaves more)
    (obeys : g.D.Disk.Obeys c.write_durably.new.disk) (root-is : merkle_tree_hash node_of (sha256 []) (leaves ++ more)
    ≡ Ok c.in_ok-root.root)
    (end-is : g.D.Disk.seen c.write_behind.new.disk ≡ end-written (grown given) c.in_ok-root.root root-is) where
  in-end : c.next_slot-free.result ≤ length (g.D.Disk.seen c.write_behind.new.disk)
  in-end = rw (end-is, c.next_slot-free.ensures) (second-inside (grown given) c.in_ok-root.root root-is)

  slot-is : g.D.Disk.seen c.write_durably.new.disk ≡ slot-written (grown given) c.in_ok-root.root root-is
  slot-is = rw (end-is, c.next_slot-free.ensures, c.front_of.ensures, given.size_is) at
      (c.in_ok-write_durably.ensures.written obeys in-end)

  slot-left : (durable : IsDurable (length leaves) (g.D.Disk.seen c.args.disk.now)
      (g.D.Disk.may_leave c.args.disk.now)) → ((left : List ℕ) → g.D.Disk.may_leave c.write_behind.new.disk left
      → HasEnd (grown given) (g.D.Disk.may_leave c.args.disk.now) durable c.in_ok-root.root root-is left)
      → (left : List ℕ) → g.D.Disk.may_leave c.write_durably.new.disk left
      → HasSlot (grown given) (g.D.Disk.may_leave c.args.disk.now) durable c.in_ok-root.root root-is left
  slot-left durable ended left now =
      let from = c.in_ok-write_durably.ensures.durable obeys in-end left now in
      slot-whole (grown given) (g.D.Disk.may_leave c.args.disk.now) durable c.in_ok-root.root root-is left (
        from.0,
        ended from.0 from.1,
        from.2 ∙ ap (λ p. written from.0 p c.front_of.result) c.next_slot-free.ensures
            ∙ ap (λ f. written from.0 (next_slot c.args.is_second_free) f)
            (c.front_of.ensures ∙ ap slot_front given.size_is),
      )

abbrev of_parts : {leaves more : List Digest} {file bytes : List ℕ} {second : Bool} {place size : ℕ}
    → IsGrowth leaves more file bytes second → place ≡ file_end (length leaves) → size ≡ length (leaves ++ more)
    → Given leaves more file bytes second place size
of_parts growth place_is size_is = record { growth = growth; place_is = place_is; size_is = size_is }

-- ---- where the digests were refused

pub returns-in_err-root-clause-any_moment : goal.returns-in_err-root-clause-any_moment
returns-in_err-root-clause-any_moment g c = λ obeys leaves more growth place_is size_is durable.
    run-end g (goal.at.returns-in_err-root-clause-any_moment g c).After-write_behind (of_parts growth place_is size_is)
    obeys durable

pub returns-in_err-root-clause-left : goal.returns-in_err-root-clause-left
returns-in_err-root-clause-left g c = λ obeys leaves more growth place_is size_is.
    read-end g (goal.at.returns-in_err-root-clause-left g c).After-write_behind (of_parts growth place_is size_is) obeys

pub returns-in_err-root-clause-kept : goal.returns-in_err-root-clause-kept
returns-in_err-root-clause-kept g c = λ obeys leaves more growth place_is size_is durable.
    let at = (goal.at.returns-in_err-root-clause-kept g c).After-write_behind in
    let given = of_parts growth place_is size_is in
    let file = g.D.Disk.seen c.args.disk.now in
    kept-early leaves more file (g.D.Disk.seen c.write_behind.new.disk) (g.D.Disk.may_leave c.write_behind.new.disk)
    growth.some (log-end g at given obeys) (read-end g at given obeys)
    (at_end g.D.Disk c.args.disk.now c.write_behind.new.disk (IsMidAppend leaves more file)
    (run-end g at given obeys durable) (g.met.D.Disk.counts_now c.write_behind.new.disk))

-- ---- where the slot's front was refused

pub returns-in_err-write_durably-clause-any_moment : goal.returns-in_err-write_durably-clause-any_moment
returns-in_err-write_durably-clause-any_moment g c = λ obeys leaves more growth place_is size_is durable.
    let at = goal.at.returns-in_err-write_durably-clause-any_moment g c in
    let given = of_parts growth place_is size_is in
    let early = c.write_durably.ensures.obeys obeys in
    let root = root-is g at.In_ok-root given early in
    run-slot g at.After-write_durably given obeys root (end-is g at.In_ok-root given early) durable
    (end-left g at.In_ok-root given early durable) (run-end g at.After-write_behind given early durable)

pub returns-in_err-write_durably-clause-left : goal.returns-in_err-write_durably-clause-left
returns-in_err-write_durably-clause-left g c = λ obeys leaves more growth place_is size_is.
    let at = goal.at.returns-in_err-write_durably-clause-left g c in
    let given = of_parts growth place_is size_is in
    let early = c.write_durably.ensures.obeys obeys in
    (slot-read g at.After-write_durably given obeys (root-is g at.In_ok-root given early)
    (end-is g at.In_ok-root given early)).mid

pub returns-in_err-write_durably-clause-kept : goal.returns-in_err-write_durably-clause-kept
returns-in_err-write_durably-clause-kept g c = λ obeys leaves more growth place_is size_is durable.
    let at = goal.at.returns-in_err-write_durably-clause-kept g c in
    let given = of_parts growth place_is size_is in
    let early = c.write_durably.ensures.obeys obeys in
    let root = root-is g at.In_ok-root given early in
    let end = end-is g at.In_ok-root given early in
    kept-late (grown given) c.in_ok-root.root root (g.D.Disk.seen c.write_durably.new.disk)
    (g.D.Disk.may_leave c.write_durably.new.disk) (slot-read g at.After-write_durably given obeys root end)
    (slot-late g at.After-write_durably given obeys root end durable (end-left g at.In_ok-root given early durable))

-- ---- at the end

both_ok : {V R : Type 0} (P Q : Type 0) (result : Result V R) → OnOk result P → OnOk result Q → OnOk result (P × Q)
both_ok P Q (Ok v) p q = (p, q)
both_ok P Q (Err e) p q = tt

-- what is known once the digests and one slot are written
record Known-slot (g : _) (c : After-write_durably-2 g) {leaves more : List Digest} (given : Doubled g c leaves more)
    : Type 0 where
  root-is : merkle_tree_hash node_of (sha256 []) (leaves ++ more) ≡ Ok c.in_ok-root.root
  is : g.D.Disk.seen c.write_durably.new.disk ≡ slot-written (grown given) c.in_ok-root.root root-is
  left : (durable : IsDurable (length leaves) (g.D.Disk.seen c.args.disk.now) (g.D.Disk.may_leave c.args.disk.now))
      → (left : List ℕ) → g.D.Disk.may_leave c.write_durably.new.disk left
      → HasSlot (grown given) (g.D.Disk.may_leave c.args.disk.now) durable c.in_ok-root.root root-is left
  run : (durable : IsDurable (length leaves) (g.D.Disk.seen c.args.disk.now) (g.D.Disk.may_leave c.args.disk.now))
      → LeavesOnly g.D.Disk.moment g.D.Disk.left_since c.args.disk.now c.write_durably.new.disk
      (IsMidAppend leaves more (g.D.Disk.seen c.args.disk.now))

module _ (g : _) (c : After-write_durably-2 g) {leaves more : List Digest} (given : Doubled g c leaves more)
    (slot : Known-slot g c given) (obeys : g.D.Disk.Obeys c.write_durably-2.new.disk) where
  abbrev root : Digest
  root = c.in_ok-root.root

  in-slot : c.next_slot.result ≤ length (g.D.Disk.seen c.write_durably.new.disk)
  in-slot = rw (slot.is, c.next_slot.ensures) (third-inside (grown given) root slot.root-is)

  both-read : IsLate (grown given) root slot.root-is (g.D.Disk.seen c.write_durably-2.new.disk)
  both-read = both-torn (grown given) (Read (g.D.Disk.seen c.args.disk.now))
      (alike (length leaves) (g.D.Disk.seen c.args.disk.now)) root
      slot.root-is (g.D.Disk.seen c.write_durably-2.new.disk) (
        g.D.Disk.seen c.write_durably.new.disk,
        record { before = g.D.Disk.seen c.args.disk.now; now = refl; is = slot.is },
        rw (c.next_slot.ensures, c.slot_of.ensures, given.size_is) at (c.write_durably-2.ensures.torn obeys in-slot),
      )

  module _ (durable : IsDurable (length leaves) (g.D.Disk.seen c.args.disk.now) (g.D.Disk.may_leave c.args.disk.now))
    where
      run-both : LeavesOnly g.D.Disk.moment g.D.Disk.left_since c.write_durably.new.disk c.write_durably-2.new.disk
          (IsLate (grown given) root slot.root-is)
      run-both = weaker g.D.Disk c.write_durably.new.disk c.write_durably-2.new.disk
          (IsLate (grown given) root slot.root-is)
          _ (c.write_durably-2.ensures.any_moment obeys in-slot)
          (λ left torn. both-torn (grown given) (g.D.Disk.may_leave c.args.disk.now) durable root slot.root-is left (
            torn.0,
            slot.left durable torn.0 torn.1,
            rw (c.next_slot.ensures, c.slot_of.ensures, given.size_is) at torn.2,
          ))

      both-run : LeavesOnly g.D.Disk.moment g.D.Disk.left_since c.args.disk.now c.write_durably-2.new.disk
          (IsMidAppend leaves more (g.D.Disk.seen c.args.disk.now))
      both-run = then_on g.D.Disk c.args.disk.now c.write_durably.new.disk c.write_durably-2.new.disk
          (IsMidAppend leaves more (g.D.Disk.seen c.args.disk.now)) _ (slot.run durable) run-both
          (λ left late. late.mid)

      both-kept : AreDurableBehind leaves more (g.D.Disk.seen c.write_durably-2.new.disk)
          (g.D.Disk.may_leave c.write_durably-2.new.disk)
      both-kept = kept-late (grown given) root slot.root-is (g.D.Disk.seen c.write_durably-2.new.disk)
          (g.D.Disk.may_leave c.write_durably-2.new.disk) both-read
          (at_end g.D.Disk c.write_durably.new.disk c.write_durably-2.new.disk (IsLate (grown given) root slot.root-is)
          run-both (g.met.D.Disk.counts_now c.write_durably-2.new.disk))

pub returns-clause-left : goal.returns-clause-left
returns-clause-left g c = λ obeys leaves more growth place_is size_is.
    let at = goal.at.returns-clause-left g c in
    let given = of_parts growth place_is size_is in
    let early = c.write_durably-2.ensures.obeys obeys in
    let first = c.write_durably.ensures.obeys early in
    let root = root-is g at.In_ok-root given first in
    let end = end-is g at.In_ok-root given first in
    let ended = end-left g at.In_ok-root given first in
    let slot : Known-slot g at.After-write_durably-2 given = record {
      root-is = root;
      is = slot-is g at.In_ok-write_durably given early root end;
      left = λ durable. slot-left g at.In_ok-write_durably given early root end durable (ended durable);
      run = λ durable. run-slot g at.After-write_durably given early root end durable (ended durable)
          (run-end g at.After-write_behind given first durable);
    } in
    (both-read g at.After-write_durably-2 given slot obeys).mid

pub returns-clause-any_moment : goal.returns-clause-any_moment
returns-clause-any_moment g c = λ obeys leaves more growth place_is size_is durable.
    let at = goal.at.returns-clause-any_moment g c in
    let given = of_parts growth place_is size_is in
    let early = c.write_durably-2.ensures.obeys obeys in
    let first = c.write_durably.ensures.obeys early in
    let root = root-is g at.In_ok-root given first in
    let end = end-is g at.In_ok-root given first in
    let ended = end-left g at.In_ok-root given first in
    let slot : Known-slot g at.After-write_durably-2 given = record {
      root-is = root;
      is = slot-is g at.In_ok-write_durably given early root end;
      left = λ durable. slot-left g at.In_ok-write_durably given early root end durable (ended durable);
      run = λ durable. run-slot g at.After-write_durably given early root end durable (ended durable)
          (run-end g at.After-write_behind given first durable);
    } in
    both-run g at.After-write_durably-2 given slot obeys durable

pub returns-clause-kept : goal.returns-clause-kept
returns-clause-kept g c = λ obeys leaves more growth place_is size_is durable.
    let at = goal.at.returns-clause-kept g c in
    let given = of_parts growth place_is size_is in
    let early = c.write_durably-2.ensures.obeys obeys in
    let first = c.write_durably.ensures.obeys early in
    let root = root-is g at.In_ok-root given first in
    let end = end-is g at.In_ok-root given first in
    let ended = end-left g at.In_ok-root given first in
    let slot : Known-slot g at.After-write_durably-2 given = record {
      root-is = root;
      is = slot-is g at.In_ok-write_durably given early root end;
      left = λ durable. slot-left g at.In_ok-write_durably given early root end durable (ended durable);
      run = λ durable. run-slot g at.After-write_durably given early root end durable (ended durable)
          (run-end g at.After-write_behind given first durable);
    } in
    both-kept g at.After-write_durably-2 given slot obeys durable

pub returns-clause-acknowledged : goal.returns-clause-acknowledged
returns-clause-acknowledged g c = λ obeys leaves more growth place_is size_is.
    let at = goal.at.returns-clause-acknowledged g c in
    let given = of_parts growth place_is size_is in
    let early = c.write_durably-2.ensures.obeys obeys in
    let first = c.write_durably.ensures.obeys early in
    let root = root-is g at.In_ok-root given first in
    let end = end-is g at.In_ok-root given first in
    let ended = end-left g at.In_ok-root given first in
    let slot : Known-slot g at.After-write_durably-2 given = record {
      root-is = root;
      is = slot-is g at.In_ok-write_durably given early root end;
      left = λ durable. slot-left g at.In_ok-write_durably given early root end durable (ended durable);
      run = λ durable. run-slot g at.After-write_durably given early root end durable (ended durable)
          (run-end g at.After-write_behind given first durable);
    } in
    let within = in-slot g at.After-write_durably-2 given slot obeys in
    known_if_ok c.write_durably-2.result (λ (last : g.D.Disk.seen c.write_durably-2.new.disk ≡ written
    (g.D.Disk.seen c.write_durably.new.disk) c.next_slot.result c.slot_of.result).
    subst (IsSettled (leaves ++ more)) (sym (rw (slot.is, c.next_slot.ensures, c.slot_of.ensures, size_is) at last))
    (both-settled (grown given) c.in_ok-root.root root)) (c.write_durably-2.ensures.written obeys within)

pub returns-clause-durable : goal.returns-clause-durable
returns-clause-durable g c = λ obeys leaves more growth place_is size_is durable.
    let at = goal.at.returns-clause-durable g c in
    let given = of_parts growth place_is size_is in
    let early = c.write_durably-2.ensures.obeys obeys in
    let first = c.write_durably.ensures.obeys early in
    let root = root-is g at.In_ok-root given first in
    let end = end-is g at.In_ok-root given first in
    let ended = end-left g at.In_ok-root given first in
    let slot : Known-slot g at.After-write_durably-2 given = record {
      root-is = root;
      is = slot-is g at.In_ok-write_durably given early root end;
      left = λ durable. slot-left g at.In_ok-write_durably given early root end durable (ended durable);
      run = λ durable. run-slot g at.After-write_durably given early root end durable (ended durable)
          (run-end g at.After-write_behind given first durable);
    } in
    let within = in-slot g at.After-write_durably-2 given slot obeys in
    known_if_ok c.write_durably-2.result (λ (wrote : (g.D.Disk.seen c.write_durably-2.new.disk
    ≡ written (g.D.Disk.seen c.write_durably.new.disk) c.next_slot.result c.slot_of.result)
    × LeavesMore (λ before left. left ≡ written before c.next_slot.result c.slot_of.result)
    (g.D.Disk.may_leave c.write_durably.new.disk) (g.D.Disk.may_leave c.write_durably-2.new.disk)). λ left now.
    let from = wrote.1 left now in
    let whole = both-whole (grown given) (g.D.Disk.may_leave c.args.disk.now) durable c.in_ok-root.root root left (
      from.0,
      slot.left durable from.0 from.1,
      rw (c.next_slot.ensures, c.slot_of.ensures, size_is) at from.2,
    ) in
    let read = rw (slot.is, c.next_slot.ensures, c.slot_of.ensures, size_is) at wrote.0 in
    (subst (λ f. BeginsAs (length (leaves ++ more)) f left) (sym read) whole.0, whole.1))
    (both_ok _ _ c.write_durably-2.result (c.write_durably-2.ensures.written obeys within)
    (c.write_durably-2.ensures.durable obeys within))

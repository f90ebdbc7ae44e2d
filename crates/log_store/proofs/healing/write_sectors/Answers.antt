use Rattle.std.proofs.Common.{◌≡◌, ◌≤◌, ℕ, Bool, true, false, List, length, ap, ◌∙◌, subst, arith}
use Rattle.ark_paths.specs.Pair.{Digest}
use Rattle.merkle_log.proofs.Givens.{known_if_ok}
use Rattle.log_file.specs.LogFile.{written}
use Rattle.log_store.specs.Disk.{LeavesOnly, Torn}
use Rattle.log_store.specs.Healing.{IsReadAs, KeepsIn}
use Rattle.log_store.proofs.Healed.{first-torn, first-whole, second-torn, second-whole, title-written}
use Rattle.log_store.proofs.Runs.{then_on, weaker}
use Rattle.log_store.proofs.Surviving.{kept-long, reads-kept}
use Rattle.log_store.proofs.Tearing.{longer-written}
use Rattle.log_store.proofs.healing.write_sectors.Goals.{In_ok-write_durably}
use Rattle.log_store.proofs.healing.write_sectors.Goals as goal

-- The slot is in the first sector, or in the second one.
in-case : {own : Bool} (slot : List ℕ) (which : Bool) (leaves : List Digest) (file : List ℕ) → which ≡ own
    → KeepsIn slot which leaves file → KeepsIn slot own leaves file
in-case slot which leaves file is kept = subst (λ b. KeepsIn slot b leaves file) is kept

-- ---- the second sector alone

pub returns-then-is_in_first-clause-settled : goal.returns-then-is_in_first-clause-settled
returns-then-is_in_first-clause-settled g c = λ obeys leaves kept.
    let old = g.D.Disk.seen c.args.disk.now in
    let new = g.D.Disk.seen c.write_durably.new.disk in
    let own = in-case c.args.slot.now c.args.is_in_first leaves old c.if-is_in_first.true kept in
    known_if_ok c.write_durably.result (λ (is : new ≡ written old 4096 c.sector_of-sector.result).
    second-whole c.args.slot.now leaves old new own (is ∙ ap (written old 4096) c.sector_of-sector.ensures))
    (c.write_durably.ensures.written obeys (omega (arith, kept-long own)))

pub returns-then-is_in_first-clause-title : goal.returns-then-is_in_first-clause-title
returns-then-is_in_first-clause-title g c = λ obeys long.
    let old = g.D.Disk.seen c.args.disk.now in
    let new = g.D.Disk.seen c.write_durably.new.disk in
    known_if_ok c.write_durably.result (λ (is : new ≡ written old 4096 c.sector_of-sector.result).
    title-written c.args.slot.now old new (omega (arith, long)) (is ∙ ap (written old 4096) c.sector_of-sector.ensures))
    (c.write_durably.ensures.written obeys (omega (arith, long)))

pub returns-then-is_in_first-clause-any_moment : goal.returns-then-is_in_first-clause-any_moment
returns-then-is_in_first-clause-any_moment g c = λ obeys leaves kept each.
    let slot = c.args.slot.now in
    let old = g.D.Disk.seen c.args.disk.now in
    let own = in-case slot c.args.is_in_first leaves old c.if-is_in_first.true kept in
    weaker g.D.Disk c.args.disk.now c.write_durably.new.disk (IsReadAs leaves) _
    (c.write_durably.ensures.any_moment obeys (omega (arith, kept-long own)))
    (λ left torn. reads-kept slot true leaves left (second-torn slot leaves torn.0 left
    (in-case slot c.args.is_in_first leaves torn.0 c.if-is_in_first.true (each torn.0 torn.1))
    (subst (λ s. Torn 4096 s torn.0 left) c.sector_of-sector.ensures torn.2)))

-- ---- the first sector

pub returns-in_err-write_durably-clause-any_moment : goal.returns-in_err-write_durably-clause-any_moment
returns-in_err-write_durably-clause-any_moment g c = λ obeys leaves kept each.
    let slot = c.args.slot.now in
    weaker g.D.Disk c.args.disk.now c.write_durably-2.new.disk (IsReadAs leaves) _
    (c.write_durably-2.ensures.any_moment obeys (omega arith))
    (λ left torn. reads-kept slot false leaves left (first-torn slot leaves torn.0 left
    (in-case slot c.args.is_in_first leaves torn.0 c.if-is_in_first.false (each torn.0 torn.1))
    (subst (λ s. Torn 0 s torn.0 left) c.sector_of-sector.ensures torn.2)))

-- ---- and then the second one

module _ (g : _) (c : In_ok-write_durably g) (obeys : g.D.Disk.Obeys c.write_durably-2.new.disk) where
  mid-is : g.D.Disk.seen c.write_durably-2.new.disk
      ≡ written (g.D.Disk.seen c.args.disk.now) 0 c.sector_of-sector.result
  mid-is = c.in_ok-write_durably.ensures.written obeys (omega arith)

  mid-long : length (g.D.Disk.seen c.args.disk.now) ≤ length (g.D.Disk.seen c.write_durably-2.new.disk)
  mid-long = omega (
    arith,
    ap length mid-is,
    longer-written (g.D.Disk.seen c.args.disk.now) c.sector_of-sector.result 0 (omega arith),
  )

  mid-kept : (leaves : List Digest) → KeepsIn c.args.slot.now c.args.is_in_first leaves (g.D.Disk.seen c.args.disk.now)
      → KeepsIn c.args.slot.now true leaves (g.D.Disk.seen c.write_durably-2.new.disk)
  mid-kept leaves kept = first-whole c.args.slot.now leaves (g.D.Disk.seen c.args.disk.now)
      (g.D.Disk.seen c.write_durably-2.new.disk)
      (in-case c.args.slot.now c.args.is_in_first leaves (g.D.Disk.seen c.args.disk.now) c.if-is_in_first.false kept)
      (mid-is ∙ ap (written (g.D.Disk.seen c.args.disk.now) 0) c.sector_of-sector.ensures)

  mid-left : (leaves : List Digest) → ((left : List ℕ) → g.D.Disk.may_leave c.args.disk.now left
      → KeepsIn c.args.slot.now c.args.is_in_first leaves left) → (left : List ℕ)
      → g.D.Disk.may_leave c.write_durably-2.new.disk left → KeepsIn c.args.slot.now true leaves left
  mid-left leaves each left now =
      let from = c.in_ok-write_durably.ensures.durable obeys (omega arith) left now in
      first-whole c.args.slot.now leaves from.0 left
      (in-case c.args.slot.now c.args.is_in_first leaves from.0 c.if-is_in_first.false (each from.0 from.1))
      (from.2 ∙ ap (written from.0 0) c.sector_of-sector.ensures)

  mid-run : (leaves : List Digest) → ((left : List ℕ) → g.D.Disk.may_leave c.args.disk.now left
      → KeepsIn c.args.slot.now c.args.is_in_first leaves left)
      → LeavesOnly g.D.Disk.moment g.D.Disk.left_since c.args.disk.now c.write_durably-2.new.disk (IsReadAs leaves)
  mid-run leaves each = weaker g.D.Disk c.args.disk.now c.write_durably-2.new.disk (IsReadAs leaves) _
      (c.write_durably-2.ensures.any_moment obeys (omega arith))
      (λ left torn. reads-kept c.args.slot.now false leaves left (first-torn c.args.slot.now leaves torn.0 left
      (in-case c.args.slot.now c.args.is_in_first leaves torn.0 c.if-is_in_first.false (each torn.0 torn.1))
      (subst (λ s. Torn 0 s torn.0 left) c.sector_of-sector.ensures torn.2)))

pub returns-clause-settled : goal.returns-clause-settled
returns-clause-settled g c = λ obeys leaves kept.
    let at = (goal.at.returns-clause-settled g c).In_ok-write_durably in
    let early = c.write_durably-3.ensures.obeys obeys in
    let mid = g.D.Disk.seen c.write_durably-2.new.disk in
    let new = g.D.Disk.seen c.write_durably-3.new.disk in
    let own = mid-kept g at early leaves kept in
    known_if_ok c.write_durably-3.result (λ (is : new ≡ written mid 4096 c.sector_of-sector.result).
    second-whole c.args.slot.now leaves mid new own (is ∙ ap (written mid 4096) c.sector_of-sector.ensures))
    (c.write_durably-3.ensures.written obeys (omega (arith, kept-long own)))

pub returns-clause-title : goal.returns-clause-title
returns-clause-title g c = λ obeys long.
    let at = (goal.at.returns-clause-title g c).In_ok-write_durably in
    let early = c.write_durably-3.ensures.obeys obeys in
    let mid = g.D.Disk.seen c.write_durably-2.new.disk in
    let new = g.D.Disk.seen c.write_durably-3.new.disk in
    let inside : 4096 ≤ length mid = omega (arith, long, mid-long g at early) in
    known_if_ok c.write_durably-3.result (λ (is : new ≡ written mid 4096 c.sector_of-sector.result).
    title-written c.args.slot.now mid new inside (is ∙ ap (written mid 4096) c.sector_of-sector.ensures))
    (c.write_durably-3.ensures.written obeys inside)

pub returns-clause-any_moment : goal.returns-clause-any_moment
returns-clause-any_moment g c = λ obeys leaves kept each.
    let at = (goal.at.returns-clause-any_moment g c).In_ok-write_durably in
    let early = c.write_durably-3.ensures.obeys obeys in
    let slot = c.args.slot.now in
    then_on g.D.Disk c.args.disk.now c.write_durably-2.new.disk c.write_durably-3.new.disk (IsReadAs leaves) _
    (mid-run g at early leaves each)
    (c.write_durably-3.ensures.any_moment obeys (omega (arith, kept-long (mid-kept g at early leaves kept))))
    (λ left torn. reads-kept slot true leaves left (second-torn slot leaves torn.0 left
    (mid-left g at early leaves each torn.0 torn.1)
    (subst (λ s. Torn 4096 s torn.0 left) c.sector_of-sector.ensures torn.2)))

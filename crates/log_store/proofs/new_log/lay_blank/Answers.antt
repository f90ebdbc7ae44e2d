use Rattle.std.proofs.Common.{◌≡◌, ℕ, List, [], sym, ap, ◌∙◌, subst, arith}
use Rattle.merkle_log.proofs.Givens.{known_if_ok}
use Rattle.log_file.specs.LogFile.{written}
use Rattle.log_store.specs.Disk.{LeavesMore, Torn}
use Rattle.log_store.specs.Sectors.{blank_sectors, laid}
use Rattle.log_store.specs.Store.{IsNewFile, IsPartOf}
use Rattle.log_store.specs.declared.sectors.Layout.TheVariants.{Apart}
use Rattle.log_store.proofs.Runs.{weaker}
use Rattle.log_store.proofs.Sectoring.{blanks-new, part-none, part-over, part-torn}
use Rattle.log_store.proofs.new_log.lay_blank.Goals as goal

-- what is written over nothing
over : (old : List ℕ) (bytes : List ℕ) → old ≡ [] → bytes ≡ blank_sectors → written old 0 bytes ≡ blank_sectors
over old bytes none is = ap (written old 0) is ∙ part-over blank_sectors old (part-none blank_sectors old none)

pub returns-clause-made : goal.returns-clause-made
returns-clause-made g c = λ obeys none. known_if_ok c.write_durably.result
    (λ is. is ∙ over (g.D.Disk.seen c.args.disk.now) c.blank_sectors.result none c.blank_sectors.ensures)
    (c.write_durably.ensures.written obeys (omega arith))

pub returns-clause-blank : goal.returns-clause-blank
returns-clause-blank g c = λ obeys none. known_if_ok c.write_durably.result
    (λ is. subst (λ f. IsNewFile (laid Apart f))
    (sym (is ∙ over (g.D.Disk.seen c.args.disk.now) c.blank_sectors.result none c.blank_sectors.ensures)) blanks-new)
    (c.write_durably.ensures.written obeys (omega arith))

pub returns-clause-durable : goal.returns-clause-durable
returns-clause-durable g c = λ obeys none empty. known_if_ok c.write_durably.result
    (λ (follows : LeavesMore (λ before left. left ≡ written before 0 c.blank_sectors.result)
    (g.D.Disk.may_leave c.args.disk.now) (g.D.Disk.may_leave c.write_durably.new.disk)). λ left now.
    let from = follows left now in
    from.2 ∙ over from.0 c.blank_sectors.result (empty from.0 from.1) c.blank_sectors.ensures)
    (c.write_durably.ensures.durable obeys (omega arith))

pub returns-clause-begun : goal.returns-clause-begun
returns-clause-begun g c = λ obeys empty.
    weaker g.D.Disk c.args.disk.now c.write_durably.new.disk (IsPartOf blank_sectors) _
    (c.write_durably.ensures.any_moment obeys (omega arith))
    (λ left torn. part-torn blank_sectors torn.0 left (part-none blank_sectors torn.0 (empty torn.0 torn.1))
    (subst (λ h. Torn 0 h torn.0 left) c.blank_sectors.ensures torn.2))

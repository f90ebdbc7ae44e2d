use Rattle.std.proofs.Common.{◌≡◌, ◌⊎◌, ◌≤◌, inl, inr, ◌∙◌, ap, sym, refl, subst, List, ℕ, length, take, IfOk, arith}
use Rattle.ark_paths.specs.Pair.{Digest}
use Rattle.log_file.specs.LogFile.{IsLogFile}
use Rattle.log_store.specs.Sectors.{laid, HasSecond}
use Rattle.log_store.specs.Store.{SaysLarger}
use Rattle.log_store.specs.declared.sectors.Layout.{Layout}
use Rattle.log_store.specs.declared.sectors.Layout.TheVariants.{Dense, SecondAlone}
use Rattle.log_store.proofs.Losing.{lost-slot}
use Rattle.log_store.proofs.Lying.{lies-apart, lies-dense, second-there, settled-title, start-title}
use Rattle.log_store.proofs.opening.layout_of.Goals.{in-Ok-sector_start, in-Err-sector_start}
use Rattle.log_store.proofs.opening.layout_of.Goals as goal

-- what is said of the layout of a file with a log
abbrev Lost : List ℕ → List Digest → Layout → Type 0
Lost file leaves layout =
    IsLogFile leaves (laid layout file) ⊎ SaysLarger (length leaves) (length leaves) (laid layout file)

-- and of that of an older file
abbrev Older : List ℕ → Layout → Type 0
Older file layout = (layout ≡ Dense) ⊎ ((layout ≡ SecondAlone) × HasSecond file)

pub returns-after-sector_start-2-clause-lost : goal.returns-after-sector_start-2-clause-lost
returns-after-sector_start-2-clause-lost g c = λ obeys leaves long settled.
    let file = g.D.Disk.seen c.args.disk.now in
    let first = c.in-Ok.ensures obeys (omega (arith, long)) in
    let begins = settled-title file leaves long settled.log in
    elim c.match-sector_start-2.branch [
      | in-Ok-sector_start w ↦ subst (λ r. IfOk r (Lost file leaves)) (sym w.result-is)
          (lost-slot leaves w.layout_of_parts.result file settled (inl (w.layout_of_parts.ensures.file file
          (c.in_ok-count.ensures obeys) first (w.in-Ok-sector_start.ensures obeys (omega (arith, long)))
          ∙ lies-apart file long begins)))
      | in-Err-sector_start w ↦ subst (λ r. IfOk r (Lost file leaves)) (sym w.result-is)
          (lost-slot leaves w.layout_by_first.result file settled (inr (inl (w.layout_by_first.ensures.titled
          (ap (take 32) first ∙ start-title file long ∙ begins)))))
    ]

pub returns-after-sector_start-2-clause-dense : goal.returns-after-sector_start-2-clause-dense
returns-after-sector_start-2-clause-dense g c = λ obeys begins.
    let file = g.D.Disk.seen c.args.disk.now in
    let long : 8192 ≤ length file = omega (arith, c.in_ok-count.ensures obeys, c.if-count-lt-DIGESTS.false) in
    let first = c.in-Ok.ensures obeys (omega (arith, long)) in
    elim c.match-sector_start-2.branch [
      | in-Ok-sector_start w ↦ subst (λ r. IfOk r (Older file)) (sym w.result-is)
          (inl (w.layout_of_parts.ensures.file file (c.in_ok-count.ensures obeys) first
          (w.in-Ok-sector_start.ensures obeys (omega (arith, long))) ∙ lies-dense file long begins))
      | in-Err-sector_start w ↦ subst (λ r. IfOk r (Older file)) (sym w.result-is)
          (inl (w.layout_by_first.ensures.older (ap (take 32) first ∙ start-title file long ∙ begins)))
    ]

pub returns-in-Ok-sector_start-2-clause-lost : goal.returns-in-Ok-sector_start-2-clause-lost
returns-in-Ok-sector_start-2-clause-lost g c = λ obeys leaves long settled.
    lost-slot leaves _ (g.D.Disk.seen c.args.disk.now) settled (inr (inr refl))

pub returns-in-Ok-sector_start-2-clause-dense : goal.returns-in-Ok-sector_start-2-clause-dense
returns-in-Ok-sector_start-2-clause-dense g c = λ obeys begins.
    let file = g.D.Disk.seen c.args.disk.now in
    let long : 8192 ≤ length file = omega (arith, c.in_ok-count.ensures obeys, c.if-count-lt-DIGESTS.false) in
    inr (
      refl,
      second-there c.in-Ok-sector_start-2.second file
          (c.in-Ok-sector_start-2.ensures obeys (omega (arith, long))) long
          (sym c.is_sector.ensures ∙ c.if-is_sector.true),
    )

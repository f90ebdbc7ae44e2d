use Rattle.std.proofs.Common.{◌≡◌, length, inr, refl, sym, ◌∙◌, subst, arith}
use Rattle.merkle_log.specs.Kept.{Keeps}
use Rattle.log_file.specs.LogFile.{stored_in}
use Rattle.log_file.proofs.Files.{sizes-same}
use Rattle.log_store.proofs.Growths.{none-states, top-of}
use Rattle.log_store.proofs.Reading.{slots-read}
use Rattle.log_store.proofs.log.read_log.Goals as goal

pub returns-in_default-clause-refused : goal.returns-in_default-clause-refused
returns-in_default-clause-refused g c = λ obeys. inr (inr (
  refl,
  λ leaves log.
      let file = g.D.Disk.seen c.args.disk.now in
      let size = c.in_ok-read.read.head.size in
      let inside = c.in_ok-read.ensures.inside obeys in
      let own = c.in-Ok.ensures obeys inside in
      let count : length leaves ≡ size = sizes-same file (length leaves) size log.second_is_next
      c.in_ok-read.read.head.is_second_next log.head (c.in_ok-read.ensures.head obeys) in
      none-states log count (top-of leaves size count
      (c.root_with-root.ensures leaves (omega (arith, count)) log.keeps own))
      (sym (slots-read file c.in_ok-read.read.bytes size c.root_with-root.result (c.in_ok-read.ensures.bytes obeys)
      (omega (arith, inside))) ∙ sym c.in_default.ensures),
))

pub returns-clause-states : goal.returns-clause-states
returns-clause-states g c = λ obeys.
    sym (slots-read (g.D.Disk.seen c.args.disk.now) c.in_ok-read.read.bytes c.in_ok-read.read.head.size
    c.root_with-root.result (c.in_ok-read.ensures.bytes obeys) (omega (arith, c.in_ok-read.ensures.inside obeys)))
    ∙ sym c.in-Some.ensures

pub returns-clause-log : goal.returns-clause-log
returns-clause-log g c = λ obeys leaves log.
    let file = g.D.Disk.seen c.args.disk.now in
    let size = c.in_ok-read.read.head.size in
    let own = c.in-Ok.ensures obeys (c.in_ok-read.ensures.inside obeys) in
    let count : length leaves ≡ size = sizes-same file (length leaves) size log.second_is_next
    c.in_ok-read.read.head.is_second_next log.head (c.in_ok-read.ensures.head obeys) in (
      count,
      top-of leaves size count (c.root_with-root.ensures leaves (omega (arith, count)) log.keeps own),
    )

pub returns-clause-root : goal.returns-clause-root
returns-clause-root g c = λ obeys leaves count keeps.
    let file = g.D.Disk.seen c.args.disk.now in
    let size = c.in_ok-read.read.head.size in
    let own = c.in-Ok.ensures obeys (c.in_ok-read.ensures.inside obeys) in
    top-of leaves size count (c.root_with-root.ensures leaves (omega (arith, count))
    (subst (λ n. Keeps leaves (stored_in n file)) (sym count) keeps) own)

pub returns-clause-peaks : goal.returns-clause-peaks
returns-clause-peaks g c = λ obeys. c.in-Ok.ensures obeys (c.in_ok-read.ensures.inside obeys)

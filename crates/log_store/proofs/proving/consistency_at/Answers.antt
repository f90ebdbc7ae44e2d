use Rattle.std.proofs.Common.{◌≡◌, [], length, take, Ok, ap, sym, ◌∙◌, arith}
use Rattle.std.proofs.lemmas.List.{length-take-le}
use Rattle.sha2.specs.Sha256.{sha256}
use Rattle.ark_trees.specs.Rfc6962.{node_of}
use Rattle.merkle_log.specs.Edge.{all_of}
use Rattle.merkle_log.specs.Log.{consistency_path}
use Rattle.merkle_log.proofs.KeptRows.{up-rises}
use Rattle.merkle_log.proofs.Positions.{count-rises}
use Rattle.log_file.specs.LogFile.{stored_in}
use Rattle.log_store.specs.Spots.{AreSpotsOf}
use Rattle.log_store.proofs.Reading.{path-whole, spotted-first, spotted-stored}
use Rattle.log_store.proofs.Spotted.{spotted-held}
use Rattle.log_store.proofs.proving.consistency_at.Goals as goal

pub consistency_over-requires-clause-peaks : goal.consistency_over-requires-clause-peaks
consistency_over-requires-clause-peaks g c = λ level place peak.
    spotted-held c.args.size c.deref.result.now (stored_in c.args.size (g.D.Disk.seen c.args.disk.now)) level place
    (omega (arith, peak.1))
    (rw (c.deref.ensures.value)
    (c.in_ok-read_lowest.ensures.more _ (c.in_ok-spots.ensures.peaks level place peak)))

pub consistency_over-requires-clause-beside : goal.consistency_over-requires-clause-beside
consistency_over-requires-clause-beside g c = λ level place beside.
    spotted-held c.args.size c.deref.result.now (stored_in c.args.size (g.D.Disk.seen c.args.disk.now)) level place
    beside.1
    (rw (c.deref.ensures.value)
    (c.in_ok-read_lowest.ensures.more _ (c.in_ok-spots.ensures.beside level place beside)))

pub consistency_over-requires-clause-lowest : goal.consistency_over-requires-clause-lowest
consistency_over-requires-clause-lowest g c = λ level place lowest.
    spotted-held c.args.size c.deref.result.now (stored_in c.args.size (g.D.Disk.seen c.args.disk.now)) level place
    (omega (arith, lowest.0.1, up-rises level c.args.old_size c.args.size (omega (arith, c.requires.older))))
    (rw (c.deref.ensures.value) (c.in_ok-read_lowest.ensures.read level place lowest))

pub read_lowest-requires-clause-inside : goal.read_lowest-requires-clause-inside
read_lowest-requires-clause-inside g c = omega (
  arith,
  count-rises c.args.old_size c.args.size (omega (arith, c.requires.older)),
  c.requires.near,
)

pub returns-then-old_size-size-clause-path : goal.returns-then-old_size-size-clause-path
returns-then-old_size-size-clause-path g c = λ obeys inside peaks leaves le keeps.
    let size = c.args.size in
    let long : length (take size leaves) ≡ size = length-take-le size leaves le in
    ap all_of (path-whole node_of (sha256 []) (take size leaves) c.args.old_size
    (omega (arith, long, c.if-old_size-size.true))) ∙ ap Ok (sym c.new.ensures.items)

pub returns-in-Ok-clause-path : goal.returns-in-Ok-clause-path
returns-in-Ok-clause-path g c = λ obeys inside peaks leaves le keeps.
    let file = g.D.Disk.seen c.args.disk.now in
    let size = c.args.size in
    let own : AreSpotsOf c.deref.result.now (stored_in size file) = rw (c.deref.ensures.value)
    (c.in_ok-read_lowest.ensures.own obeys size (omega (arith, c.requires.older)) inside
    (c.in_ok-spots.ensures.own obeys inside peaks)) in
    ap (λ l. all_of (consistency_path node_of (sha256 []) c.args.old_size l))
    (sym (spotted-first {leaves = leaves} file size c.deref.result.now keeps le own))
    ∙ c.in-Ok.ensures.path (spotted-stored {leaves = leaves} file size c.deref.result.now keeps le own)

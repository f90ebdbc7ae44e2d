use Rattle.std.proofs.Common.{[], ap, sym, ◌∙◌}
use Rattle.sha2.specs.Sha256.{sha256}
use Rattle.ark_trees.specs.Rfc6962.{node_of}
use Rattle.merkle_log.specs.Log.{merkle_tree_hash}
use Rattle.log_file.specs.LogFile.{stored_in}
use Rattle.log_store.proofs.Overlaid.{overlay-peak}
use Rattle.log_store.proofs.Reading.{peak-low, whole-first, whole-stored}
use Rattle.log_store.proofs.edge.root_with.Goals as goal

pub root_over-requires-clause-peaks : goal.root_over-requires-clause-peaks
root_over-requires-clause-peaks g c = λ level place peak.
    let low = peak-low level place c.args.size c.requires.fits peak in (
      low,
      overlay-peak c.args.size c.args.peaks.now (stored_in c.args.size (g.D.Disk.seen c.args.disk.now)) level place low
          peak,
    )

pub returns : goal.returns
returns g c = λ leaves le keeps own.
    let file = g.D.Disk.seen c.args.disk.now in
    ap (merkle_tree_hash node_of (sha256 []))
    (sym (whole-first {leaves = leaves} file c.args.size c.args.peaks.now keeps
    le own))
    ∙ c.root_over.ensures (whole-stored {leaves = leaves} file c.args.size c.args.peaks.now keeps le own)

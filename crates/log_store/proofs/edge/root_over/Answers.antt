use Rattle.std.proofs.Common.{◌≡◌, ◌+◌, ◌<◌, [], length, get_or, subst, arith}
use Rattle.sha2.specs.Sha256.{sha256}
use Rattle.merkle_log.specs.Stored.{row_at}
use Rattle.merkle_log.proofs.Positions.{length-row_of}
use Rattle.log_store.proofs.edge.root_over.Goals as goal

pub root_of-requires-clause-inside : goal.root_of-requires-clause-inside
root_of-requires-clause-inside g c = omega (arith, length-row_of g.W.Whole.whole 0, c.requires.size)

pub root_of-requires-clause-held : goal.root_of-requires-clause-held
root_of-requires-clause-held g c = λ level place peak.
    let zero : level ≡ 0 + level = omega arith in
    let has = c.requires.peaks level place peak in
    let peaks = c.args.peaks.now in
    subst (λ k. (k < length peaks) × (get_or peaks k [] ≡ get_or (row_at g.W.Whole.whole k) place [])) zero
    (omega (arith, has.0, c.told-peaks), has.1)

pub returns : goal.returns
returns g c = λ stored. rw (c.in-Ok.is) at (c.root_of.ensures.root stored (sha256 []))

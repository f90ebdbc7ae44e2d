use Rattle.std.proofs.Common.{◌≡◌, ◌+◌, ◌∙◌, length, refl, ap, arith}
use Rattle.std.proofs.Math.Logic.{⊎_map}
use Rattle.merkle_log.specs.Kept.{stored_front}
use Rattle.merkle_log.specs.Stored.{stored_count}
use Rattle.merkle_log.proofs.Appending.{appending-first, appending-fits, appending-next, appending-refused, appending-room, appending-all}
use Rattle.merkle_log.proofs.Givens.{refused_on}
use Rattle.merkle_log.proofs.KeptRows.{front-long}
use Rattle.merkle_log.proofs.kept.growth.by_hasher.append_by.Goals as goal

pub leaves-init : goal.leaves-init
leaves-init g c = record {
  same = refl;
  at = appending-first (stored_front (g.R.Rows.stored c.args.rows.now)) c.args.size c.args.digests.now c.args.more.now
      (front-long _ c.args.size c.requires.size c.requires.stored);
}

pub complete_by-requires-clause-room : goal.complete_by-requires-clause-room
complete_by-requires-clause-room g c =
    appending-room c.leaves.invariant.at c.requires.room (omega arith)

pub returns-in_err-made-clause-refused : goal.returns-in_err-made-clause-refused
returns-in_err-made-clause-refused g c =
    let long = front-long _ c.args.size c.requires.size c.requires.stored in
    let at = rw (c.requires.size) at c.leaves.invariant.at in
    refused_on _ c.from_residual.result c.in_err-made.field-0.0 c.from_residual.ensures.1
    (⊎_map (λ memory. memory) (λ refused leaves count keeps.
    appending-refused at (appending-fits c.leaves.invariant.at long c.requires.room (omega arith)) (omega arith) count
    keeps _ (omega arith) refused) (rw (c.leaves.invariant.same, c.requires.size) at c.in_err-made.ensures.refused))

pub returns-in_err-made-clause-same : goal.returns-in_err-made-clause-same
returns-in_err-made-clause-same g c = c.in_err-made.ensures.same ∙ c.leaves.invariant.same

pub leaves-preserved : goal.leaves-preserved
leaves-preserved g c =
    let long = front-long _ c.args.size c.requires.size c.requires.stored in
    record {
      same = c.in_ok-made.ensures.same ∙ c.leaves.invariant.same;
      at = appending-next c.leaves.invariant.at
          (appending-fits c.leaves.invariant.at long c.requires.room (omega arith)) (omega arith) (record {
            completed = rw (c.leaves.invariant.same) at c.in_ok-made.ensures.completed;
            whole = omega (arith, long, c.in_ok-made.ensures.whole);
            behind = c.in_ok-made.ensures.behind;
            same = c.in_ok-made.ensures.length;
          });
    }

pub returns-clause-count : goal.returns-clause-count
returns-clause-count g c =
    let long = front-long _ c.args.size c.requires.size c.requires.stored in
    let end : c.args.size + c.leaves.place ≡ c.args.size + length c.args.digests.now = omega arith in
    omega (arith, long, c.leaves.invariant.at.count, ap stored_count end)

pub returns-clause-grows : goal.returns-clause-grows
returns-clause-grows g c = λ leaves count keeps.
    let long = front-long _ c.args.size c.requires.size c.requires.stored in
    let room = appending-fits c.leaves.invariant.at long c.requires.room (omega arith) in
    rw (c.requires.size) (appending-all (rw (c.requires.size) at c.leaves.invariant.at) room (omega arith) count keeps
    (omega arith))

use Rattle.std.proofs.Common.{true, Ok, refl}
use Rattle.std.proofs.lemmas.Fn.{slice_gives}
use Rattle.std.proofs.lemmas.Result.{IfOk-weaker}
use Rattle.ark_paths.proofs.Clients.{listed-answer}
use Rattle.ark_paths.proofs.MultiLists.{answers_over_list}
use Rattle.ark_paths.proofs.ReceivedProofs.{received-multi-shows}
use Rattle.ark_paths.proofs.multi_path.MultiPath.verify_bytes.Goals as goal

pub returns-then-branch-clause-bound : goal.returns-then-branch-clause-bound
returns-then-branch-clause-bound g c = λ _.
    let hashes = g.P.Views.hashes c.args.leaf_parameters.now c.args.pair_parameters.now in
    let given = g.P.InnerDigest.Numbered.numbers c.args.root.now in
    let way = g.P.Views.multi_way c.in_ok-proof.proof in
    received-multi-shows hashes given c.args.size c.args.indexes.now c.args.leaves.now way
    (g.P.Views.multi_path_reading c.args.bytes.now) c.in_ok-proof.ensures
    (listed-answer hashes given way c.args.leaves.now (Ok true) (c.in_ok-is_found.ensures.sound c.if-branch.true) refl)

pub returns-clause-answer : goal.returns-clause-answer
returns-clause-answer g c = rw c.in_ok-proof.ensures (rw c.iter.ensures.rest at (answers_over_list _ (λ item. item.now)
    (g.P.Views.hashes c.args.leaf_parameters.now c.args.pair_parameters.now).leaf _ _ c.iter.result _
    (slice_gives c.iter.result) c.verify.ensures.answer))

pub returns-clause-bound : goal.returns-clause-bound
returns-clause-bound g c =
    let hashes = g.P.Views.hashes c.args.leaf_parameters.now c.args.pair_parameters.now in
    let given = g.P.InnerDigest.Numbered.numbers c.args.root.now in
    let reading = g.P.Views.multi_path_reading c.args.bytes.now in
    let way = g.P.Views.multi_way c.in_ok-proof.proof in
    let over = answers_over_list _ (λ item. item.now) hashes.leaf _ _ c.iter.result _ (slice_gives c.iter.result)
    c.verify.ensures.answer in
    let bound = listed-answer hashes given way c.args.leaves.now c.verify.result (rw c.iter.ensures.rest at over) in
    IfOk-weaker c.verify.result _ _ (λ accepted bound is. received-multi-shows hashes given c.args.size
    c.args.indexes.now c.args.leaves.now way reading c.in_ok-proof.ensures (bound is)) bound

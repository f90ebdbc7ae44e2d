use Rattle.std.proofs.lemmas.Result.{IfOk-weaker}
use Rattle.ark_paths.proofs.ReceivedProofs.{received-shows}
use Rattle.ark_paths.proofs.path.Path.verify_bytes.Goals as goal

pub returns-clause-bound : goal.returns-clause-bound
returns-clause-bound g c =
    let hashes = g.P.Views.hashes c.args.leaf_parameters.now c.args.pair_parameters.now in
    let given = g.P.InnerDigest.Numbered.numbers c.args.root.now in
    let reading = g.P.Views.path_reading c.args.bytes.now in
    IfOk-weaker c.verify.result _ _ (λ accepted bound is. received-shows hashes given c.args.size c.args.index
    c.args.leaf.now (g.P.Views.way c.in_ok-path.path) reading c.in_ok-path.ensures (bound is)) c.verify.ensures.bound

use Rattle.ark_paths.proofs.Clients.{given-bound}
use Rattle.ark_paths.proofs.multi_path.MultiPath.verify.Goals as goal

pub returns-clause-bound : goal.returns-clause-bound
returns-clause-bound g c =
    let hashes = g.P.Views.hashes c.args.leaf_parameters.now c.args.pair_parameters.now in
    given-bound hashes (g.P.InnerDigest.Numbered.numbers c.args.root.now) g.I.Iterator.next_gives _
    (g.P.Views.multi_way c.args.self.now) _ _ c.verify_next.result c.verify_next.ensures

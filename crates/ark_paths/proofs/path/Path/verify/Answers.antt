use Rattle.ark_paths.proofs.Clients.{answered-bound}
use Rattle.ark_paths.proofs.path.Path.verify.Goals as goal

pub returns-clause-answer : goal.returns-clause-answer
returns-clause-answer g c =
    rw (g.met.P.Views.way_is, ← c.new-hasher.ensures)
    (rw c.deref.ensures.value at c.verify_leaf.ensures)

pub returns-clause-bound : goal.returns-clause-bound
returns-clause-bound g c =
    let hashes = g.P.Views.hashes c.args.leaf_parameters.now c.args.pair_parameters.now in
    answered-bound hashes (g.P.InnerDigest.Numbered.numbers c.args.root.now) c.args.leaf.now
    (g.P.Views.way c.args.self.now) c.verify_leaf.result (returns-clause-answer g c)

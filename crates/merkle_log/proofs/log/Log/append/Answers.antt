use Rattle.merkle_log.proofs.Growing.{leaf-refused}
use Rattle.merkle_log.proofs.log.Log.append.Goals as goal

pub returns-clause-refused : goal.returns-clause-refused
returns-clause-refused g c =
    leaf-refused (g.T.TreeHasher.hashes c.args.self.now.hasher) c.args.self.now.digests c.args.leaf.now
    (g.D.Numbered.numbers c.in_ok-digest.digest) c.append_digest.result (rw (← c.self.view_is) c.in_ok-digest.ensures)
    c.append_digest.ensures.refused

use Rattle.ark_paths.proofs.multi_path.MultiPath.verify_next.Goals as goal

pub returns : goal.returns
returns g c = rw (g.met.P.Views.hashes_are, ← c.new-hasher.ensures.pair) c.verify_next_with.ensures.answer

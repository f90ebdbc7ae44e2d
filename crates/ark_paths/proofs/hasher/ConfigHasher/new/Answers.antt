use Rattle.std.proofs.Common.{refl}
use Rattle.ark_paths.proofs.hasher.ConfigHasher.new.Goals as goal

pub returns : goal.returns
returns g c = rw g.met.P.Views.hashes_are refl

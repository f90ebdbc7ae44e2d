use Rattle.std.proofs.Common.{[], refl, arith}
use Rattle.ark_schemes.proofs.Pieces.{full_block-put}
use Rattle.ark_schemes.proofs.prf.blake2s.hasher.refill.Goals as goal

pub returns : goal.returns
returns c = rw c.copy_from_slice.ensures.after (full_block-put [] c.args.bytes.now _ 0 _ refl refl refl (omega arith))

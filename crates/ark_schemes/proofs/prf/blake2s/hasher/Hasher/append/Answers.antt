use Rattle.std.proofs.Common.{◌+◌, ◌-◌, length, arith, refl}
use Rattle.ark_schemes.proofs.Pieces.{hasher_of-append}
use Rattle.ark_schemes.proofs.prf.blake2s.hasher.Hasher.append.Goals as goal

pub returns : goal.returns
returns c = λ salt personalization text fits at held.
    hasher_of-append salt personalization text c.args.input.now c.args.self.now _ c.args.used
    (c.args.used + length c.args.input.now - c.args.used) held at c.requires (omega arith) fits refl
    (rw c.copy_from_slice.ensures.after refl) refl

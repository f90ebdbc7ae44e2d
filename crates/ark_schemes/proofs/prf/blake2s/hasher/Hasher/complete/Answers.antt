use Rattle.std.proofs.Common.{arith, refl, ◌-◌}
use Rattle.ark_schemes.proofs.Pieces.{state_after-filled, state_after-unfilled}
use Rattle.ark_schemes.proofs.prf.blake2s.hasher.Hasher.complete.Goals as goal

pub returns-then-used-eq0-clause-state : goal.returns-then-used-eq0-clause-state
returns-then-used-eq0-clause-state c = λ salt personalization text fits at held.
    state_after-unfilled salt personalization text c.args.input.now c.args.self.now c.args.used held at (omega arith)

pub returns-clause-state : goal.returns-clause-state
returns-clause-state c = λ salt personalization text fits at held.
    state_after-filled salt personalization text c.args.input.now _ _ _ c.args.self.now c.args.used (64 - c.args.used)
    (64 - c.args.used) _ held at (omega arith) (omega arith) (omega arith) (omega arith) fits
    (rw c.copy_from_slice.ensures.after refl) c.words_of.ensures refl c.compress.ensures

use Rattle.std.proofs.Common.{◌++◌, ◌∙◌, sym, ap, Ok, List, ℕ}
use Rattle.ark_base.specs.Outcome.{Outcome}
use Rattle.poseidon2.proofs.ModeStates.{zeros-behind}
use Rattle.poseidon2.proofs.modes.both_and_zeros.Goals as goal

pub returns-clause-numbers : goal.returns-clause-numbers
returns-clause-numbers g c =
    let make : List ℕ → Outcome (List ℕ) = λ t. Ok t in
    let f = g.F.Valued.value in
    let first = c.in_ok-extend_from_slice.ensures.items
    ∙ ap (λ l. l ++ c.args.left.now) c.in_ok-state.ensures.items in
    let joined = c.in_ok-extend_from_slice-2.ensures.items ∙ ap (λ l. l ++ c.args.right.now) first in
    sym (ap make (zeros-behind f c.zero.result c.args.width _ c.args.left.now c.args.right.now
    c.extend_from_slice-2.new.self.items c.resize.new.self.items c.zero.ensures joined c.requires.fits
    c.extend_from_slice-2.new.self.ok.0 c.in_ok-resize.ensures.items))

use Rattle.std.proofs.Common.{◌≡◌, ◌+◌, ◌-◌, length, ap, refl, arith, add-zero, length-drop, ◌∙◌}
use Rattle.ark_schemes.specs.Blake2s.{block_count}
use Rattle.ark_schemes.proofs.Pieces.{state_after-behind}
use Rattle.ark_schemes.proofs.prf.blake2s.hasher.compress_front.Goals as goal

pub whole-init : goal.whole-init
whole-init c = λ first text n fits at rest held. rw add-zero held

pub whole-preserved : goal.whole-preserved
whole-preserved c = λ first text n fits at rest held.
    state_after-behind first text c.args.bytes.now c.whole.state _ _ n c.whole.i c.args.before _ _ _ fits rest at refl
    refl (omega arith) refl
    (c.whole.invariant first text n fits at rest held) c.words_of-words.ensures c.compress.ensures

pub returns-clause-state : goal.returns-clause-state
returns-clause-state c = λ first text n fits at rest held.
    let size : length c.args.bytes.now ≡ length text - c.args.before =
    ap length rest ∙ length-drop c.args.before text in
    let last : block_count (length text) - 1 ≡ n + c.whole.i = omega (arith, size) in
    rw last (c.whole.invariant first text n fits at rest held)

use mathlib.Core.Bool.{beq}
use Rattle.std.proofs.Common.{◌≡◌, Bool, not, true, false, get_or, ◌∙◌}
use Rattle.kept_map.proofs.Checks.{path-alike}
use Rattle.kept_map.proofs.check.is_on.Goals as goal

same_bits : (x y : Bool) → not (beq x y) ≡ true → x ≡ y → ⊥
same_bits true true differ same = absurd cc
same_bits true false differ same = absurd cc
same_bits false true differ same = absurd cc
same_bits false false differ same = absurd cc

pub returns-then-bit_of-path-clause-off : goal.returns-then-bit_of-path-clause-off
returns-then-bit_of-path-clause-off c = λ off on.
    let inside = c.bits-test.true in
    same_bits c.bit_of.result (get_or c.args.path.now c.bits.n false) c.if-bit_of-path.true
    (c.bit_of.ensures ∙ path-alike c.args.level c.bits.n c.args.key.now c.args.path.now on inside)

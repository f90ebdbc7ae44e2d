use Rattle.std.proofs.Common.{◌-◌, length, set, ap, ◌∙◌, refl}
use Rattle.ark_sponge.proofs.Windows.{shifted}
use Rattle.ark_sponge.proofs.poseidon.recurrence.shift.Goals as goal

pub returns : goal.returns
returns g c =
    let state = c.args.state.now in
    ap (λ t. set (set t (length state - 1) c.args.last) 0 c.args.first) c.copy_within.ensures.after
    ∙ shifted state c.args.first c.args.last (length state - 2) (length state - 1) c.requires refl refl

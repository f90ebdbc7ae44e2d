use Rattle.std.proofs.Common.{◌∙◌}
use Rattle.ark_groups.specs.Words.{number}
use Rattle.edwards.specs.Values.{value}
use Rattle.edwards.proofs.Divided.{divided}
use Rattle.edwards.proofs.extended.affine_by.Goals as goal

pub returns-clause-x : goal.returns-clause-x
returns-clause-x g c d s on of_a inverts =
    let a = c.args.a.now in
    c.mul.ensures ∙ divided (number g.M.WideModulus.P) (value a.x) s.x (value a.z) (value c.args.one_over) on.x_below
    of_a.first inverts

pub returns-clause-y : goal.returns-clause-y
returns-clause-y g c d s on of_a inverts =
    let a = c.args.a.now in
    c.mul-2.ensures ∙ divided (number g.M.WideModulus.P) (value a.y) s.y (value a.z) (value c.args.one_over) on.y_below
    of_a.second inverts

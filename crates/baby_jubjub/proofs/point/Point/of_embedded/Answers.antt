use Rattle.std.proofs.Common.{◌*◌, ◌%◌, ◌∙◌, ap, sym, subst}
use Rattle.baby_jubjub.specs.BabyJubjub.{p, d, scaled, IsOnBabyJubjub}
use Rattle.baby_jubjub.specs.Laws.Curve.{baby_jubjub_is_complete}
use Rattle.baby_jubjub.specs.Values.{value}
use Rattle.baby_jubjub.proofs.Carried.{carried_on, returned}
use Rattle.baby_jubjub.proofs.point.Point.of_embedded.Goals as goal

pub of-requires : goal.of-requires
of-requires c =
    let (q, on, stands) = c.requires in
    subst IsOnBabyJubjub (sym (returned (value c.mul.result) (value c.affine.result.0) (value c.affine.result.1) q on
    (c.affine.ensures.x d baby_jubjub_is_complete (scaled q) (carried_on q on) stands)
    (c.mul.ensures ∙ ap (λ n. n * value c.affine.result.0 % p) c.one_over_factor.ensures)
    (c.affine.ensures.y d baby_jubjub_is_complete (scaled q) (carried_on q on) stands))) on

pub returns : goal.returns
returns c q on stands =
    c.of.ensures ∙ returned (value c.mul.result) (value c.affine.result.0) (value c.affine.result.1) q on
    (c.affine.ensures.x d baby_jubjub_is_complete (scaled q) (carried_on q on) stands)
    (c.mul.ensures ∙ ap (λ n. n * value c.affine.result.0 % p) c.one_over_factor.ensures)
    (c.affine.ensures.y d baby_jubjub_is_complete (scaled q) (carried_on q on) stands)

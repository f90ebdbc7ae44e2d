use Rattle.std.proofs.Common.{refl, ◌∙◌, ap, subst}
use Rattle.ark_groups.specs.Words.{number}
use Rattle.edwards.specs.Edwards.{Coordinates, negative}
use Rattle.edwards.specs.Laws.CurveLaws.{same_coordinates, negative_closed}
use Rattle.edwards.specs.Laws.Completeness.{has_inverses, complete}
use Rattle.edwards.specs.Extended.{Stands}
use Rattle.ed25519.specs.Edwards25519.{p, d, base_point, IsOnEd25519}
use Rattle.ed25519.specs.Laws.Curve.{ed25519_is_complete}
use Rattle.ed25519.specs.Laws.Base.{base_on_curve}
use Rattle.ed25519.specs.Spelling.{spelling}
use Rattle.ed25519.specs.Points.{coordinates_of}
use Rattle.ed25519.specs.Combined.{combined}
use Rattle.ed25519.proofs.TwoMultiples.{combined_on}
use Rattle.ed25519.proofs.signatures.commitment.Goals as goal

pub returns : goal.returns
returns c =
    let k = ed25519_is_complete in
    let a : Coordinates = coordinates_of c.args.x c.args.y in
    let b : Coordinates = negative p a in
    let on_b : IsOnEd25519 b = negative_closed p d (has_inverses p d k) (complete p d k) a c.requires in
    let of_base : Stands c.lifted-base.result base_point =
    subst (Stands c.lifted-base.result) (same_coordinates _ base_point c.base_x.ensures c.base_y.ensures)
    c.lifted-base.ensures in
    let of_b : Stands c.lifted-opposite.result b =
    subst (Stands c.lifted-opposite.result) (same_coordinates _ b c.neg.ensures refl) c.lifted-opposite.ensures in
    let s : Coordinates = combined (number c.args.s) (number c.args.k) base_point b in
    let on : IsOnEd25519 s = combined_on (number c.args.s) (number c.args.k) base_point b base_on_curve on_b in
    let of_s : Stands c.sum_of_multiples-sum.result s =
    c.sum_of_multiples-sum.ensures base_point b base_on_curve on_b of_base of_b in
    c.point_bytes.ensures ∙ ap spelling (same_coordinates _ s (c.affine.ensures.x d k s on of_s)
    (c.affine.ensures.y d k s on of_s))

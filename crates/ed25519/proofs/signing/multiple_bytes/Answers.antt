use Rattle.std.proofs.Common.{◌∙◌, ap}
use Rattle.ark_groups.specs.Group.{times}
use Rattle.ark_groups.specs.Words.{number}
use Rattle.edwards.specs.Edwards.{Coordinates}
use Rattle.edwards.specs.Laws.CurveLaws.{same_coordinates}
use Rattle.edwards.proofs.Sums.{multiple_on_curve}
use Rattle.ed25519.specs.Edwards25519.{p, d, curve, base_point, IsOnEd25519}
use Rattle.ed25519.specs.Laws.Curve.{ed25519_is_complete}
use Rattle.ed25519.specs.Laws.Base.{base_on_curve}
use Rattle.ed25519.specs.Spelling.{spelling}
use Rattle.ed25519.proofs.signing.multiple_bytes.Goals as goal

pub returns : goal.returns
returns c =
    let k = ed25519_is_complete in
    let s : Coordinates = times curve (number c.args.n) base_point in
    let on_s : IsOnEd25519 s = multiple_on_curve p d k (number c.args.n) base_point base_on_curve in
    let first = c.multiple_of_base.ensures in
    c.point_bytes.ensures ∙ ap spelling (same_coordinates _ s (c.affine.ensures.x d k s on_s first)
    (c.affine.ensures.y d k s on_s first))

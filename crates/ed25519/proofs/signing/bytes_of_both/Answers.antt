use Rattle.std.proofs.Common.{◌∙◌, ap}
use Rattle.ark_groups.specs.Group.{times}
use Rattle.ark_groups.specs.Words.{number}
use Rattle.edwards.specs.Edwards.{Coordinates}
use Rattle.edwards.proofs.Sums.{multiple_on_curve}
use Rattle.ed25519.specs.Edwards25519.{p, d, curve, base_point}
use Rattle.ed25519.specs.Laws.Curve.{ed25519_is_complete}
use Rattle.ed25519.specs.Laws.Base.{base_on_curve}
use Rattle.ed25519.specs.Spelling.{spelling}
use Rattle.ed25519.proofs.signing.bytes_of_both.Goals as goal

pub returns : goal.returns
returns c =
    let k = ed25519_is_complete in
    let s : Coordinates = times curve (number c.args.m) base_point in
    let t : Coordinates = times curve (number c.args.n) base_point in
    let on_s = multiple_on_curve p d k (number c.args.m) base_point base_on_curve in
    let on_t = multiple_on_curve p d k (number c.args.n) base_point base_on_curve in
    let of_s = c.multiple_of_base.ensures in
    let of_t = c.multiple_of_base-2.ensures in
    record {
      first = c.point_bytes.ensures ∙ ap spelling (c.affine_both.ensures.first d k s t on_s on_t of_s of_t);
      second = c.point_bytes-2.ensures ∙ ap spelling (c.affine_both.ensures.second d k s t on_s on_t of_s of_t);
    }

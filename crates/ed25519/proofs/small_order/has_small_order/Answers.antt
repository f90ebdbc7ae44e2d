use Rattle.std.proofs.Common.{◌≡◌, ◌*◌, ◌%◌, ◌∙◌, ap, refl, sym, subst, true≢false}
use Rattle.ark_groups.specs.Group.{times}
use Rattle.edwards.specs.Edwards.{Coordinates, neutral}
use Rattle.edwards.proofs.Sums.{multiple_on_curve}
use Rattle.ed25519.specs.Edwards25519.{p, d, curve, IsOnEd25519}
use Rattle.ed25519.specs.Laws.Curve.{ed25519_is_complete}
use Rattle.ed25519.specs.Points.{coordinates_of}
use Rattle.ed25519.specs.SmallOrder.{HasSmallOrder}
use Rattle.ed25519.specs.Values.{value}
use Rattle.ed25519.proofs.Verifying.{spelled_alone}
use Rattle.ed25519.proofs.small_order.has_small_order.Goals as goal

pub returns-in-Some : goal.returns-in-Some
returns-in-Some c =
    let k = ed25519_is_complete in
    let a : Coordinates = coordinates_of c.in-Some.x c.in-Some.y in
    let on = c.in-Some.ensures.on in
    let bytes = c.in-Some.ensures.some in
    let is_twice : value c.double.result ≡ 2 * d % p =
    c.double.ensures ∙ ap (λ n. 2 * n % p) c.curve_coefficient.ensures in
    let s : Coordinates = times curve 8 a in
    let on_s : IsOnEd25519 s = multiple_on_curve p d k 8 a on in
    let stands = c.multiple.ensures d k is_twice a on c.lifted.ensures in
    let test = c.is_neutral.ensures d k s on_s stands in (
      λ yes. record { point = a; on = on; bytes_are = bytes; small = test.0 yes },
      λ (own : HasSmallOrder c.args.bytes.now).
          let same : own.point ≡ a = spelled_alone own.point a own.on on (sym own.bytes_are ∙ bytes) in
          test.1 (subst (λ q. times curve 8 q ≡ neutral) same own.small),
    )

pub returns-in-None : goal.returns-in-None
returns-in-None c = (
  λ yes. absurd (true≢false (sym yes)),
  λ (own : HasSmallOrder c.args.bytes.now). absurd (c.in-None.ensures.none refl own.point own.on own.bytes_are),
)

use Rattle.std.proofs.Common.{map, sym, ap, ◌∙◌, subst}
use Rattle.std.proofs.lemmas.Simd.{map-map}
use Rattle.ark_wide_fields.specs.Inverses.{AreInverses}
use Rattle.jubjub.specs.Jubjub.{p}
use Rattle.jubjub.specs.Sums.{scale_in}
use Rattle.jubjub.specs.Values.{value}
use Rattle.jubjub.proofs.element.sums.many.elements_of_sums.Goals as goal

pub elements_by-requires : goal.elements_by-requires
elements_by-requires c =
    let scales = ap (map value) (c.deref.ensures.value ∙ c.in_ok-scales.ensures.made)
    ∙ map-map value scale_in c.args.sums.now in
    subst (λ ns. AreInverses p (map (λ sum. value (scale_in sum)) c.args.sums.now) ns)
    (ap (map value) (sym c.deref-in-Ok.ensures.value))
    (subst (λ ns. AreInverses p ns (map value c.in-Ok.inverses.items)) scales c.in-Ok.ensures.inverses)

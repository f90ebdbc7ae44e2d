use Rattle.std.proofs.Common.{◌++◌, map, refl, ap, ◌∙◌, arith}
use Rattle.std.proofs.lemmas.List.{take_all}
use Rattle.ark_groups.specs.Words.{number}
use Rattle.ark_sponge.proofs.Permuting.{numbers-below}
use Rattle.ark_wide_fields.specs.Laws.Moduli.{at_least_two}
use Rattle.ark_wide_fields.specs.Laws.Montgomery.{form_below}
use Rattle.ark_wide_fields.specs.Moduli.{value_of}
use Rattle.circom.specs.Elements.{form_bytes}
use Rattle.circom.proofs.forms.put_forms.Goals as goal

pub returns : goal.returns
returns g c =
    let m = g.M.WideModulus in (
      map (λ x. value_of m.P m.INVERSE x.form) c.args.elements.now,
      numbers-below (λ x. value_of m.P m.INVERSE x.form) (number m.P) c.args.elements.now
          (λ x. form_below (number m.P) m.INVERSE (at_least_two m.laws) m.laws.turned (number x.form)),
      refl,
      c.loop-element.invariant
          ∙ ap (λ t. c.args.bytes.now.items ++ form_bytes (number m.P) (map (λ x. value_of m.P m.INVERSE x.form) t))
          (take_all c.loop-element.element-index c.args.elements.now (omega arith)),
    )

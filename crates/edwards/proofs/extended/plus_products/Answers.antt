use Rattle.std.proofs.Common.{◌≡◌, ℕ, ◌*◌, ◌%◌, refl, sym, ◌∙◌, ap, arith}
use Rattle.std.proofs.lemmas.Nat.{mul-mod_first, mul-mod_second}
use Rattle.ark_groups.specs.Words.{number}
use Rattle.ark_wide_fields.specs.Laws.Fp256.{wide_below}
use Rattle.ark_wide_fields.specs.Laws.Moduli.{at_least_two}
use Rattle.edwards.specs.Values.{value}
use Rattle.edwards.proofs.CrossedProducts.{crossed_is, straight_is}
use Rattle.edwards.proofs.Numbers.{numbers}
use Rattle.edwards.proofs.ExtendedLaws.{Four, plus_stands, single_scale}
use Rattle.edwards.proofs.WithOne.{stands_point}
use Rattle.edwards.proofs.extended.plus_products.Goals as goal

-- the product of the fourth coordinates and of twice the curve's coefficient, in another order
turned : (p d a x y cross r : ℕ) → cross ≡ 2 * d * x * y % p → r ≡ a * cross % p
    → r ≡ 2 * d % p * a % p * (x * y % p) % p
turned p d a x y cross r is_cross is =
    is ∙ ap (λ n. a * n % p) is_cross ∙ mul-mod_second a (2 * d * x * y) p ∙ ap (λ n. n % p) (order d a x y)
    ∙ sym (mul-mod_first (2 * d * a) (x * y) p) ∙ ap (λ n. n * (x * y) % p) (sym (mul-mod_first (2 * d) a p))
    ∙ sym (mul-mod_second (2 * d % p * a % p) (x * y) p)
  where
    order : (d a x y : ℕ) → a * (2 * d * x * y) ≡ 2 * d * a * (x * y)
    order d a x y = omega arith

pub returns : goal.returns
returns g c d complete s t on_s on_t of_a of_b =
    let p = number g.M.WideModulus.P in
    let a = c.args.a in
    let two = at_least_two g.M.WideModulus.laws in
    let product = t.x * t.y % p in
    let b : Four = record { x = t.x; y = t.y; z = 1; t = product } in
    plus_stands p d complete (numbers a) b (numbers c.joined.result) (record {
      k = 2 * d % p;
      crossed = value c.mul-third.result;
      scale = value c.double-scale.result;
      E = value c.sub-2.result;
      F = value c.sub-3.result;
      G = value c.add-2.result;
      H = value c.add-3.result;
      is_k = refl;
      is_crossed = turned p d (value a.t) t.x t.y (value c.args.cross) (value c.mul-third.result) of_b.cross_is
          c.mul-third.ensures;
      is_scale = single_scale p (value a.z) (value c.double-scale.result) c.double-scale.ensures;
      is_E = crossed_is p (value a.x) (value a.y) t.x t.y (value c.sub.result) (value c.args.less) (value c.add.result)
          (value c.args.more) (value c.mul-first.result) (value c.mul-second.result) (omega (arith, two))
          (wide_below a.x)
          on_t.x_below c.sub.ensures of_b.less_is c.mul-first.ensures c.add.ensures of_b.more_is c.mul-second.ensures
          (value c.sub-2.result) c.sub-2.ensures;
      is_F = c.sub-3.ensures;
      is_G = c.add-2.ensures;
      is_H = straight_is p (value a.x) (value a.y) t.x t.y (value c.sub.result) (value c.args.less) (value c.add.result)
          (value c.args.more) (value c.mul-first.result) (value c.mul-second.result) (omega (arith, two))
          (wide_below a.x)
          on_t.x_below c.sub.ensures of_b.less_is c.mul-first.ensures c.add.ensures of_b.more_is c.mul-second.ensures
          (value c.add-3.result) c.add-3.ensures;
      joins = record {
        x = c.joined.ensures.x;
        y = c.joined.ensures.y;
        z = c.joined.ensures.z;
        t = c.joined.ensures.t;
      };
    }) s t on_s on_t of_a (stands_point p t.x t.y 1 product two refl refl)

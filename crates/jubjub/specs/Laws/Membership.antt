-- One power tells whether a point of the curve is in the prime subgroup.
use Rattle.std.proofs.Common.{◌≡◌, ℕ, ◌+◌, ◌-◌, ◌*◌, ◌/◌, ◌%◌, ◌<◌, refl, sym, ◌∙◌, ap, subst, arith, lit<}
use Rattle.std.proofs.Common.{mod-eq_of_lt}
use Rattle.std.proofs.Math.Nat.{zero-mod}
use Rattle.ark_groups.specs.Group.{times}
use Rattle.ark_groups.proofs.Multiples.{times-mul, times-mod}
use Rattle.number_facts.proofs.CongruenceLaws.{multiples}
use Rattle.edwards.specs.Eighths.{HasEighths, IsEightTimes}
use Rattle.edwards.specs.Laws.CurveLaws.{same_coordinates}
use Rattle.edwards.specs.Laws.Eighths.{eighth_powers_tell}
use Rattle.jubjub.specs.declared.element.Jubjub.{Jubjub}
use Rattle.jubjub.specs.Edwards.{Coordinates, cross, neutral, over, sum}
use Rattle.jubjub.specs.Edwards as modulo
use Rattle.jubjub.specs.Jubjub.{p, d, order, IsInSubgroup}
use Rattle.jubjub.specs.Elements.{coordinates, jubjub}
use Rattle.jubjub.specs.Membership.{minus_one_root, tangent_slope}
use Rattle.jubjub.specs.Theorems.{PowersTellMembers}
use Rattle.jubjub.specs.Laws.Cofactor.{cofactor_clears}
use Rattle.jubjub.specs.Laws.Completeness.{jubjub_is_complete}
use Rattle.jubjub.specs.Laws.Elements.{element, kept, same_element}
use Rattle.jubjub.specs.Laws.Group.{at-identity, at-plus}
use Rattle.jubjub.specs.Laws.Points.{Point, points, points_laws, at-times, neutral_in_subgroup, sum_in_subgroup}
use Rattle.jubjub.specs.Laws.Points.{zero_from}
use Rattle.jubjub.specs.Laws.PrimeOrder.{inverse}
use Rattle.jubjub.specs.Laws.SameFirst.{no_half, zero_by_first}

literal_some : (n : ℕ) → 0 < n → n ≡ 0 → ⊥
literal_some n l e = omega (arith, l, e)

abbrev eighths : HasEighths p d minus_one_root
eighths = record {
  r = 50753305006155864336499744617257812736403000451226296420400432122172073308246;
  of_order_eight = refl;
  some_r = literal_some 50753305006155864336499744617257812736403000451226296420400432122172073308247 (lit< tt);
  slope = tangent_slope;
  is_slope = refl;
  spread = 52080586262953175382315929470705163576918167018512685788411627977523843791168;
  is_spread = refl;
  some_spread = literal_some 52080586262953175382315929470705163576918167018512685788411627977523843791168 (lit< tt);
  root = 23674694431658770659612952115660802947967373701506253797663184111817857449850;
  is_root = refl;
  eighth = (p - 1) / 8;
  eighths = refl;
  class = minus_one_root;
  is_class = refl;
}

-- ---- members

-- a member over x = 0 is zero
zero_of : (a : Coordinates) → IsInSubgroup a → a.x ≡ 0 → a ≡ neutral
zero_of a s first =
    sym (kept a s) ∙ ap coordinates (zero_by_first (element a s) (ap (λ (c : Coordinates). c.x) (kept a s) ∙ first))
    ∙ at-identity

-- and so is one whose double is
zero_by_double : (a : Coordinates) → IsInSubgroup a → sum p d a a ≡ neutral → a ≡ neutral
zero_by_double a s twice =
    let e : Jubjub = element a s in
    sym (kept a s) ∙ ap coordinates (no_half e (same_element (jubjub.plus e e) jubjub.identity
    (at-plus e e ∙ ap (λ c. sum p d c c) (kept a s) ∙ twice ∙ sym at-identity))) ∙ at-identity

double_first : (a : Coordinates) → IsInSubgroup a → (a.x ≡ 0 → ⊥) → (sum p d a a).x ≡ 0 → ⊥
double_first a s some z =
    some (ap (λ (c : Coordinates). c.x) (zero_by_double a s (zero_of (sum p d a a) (sum_in_subgroup a a s s) z)))

-- a quotient of 0
over_none : (n k : ℕ) → n % p ≡ 0 → over p n k ≡ 0
over_none n k z = multiples p n 0 (modulo.inverse p k) (z ∙ sym (zero-mod p)) ∙ ap (λ t. t % p) (none
    (modulo.inverse p k)) ∙ zero-mod p
  where
    none : (z : ℕ) → 0 * z ≡ 0
    none z = omega arith

-- a member with an x that is not 0 has such a y
second_some : (a : Coordinates) → IsInSubgroup a → (a.x ≡ 0 → ⊥) → a.y ≡ 0 → ⊥
second_some a s some z =
    double_first a s some (over_none (a.x * a.y + a.y * a.x) (1 + cross d a a)
    (ap (λ y. (a.x * y + y * a.x) % p) z ∙ ap (λ n. n % p) (none a.x) ∙ zero-mod p))
  where
    none : (x : ℕ) → x * 0 + 0 * x ≡ 0
    none x = omega arith

squares_some : (a : Coordinates) → IsInSubgroup a → (a.x ≡ 0 → ⊥) → (a.y * a.y + a.x * a.x) % p ≡ 0 → ⊥
squares_some a s some z =
    second_some (sum p d a a) (sum_in_subgroup a a s s) (double_first a s some)
    (over_none (a.y * a.y + a.x * a.x) (1 + (p - cross d a a % p)) z)

eight_some : 8 % order ≡ 0 → ⊥
unfolding order
eight_some = literal_some 8 (lit< tt)

-- a member is 8 times a point
is_eight_times : (a : Coordinates) → IsInSubgroup a → IsEightTimes p d a
is_eight_times a s =
    let z = inverse 8 eight_some in
    let one : Point = record { at = a; on = s.on_curve } in
    let part : Point = times points z.0 one in (
      part.at,
      part.on,
      sym (at-times 8 part) ∙ ap (λ (c : Point). c.at) (sym (times-mul points_laws 8 z.0 one)
          ∙ sym (times-mod points_laws order (8 * z.0) one (zero_from a s)) ∙ ap (λ n. times points n one) z.1
          ∙ points_laws.left_identity one),
    )

-- ---- the theorem

pub powers_tell_members : PowersTellMembers
unfolding jubjub_is_complete
powers_tell_members = record {
  over_zero = λ a on first. (
    λ s. ap (λ (c : Coordinates). c.y) (zero_of a s first),
    λ second. subst IsInSubgroup (sym (same_coordinates a neutral first second)) neutral_in_subgroup,
  );
  none_at_zero = λ a on second s. second_some a s (λ first. clash second (zero_of a s first)) second;
  elsewhere = λ a on some_x some_y.
      let tells = eighth_powers_tell p d jubjub_is_complete eighths a on (λ z. some_x (sym (mod-eq_of_lt on.x_below)
      ∙ z))
      (λ z. some_y (sym (mod-eq_of_lt on.y_below) ∙ z)) in (
        λ s. tells.1 (squares_some a s some_x) (is_eight_times a s),
        λ t. let e = tells.0 t in subst IsInSubgroup e.2 (cofactor_clears e.0 e.1),
      );
}
  where
    clash : {a : Coordinates} → a.y ≡ 0 → a ≡ neutral → ⊥
    clash second e = literal_some 1 (lit< tt) (sym (ap (λ (c : Coordinates). c.y) e) ∙ second)

-- Multiples of coordinates that are written out.
use Rattle.std.proofs.Common.{◌≡◌, ℕ, zero, suc, ◌+◌, ◌-◌, ◌*◌, ◌/◌, ◌%◌, ◌^◌, ◌<◌, ◌≤◌, cond, eqb, sym, ◌∙◌, ap}
use Rattle.std.proofs.Common.{arith, pow-suc}
use Rattle.std.proofs.lemmas.Bool.{cond_both, eqb-true, eqb-false}
use Rattle.ark_groups.specs.Group.{Group, IsCommutativeGroup, times}
use Rattle.ark_groups.proofs.Multiples.{even_step, odd_step}
use Rattle.number_facts.specs.Powers.{power_mod}
use Rattle.number_facts.proofs.PowerLaws.{power_right}
use Rattle.edwards.specs.Edwards.{Coordinates, IsOnCurve, cross, inverse, sum, neutral, edwards}
use Rattle.edwards.specs.Curves.{IsComplete}
use Rattle.edwards.specs.Laws.CurveLaws.{same_coordinates}
use Rattle.edwards.specs.Laws.Points.{Point, points, points_laws, at-times}

module _ (p d : ℕ) (k : IsComplete p d) where
  abbrev P : Type 0
  P = Point p d k

  abbrev G : Group P
  G = points p d k

  laws : IsCommutativeGroup G
  laws = points_laws p d k

  fits : {m : ℕ} → 2 ≤ m → m - 1 < 2 ^ 255 → m - 2 < 2 ^ 255
  fits two l = omega (arith, two, l)

  -- the sum, with inverses that are computed
  abbrev pub quick_sum : Coordinates → Coordinates → Coordinates
  quick_sum a b =
      record {
        x = (a.x * b.y + a.y * b.x) * power_mod p 255 (1 + cross d a b) (p - 2) % p;
        y = (a.y * b.y + a.x * b.x) * power_mod p 255 (1 + (p - cross d a b % p)) (p - 2) % p;
      }

  -- n times a, for an n of at most f binary digits
  abbrev pub ladder : ℕ → ℕ → Coordinates → Coordinates
  ladder zero n a = neutral
  ladder (suc f) n a = let r = ladder f (n / 2) (quick_sum a a) in cond (eqb (n % 2) 1) (quick_sum a r) r

  quick_right : (a b : Coordinates) → sum p d a b ≡ quick_sum a b
  unfolding inverse
  quick_right a b = same_coordinates (sum p d a b) (quick_sum a b)
      (ap (λ n. (a.x * b.y + a.y * b.x) * n % p)
      (sym (power_right p 255 (1 + cross d a b) (p - 2) (fits k.generates.two k.generates.fits))))
      (ap (λ n. (a.y * b.y + a.x * b.x) * n % p)
      (sym (power_right p 255 (1 + (p - cross d a b % p)) (p - 2) (fits k.generates.two k.generates.fits))))

  -- the ladder gives the multiple of a point
  ladder_right : (f n : ℕ) (s : P) → n < 2 ^ f → ladder f n s.at ≡ (times G n s).at
  ladder_right zero n s below = ap (λ j. (times G j s).at) (none n below)
    where
      none : (n : ℕ) → n < 2 ^ 0 → 0 ≡ n
      none n l = omega arith
  ladder_right (suc f) n s below =
      let twice : P = G.plus s s in
      let rest : ladder f (n / 2) (quick_sum s.at s.at) ≡ (times G (n / 2) twice).at =
      ap (ladder f (n / 2)) (sym (quick_right s.at s.at)) ∙ ladder_right f (n / 2) twice (omega (arith, pow-suc 2 f)) in
      cond_both (eqb (n % 2) 1) (quick_sum s.at (ladder f (n / 2) (quick_sum s.at s.at)))
      (ladder f (n / 2) (quick_sum s.at s.at)) (λ t. t ≡ (times G n s).at)
      (λ odd. ap (quick_sum s.at) rest ∙ sym (quick_right s.at (times G (n / 2) twice).at)
      ∙ ap (λ (t : P). t.at) (ap (λ t. G.plus t (times G (n / 2) twice)) (sym (laws.left_identity s))
      ∙ odd_step laws n G.identity s (eqb-true (n % 2) 1 odd) ∙ laws.left_identity (times G n s)))
      (λ even. rest ∙ ap (λ (t : P). t.at) (sym (laws.left_identity (times G (n / 2) twice))
      ∙ even_step laws n G.identity s (half n (eqb-false (n % 2) 1 even)) ∙ laws.left_identity (times G n s)))
    where
      half : (n : ℕ) → (n % 2 ≡ 1 → ⊥) → n % 2 ≡ 0
      half n e = omega arith

  pub multiple_is : (f n : ℕ) (a : Coordinates) (on : IsOnCurve p d a) → n < 2 ^ f
      → times (edwards p d) n a ≡ ladder f n a
  multiple_is f n a on below =
      let s : P = record { at = a; on = on } in
      sym (at-times p d k n s) ∙ sym (ladder_right f n s below)

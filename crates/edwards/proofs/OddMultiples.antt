-- Tables of the odd multiples of a point.
use Rattle.std.proofs.Common.{◌≡◌, ℕ, suc, ◌+◌, ◌-◌, ◌*◌, ◌<◌, List, ◌∷◌, length, set, get_or, sym, ◌∙◌, ap}
use Rattle.std.proofs.Common.{subst, arith, inl, inr}
use Rattle.std.proofs.lemmas.Bool.{cases_lt}
use Rattle.std.proofs.lemmas.Grind.{get_or-set_at}
use Rattle.std.proofs.lemmas.List.{get_or-set_other}
use Rattle.ark_groups.specs.Group.{Group, times}
use Rattle.ark_groups.specs.Words.{number}
use Rattle.ark_groups.proofs.Multiples.{right_identity, times_at}
use Rattle.ark_wide_fields.specs.declared.modulus.WideModulus.{Ghosts}
use Rattle.edwards.specs.Curves.{IsComplete}
use Rattle.edwards.specs.Laws.Points.{Point, points, points_laws}
use Rattle.edwards.specs.declared.extended.cached.Cached.{Cached}
use Rattle.edwards.specs.Cached.{AreOddMultiples, IsCached, signed_multiple}
use Rattle.edwards.proofs.Balance.{multiple_low}

module _ (p d : ℕ) (k : IsComplete p d) where
  group : Group (Point p d k)
  group = points p d k

  -- a point once
  pub once : (s : Point p d k) → s ≡ times (points p d k) 1 s
  once s = sym ((points_laws p d k).left_identity s)

  -- the next odd multiple
  pub two_more : (i : ℕ) (s : Point p d k) → 0 < i
      → (points p d k).plus (times (points p d k) (2 * i - 1) s) ((points p d k).plus s s)
      ≡ times (points p d k) (2 * (i + 1) - 1) s
  two_more i s some =
      sym ((points_laws p d k).assoc (times (points p d k) (2 * i - 1) s) s s)
      ∙ times_at (points_laws p d k) {m = suc (suc (2 * i - 1))} {n = 2 * (i + 1) - 1} s (omega (arith, some))

  -- the multiple by a digit of 0 adds nothing
  pub adds_nothing : (c : ℕ) (s q : Point p d k) → c ≡ 0 → q ≡ (points p d k).plus q (signed_multiple p d k c s)
  adds_nothing c s q none =
      sym (right_identity (points_laws p d k) q)
      ∙ ap ((points p d k).plus q)
      (multiple_low p d k 0 s (omega arith) ∙ ap (λ n. signed_multiple p d k n s) (sym none))

module _ {M : Type 0} {g : Ghosts M} (d : ℕ) (k : IsComplete (number g.P) d) (s : Point (number g.P) d k) where
  -- the table begins with the point itself
  pub first_odd : (e : Cached M g) (rest : List (Cached M g)) → IsCached d e s.at → AreOddMultiples d k s 1 (e ∷ rest)
  first_odd e rest of_e i other below =
      let none : 0 ≡ i = omega (arith, below) in
      subst (λ n. IsCached d (get_or (e ∷ rest) n other) (times (points (number g.P) d k) (2 * n + 1) s).at) none
      (subst (λ (q : Point (number g.P) d k). IsCached d e q.at) (once (number g.P) d k s) of_e)

  -- one multiple more in the table
  pub next_odd : (table : List (Cached M g)) (i : ℕ) (r : Cached M g) → i < length table → AreOddMultiples d k s i table
      → IsCached d r (times (points (number g.P) d k) (2 * i + 1) s).at → AreOddMultiples d k s (i + 1) (set table i r)
  next_odd table i r within before of_r j other below =
      elim (cases_lt j i) [
        | inl less ↦ subst (λ e. IsCached d e (times (points (number g.P) d k) (2 * j + 1) s).at)
            (sym (get_or-set_other table i j r other (λ same. omega (arith, less, same)))) (before j other less)
        | inr past ↦
            let same : j ≡ i = omega (arith, below, past) in
            subst (λ e. IsCached d e (times (points (number g.P) d k) (2 * j + 1) s).at)
            (sym (get_or-set_at table i j r other same within))
            (subst (λ n. IsCached d r (times (points (number g.P) d k) (2 * n + 1) s).at) (sym same) of_r)
      ]

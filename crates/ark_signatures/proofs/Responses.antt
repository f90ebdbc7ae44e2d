-- Responses to values of polynomials.
use Rattle.std.proofs.Common.{◌≡◌, ℕ, ◌+◌, ◌-◌, ◌*◌, ◌%◌, ◌<◌, [], ◌∷◌}
use Rattle.std.proofs.Common.{refl, sym, ◌∙◌, ap, arith, mod-eq_of_lt}
use Rattle.std.proofs.Math.Nat.{mod-mod, mod-lt, mul-mod_left, add-mul-mod_self_right}
use Rattle.std.proofs.lemmas.Nat.{mul-mod_first}
use Rattle.number_facts.proofs.CongruenceLaws.{sums, products, without}
use Rattle.ark_signatures.specs.Schnorr.{response}
use Rattle.ark_signatures.specs.SecretShares.{polynomial_value, responses, ResponsesAreShares}

module _ (m : ℕ) (pos : 0 < m) where
  -- a response plus x e is k
  response_back : (x k e : ℕ) → (response m x k e + x * e) % m ≡ k % m
  response_back x k e =
      sums m _ (k + (m - x * e % m)) (x * e) (x * e % m) (mod-mod (k + (m - x * e % m)) m) (sym (mod-mod (x * e) m))
      ∙ ap (λ t. t % m) (whole k (x * e % m) m (mod-lt (x * e) pos)) ∙ add-mul-mod_self_right k 1 m
    where
      whole : (r t m : ℕ) → t < m → r + (m - t) + t ≡ r + 1 * m
      whole r t m l = omega (arith, l)

  pub responses_are : ResponsesAreShares m
  responses_are e place [] [] same = ap (λ t. (0 + (m - t)) % m) (none e m pos) ∙ whole m
    where
      none : (e m : ℕ) → 0 < m → 0 * e % m ≡ 0
      none e m pos = ap (λ t. t % m) (nothing e) ∙ mod-eq_of_lt pos
        where
          nothing : (e : ℕ) → 0 * e ≡ 0
          nothing e = omega arith

      whole : (m : ℕ) → (0 + (m - 0)) % m ≡ 0
      whole m = ap (λ t. t % m) (one m) ∙ mul-mod_left 1 m
        where
          one : (m : ℕ) → 0 + (m - 0) ≡ 1 * m
          one m = omega arith
  responses_are e place [] (k ∷ ks) same = absurd (omega (arith, same))
  responses_are e place (x ∷ xs) [] same = absurd (omega (arith, same))
  responses_are e place (x ∷ xs) (k ∷ ks) same =
      let p = polynomial_value m xs place in
      let q = polynomial_value m ks place in
      let r = polynomial_value m (responses m e xs ks) place in
      let first = response m x k e in
      let all = response m ((x + place * p) % m) ((k + place * q) % m) e in
      let behind : (r + p * e) % m ≡ q % m =
      ap (λ t. (t + p * e) % m) (sym (responses_are e place xs ks (omega (arith, same)))) ∙ response_back p q e in
      let left : (all + (x + place * p) * e) % m ≡ (k + place * q) % m =
      sums m all all _ _ refl (sym (mul-mod_first (x + place * p) e m))
      ∙ response_back ((x + place * p) % m) ((k + place * q) % m) e ∙ mod-mod (k + place * q) m in
      let right : (first + place * r + (x + place * p) * e) % m ≡ (k + place * q) % m =
      ap (λ t. t % m) (parts first place r x p e)
      ∙ sums m (first + x * e) k (place * (r + p * e)) (place * q) (response_back x k e)
      (products m place place (r + p * e) q refl behind) in
      sym (mod-mod ((k + place * q) % m + (m - (x + place * p) % m * e % m)) m)
      ∙ without m all (first + place * r) (first + place * r + (x + place * p) * e) (all + (x + place * p) * e) pos
      (turn all (first + place * r) ((x + place * p) * e)) (right ∙ sym left)
    where
      parts : (f c r x p e : ℕ) → f + c * r + (x + c * p) * e ≡ f + x * e + c * (r + p * e)
      parts f c r x p e = omega arith

      turn : (a b c : ℕ) → a + (b + c) ≡ b + (a + c)
      turn a b c = omega arith

-- The point that a signature claims.
use Rattle.std.proofs.Common.{◌≡◌, ℕ, ◌+◌, ◌-◌, ◌*◌, ◌%◌, ◌<◌, ◌==◌, Bool, false, Option, Some, Ok, refl, sym, ◌∙◌, ap, arith}
use Rattle.std.proofs.Math.Nat.{mod-add-mod, add-mod-mod, add-mod_right, mul_comm, mod-lt}
use Rattle.std.proofs.lemmas.Nat.{mul-mod_first}
use Rattle.std.proofs.lemmas.Bool.{eq-eqb}
use Rattle.std.specs.Option.{option_map_or}
use Rattle.ark_base.specs.Outcome.{Outcome, ◌>>=◌}
use Rattle.ark_groups.specs.Group.{Group, IsCommutativeGroup, times}
use Rattle.ark_groups.proofs.Multiples.{times-add, times-mul, times-mod, times-plus, times_at}
use Rattle.ark_signatures.specs.Schnorr.{response, claimed, verified, IsValid, randomised_key}

-- the response and x e make k again
pub response-again : (r k x e s : ℕ) → 0 < r → s ≡ response r x k e → (s + e * x) % r ≡ k % r
response-again r k x e s pos is_s =
    let m = (x * e) % r in
    let below : m < r = mod-lt (x * e) pos in
    let same : (e * x) % r ≡ m = ap (λ n. n % r) (mul_comm e x) in
    ap (λ n. (n + e * x) % r) is_s ∙ mod-add-mod (k + (r - m)) r (e * x) ∙ sym (add-mod-mod (k + (r - m)) (e * x) r)
    ∙ ap (λ n. (k + (r - m) + n) % r) same ∙ ap (λ n. n % r) (omega (arith, below)) ∙ add-mod_right k r

-- what is told of a point with this challenge
abbrev told : Outcome (Option ℕ) → ℕ → Outcome Bool
told outcome e = outcome >>= λ found. Ok (option_map_or (λ f. f == e) found false)

module _ {G : Type 0} {g : Group G} (laws : IsCommutativeGroup g) (r : ℕ) (pos : 0 < r) (generator : G)
    (order : times g r generator ≡ g.identity) where
  -- s G + (e x) G is k G
  sums : (k x e s : ℕ) → s ≡ response r x k e → g.plus (times g s generator) (times g (e * x) generator)
      ≡ times g k generator
  sums k x e s is_s =
      sym (times-add laws s (e * x) generator) ∙ sym (times-mod laws r (s + e * x) generator order)
      ∙ ap (λ n. times g n generator) (response-again r k x e s pos is_s) ∙ times-mod laws r k generator order

  -- a signature made with k claims k G under its key
  pub claimed-signed : (k x e s : ℕ) → s ≡ response r x k e → claimed g generator (times g x generator) (s, e)
      ≡ times g k generator
  claimed-signed k x e s is_s =
      ap (g.plus (times g s generator)) (sym (times-mul laws e x generator)) ∙ sums k x e s is_s

  -- randomised, it claims the same point under the key that is randomised alike
  pub claimed-randomised : (key : G) (m e s new : ℕ) → new ≡ response r m s e
      → claimed g generator (g.plus key (times g m generator)) (new, e) ≡ claimed g generator key (s, e)
  claimed-randomised key m e s new is_new =
      ap (g.plus (times g new generator))
      (times-plus laws e key (times g m generator) ∙ laws.comm (times g e key) (times g e (times g m generator))
      ∙ ap (λ y. g.plus y (times g e key)) (sym (times-mul laws e m generator)))
      ∙ sym (laws.assoc (times g new generator) (times g (e * m) generator) (times g e key))
      ∙ ap (λ y. g.plus y (times g e key)) (sums s m e new is_new)

  -- what is signed is valid
  pub IsValid-signed : (challenge : G → Outcome (Option ℕ)) (k x e s : ℕ) → s ≡ response r x k e
      → challenge (times g k generator) ≡ Ok (Some e)
      → IsValid g challenge generator (times g x generator) (s, e)
  IsValid-signed challenge k x e s is_s is_e =
      ap (λ (outcome : Outcome (Option ℕ)). told outcome e) (ap challenge (claimed-signed k x e s is_s) ∙ is_e)
      ∙ ap (λ (b : Bool). let o : Outcome Bool = Ok b in o) (eq-eqb e e refl)

  -- randomised, a signature is valid exactly where it was
  pub verified-randomised : (challenge : G → Outcome (Option ℕ)) (key : G) (m e s new : ℕ) → new ≡ response r m s e
      → verified g challenge generator (randomised_key g generator m key) (new, e) ≡ verified g challenge
      generator key (s, e)
  verified-randomised challenge key m e s new is_new =
      ap (λ (point : G). told (challenge point) e) (claimed-randomised key m e s new is_new)

  -- the multiplier counts modulo the order
  pub times-multiplier : (m n : ℕ) → n ≡ m % r → times g n generator ≡ times g m generator
  times-multiplier m n is_n = times_at laws {m = n} {n = m % r} generator is_n ∙ times-mod laws r m generator order

pub response-multiplier : (r m n s e : ℕ) → n ≡ m % r → response r n s e ≡ response r m s e
response-multiplier r m n s e is_n =
    ap (λ k. (s + (r - k)) % r) (ap (λ k. (k * e) % r) is_n ∙ mul-mod_first m e r)

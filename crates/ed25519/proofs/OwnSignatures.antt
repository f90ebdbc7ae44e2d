-- A signature that is made is one, and no two have the same first half.
use Rattle.std.proofs.Common.{◌≡◌, ℕ, ◌+◌, ◌-◌, ◌*◌, ◌%◌, ◌^◌, ◌<◌, ◌≤◌, List, ◌++◌, take, refl, sym, ◌∙◌, ap, ap₂}
use Rattle.std.proofs.Common.{subst, arith, mul_comm, mod-lt, lit<}
use Rattle.std.proofs.Common.{⊎_elim}
use Rattle.std.proofs.lemmas.Bool.{cases_lt}
use Rattle.std.proofs.Math.Nat.{mod-eq_of_lt}
use Rattle.ark_base.specs.Digits.{bytes_of_number}
use Rattle.ark_groups.specs.Group.{times}
use Rattle.ark_groups.proofs.Multiples.{times-add, times-mul, times-mod, times-identity, right_identity}
use Rattle.number_facts.proofs.Units.{power_inverse}
use Rattle.edwards.specs.Edwards.{sum}
use Rattle.edwards.specs.Laws.Points.{same_point}
use Rattle.ed25519.specs.Edwards25519.{p, d, order, curve, base_point, IsOnEd25519}
use Rattle.ed25519.specs.Laws.Curve.{ed25519_is_complete}
use Rattle.ed25519.specs.Laws.OrderPrime.{factors_order, generates_order}
use Rattle.ed25519.specs.Laws.Base.{base_of_order}
use Rattle.ed25519.specs.Spelling.{spelling}
use Rattle.ed25519.specs.Signatures.{challenge, IsSignature, secret, key_of, nonce, signature_of}
use Rattle.ed25519.proofs.Verifying.{P, G, laws, base, at, spelled_alone, first_of}

multiple_on : (n : ℕ) → IsOnEd25519 (times curve n base_point)
multiple_on n = subst IsOnEd25519 (at n base) ((times G n base).on)

order_zero : times G order base ≡ G.identity
order_zero = same_point p d ed25519_is_complete _ _ (at order base ∙ base_of_order)

some_order : 0 < order
unfolding order
some_order = lit< tt

pub own_signature : (seed message : List ℕ) → IsSignature (key_of seed) message (signature_of seed message)
own_signature seed message =
    let a : ℕ = secret seed in
    let r : ℕ = nonce seed message in
    let k : ℕ = challenge (spelling (times curve r base_point)) (key_of seed) message in
    record {
      public = times curve a base_point;
      public_on = multiple_on a;
      key_is = refl;
      first = times curve r base_point;
      first_on = multiple_on r;
      scalar = (r + k * a) % order;
      scalar_below = mod-lt (r + k * a) some_order;
      signature_is = refl;
      equation = sym (at ((r + k * a) % order) base) ∙ ap (λ (t : P). t.at) (times-mod laws order (r + k * a) base
          order_zero ∙ times-add laws r (k * a) base ∙ ap (G.plus (times G r base)) (times-mul laws k a base))
          ∙ ap₂ (sum p d) (at r base) (at k (times G a base) ∙ ap (times curve k) (at a base));
    }

-- ---- the order of the base point

base_some : base ≡ G.identity → ⊥
base_some e = clash (ap (λ (t : P). (t.at).x) e)
  where
    clash : base_point.x ≡ 0 → ⊥
    clash h = omega (arith, h)

whole_turns : (n : ℕ) → times G n base ≡ G.identity → (n % order ≡ 0 → ⊥) → ⊥
whole_turns n none some =
    let z : ℕ = n ^ (order - 2) % order in
    base_some (sym (laws.left_identity base)
    ∙ ap (λ k. times G k base) (sym (power_inverse order 2 (order - 1) factors_order generates_order n some))
    ∙ times-mod laws order (n * z) base order_zero ∙ ap (λ k. times G k base) (mul_comm n z)
    ∙ times-mul laws z n base ∙ ap (times G z) none ∙ times-identity laws z)

not_below : (s t : ℕ) → s < order → t < order → times G s base ≡ times G t base → s < t → ⊥
not_below s t s_below t_below e less =
    whole_turns (t - s) turned (λ none. gap s t t_below less (sym (mod-eq_of_lt (small s t t_below)) ∙ none))
  where
    small : (s t : ℕ) → t < order → t - s < order
    small s t l = omega (arith, l)

    gap : (s t : ℕ) → t < order → s < t → t - s ≡ 0 → ⊥
    gap s t l less none = omega (arith, less, none)

    split : (s t : ℕ) → s < t → t ≡ t - s + s
    split s t l = omega (arith, l)

    turned : times G (t - s) base ≡ G.identity
    turned =
        let x : P = times G s base in
        let whole : x ≡ G.plus (times G (t - s) base) x =
        e ∙ ap (λ k. times G k base) (split s t less) ∙ times-add laws (t - s) s base in
        sym (right_identity laws (times G (t - s) base)) ∙ ap (G.plus (times G (t - s) base))
        (sym (laws.left_opposite x) ∙ laws.comm (G.opposite x) x) ∙ sym (laws.assoc (times G (t - s) base) x
        (G.opposite x)) ∙ ap (λ k. G.plus k (G.opposite x)) (sym whole) ∙ laws.comm x (G.opposite x)
        ∙ laws.left_opposite x

pub same_scalar : (s t : ℕ) → s < order → t < order → times curve s base_point ≡ times curve t base_point → s ≡ t
same_scalar s t s_below t_below e =
    let points : times G s base ≡ times G t base = same_point p d ed25519_is_complete _ _ (at s base ∙ e
    ∙ sym (at t base)) in
    ⊎_elim {C = s ≡ t} (λ l. absurd (not_below s t s_below t_below points l))
    (λ l. ⊎_elim {C = s ≡ t} (λ m. absurd (not_below t s t_below s_below (sym points) m)) (λ m. both s t l m)
    (cases_lt t s)) (cases_lt s t)
  where
    both : (s t : ℕ) → t ≤ s → s ≤ t → s ≡ t
    both s t l m = omega (arith, l, m)

pub alone : (key message one other : List ℕ) → IsSignature key message one → IsSignature key message other
    → take 32 one ≡ take 32 other → one ≡ other
alone key message one other s t e =
    let key_same : s.public ≡ t.public = spelled_alone s.public t.public s.public_on t.public_on
    (sym s.key_is ∙ t.key_is) in
    let bytes : spelling s.first ≡ spelling t.first =
    sym (first_of key message one (take 32 one) _ refl refl s) ∙ e
    ∙ first_of key message other (take 32 other) _ refl refl t in
    let first_same : s.first ≡ t.first = spelled_alone s.first t.first s.first_on t.first_on bytes in
    let scalars : times curve s.scalar base_point ≡ times curve t.scalar base_point =
    s.equation ∙ ap₂ (λ r k. curve.plus r k) first_same (ap₂ (λ k a. times curve k a)
    (ap (λ b. challenge b key message) bytes) key_same) ∙ sym t.equation in
    s.signature_is ∙ ap₂ (λ b n. b ++ bytes_of_number 32 n) bytes
    (same_scalar s.scalar t.scalar s.scalar_below t.scalar_below scalars) ∙ sym t.signature_is

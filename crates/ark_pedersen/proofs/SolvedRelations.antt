-- A relation gives an element by the others.
use Rattle.std.proofs.Common.{◌≡◌, ℕ, zero, suc, ◌+◌, ◌-◌, ◌*◌, ◌/◌, ◌%◌, ◌<◌, List, [], ◌∷◌, length, sym, ap, ap₂, ◌∙◌, arith, mod-lt, div-add-mod', mul_comm}
use Rattle.std.specs.Prelude.{get_or}
use Rattle.std.proofs.Math.Nat.{mul-add, mul_assoc}
use Rattle.ark_groups.specs.Group.{Group, IsCommutativeGroup, times}
use Rattle.ark_groups.proofs.Multiples.{right_identity, times-add, times-plus, times-identity, times-mul, times-mod, times_at}
use Rattle.ark_pedersen.specs.Binding.{combination, negatives, negatives_but, RelationsGiveElements, RelationsTellElements}
use Rattle.ark_pedersen.proofs.Relations.{adds_nothing, crossed}

module _ {G : Type 0} {g : Group G} (laws : IsCommutativeGroup g) (r : ℕ) (pos : 0 < r)
    (order : (x : G) → times g r x ≡ g.identity) where
  -- a multiple's negative times z, and z times the multiple
  cancels : (z c : ℕ) (x : G) → g.plus (times g ((r - c % r) * z % r) x) (times g z (times g c x)) ≡ g.identity
  cancels z c x =
      ap₂ g.plus (times-mod laws r ((r - c % r) * z) x (order x)) (sym (times-mul laws z c x))
      ∙ sym (times-add laws ((r - c % r) * z) (z * c) x)
      ∙ times_at laws {m = (r - c % r) * z + z * c} {n = z * (1 + c / r) * r} x (whole (c % r) (c / r) (mod-lt c pos)
      (div-add-mod' c r))
      ∙ times-mul laws (z * (1 + c / r)) r x ∙ ap (times g (z * (1 + c / r))) (order x)
      ∙ times-identity laws (z * (1 + c / r))
    where
      whole : (a q : ℕ) → a < r → q * r + a ≡ c → (r - a) * z + z * c ≡ z * (1 + q) * r
      whole a q below e =
          let sum : r - a + c ≡ (1 + q) * r = omega (arith, below, e) in
          ap (λ (n : ℕ). n + z * c) (mul_comm (r - a) z) ∙ sym (mul-add z (r - a) c) ∙ ap (λ (n : ℕ). z * n) sum
          ∙ sym (mul_assoc z (1 + q) r)

  all_cancel : (z : ℕ) (cs : List ℕ) (xs : List G)
      → g.plus (combination g (negatives r z cs) xs) (times g z (combination g cs xs)) ≡ g.identity
  unfolding combination
  all_cancel z [] xs = ap (g.plus g.identity) (times-identity laws z) ∙ laws.left_identity g.identity
  all_cancel z (c ∷ cs) [] = ap (g.plus g.identity) (times-identity laws z) ∙ laws.left_identity g.identity
  all_cancel z (c ∷ cs) (x ∷ xs) =
      let d = times g ((r - c % r) * z % r) x in
      let others = combination g (negatives r z cs) xs in
      ap (g.plus (g.plus d others)) (times-plus laws z (times g c x) (combination g cs xs))
      ∙ crossed laws d others (times g z (times g c x)) (times g z (combination g cs xs))
      ∙ ap₂ g.plus (cancels z c x) (all_cancel z cs xs) ∙ laws.left_identity g.identity

  -- all but the element at the place cancel
  others_cancel : (place z : ℕ) (cs : List ℕ) (xs : List G) → place < length cs → place < length xs
      → g.plus (combination g (negatives_but r z place cs) xs) (times g z (combination g cs xs))
      ≡ times g z (times g (get_or cs place 0) (get_or xs place g.identity))
  unfolding combination negatives_but
  others_cancel place z [] xs within inside = absurd (omega (arith, within))
  others_cancel place z (c ∷ cs) [] within inside = absurd (omega (arith, inside))
  others_cancel zero z (c ∷ cs) (x ∷ xs) within inside =
      ap (g.plus (g.plus g.identity (combination g (negatives r z cs) xs))) (times-plus laws z (times g c x)
      (combination g cs xs))
      ∙ crossed laws g.identity (combination g (negatives r z cs) xs) (times g z (times g c x))
      (times g z (combination g cs xs))
      ∙ ap₂ g.plus (laws.left_identity (times g z (times g c x))) (all_cancel z cs xs)
      ∙ right_identity laws (times g z (times g c x))
  others_cancel (suc place) z (c ∷ cs) (x ∷ xs) within inside =
      let d = times g ((r - c % r) * z % r) x in
      ap (g.plus (g.plus d (combination g (negatives_but r z place cs) xs))) (times-plus laws z (times g c x)
      (combination g cs xs))
      ∙ crossed laws d (combination g (negatives_but r z place cs) xs) (times g z (times g c x))
      (times g z (combination g cs xs))
      ∙ ap₂ g.plus (cancels z c x) (others_cancel place z cs xs (omega (arith, within)) (omega (arith, inside)))
      ∙ laws.left_identity (times g z (times g (get_or cs place 0) (get_or xs place g.identity)))

  pub give_elements : RelationsGiveElements g r
  give_elements place z cs xs within inside one none =
      let c = get_or cs place 0 in
      let x = get_or xs place g.identity in
      sym (laws.left_identity x) ∙ sym (times_at laws {m = c * z % r} {n = 1} x one)
      ∙ times-mod laws r (c * z) x (order x) ∙ times_at laws {m = c * z} {n = z * c} x (mul_comm c z)
      ∙ times-mul laws z c x ∙ sym (others_cancel place z cs xs within inside)
      ∙ ap (g.plus (combination g (negatives_but r z place cs) xs)) (ap (times g z) none ∙ times-identity laws z)
      ∙ right_identity laws (combination g (negatives_but r z place cs) xs)

  pub tell_elements : ((n : ℕ) (x : G) → times g n x ≡ g.identity → (n % r ≡ 0 → ⊥) → x ≡ g.identity)
      → RelationsTellElements g r
  tell_elements prime c x y others some first second =
      let d = g.plus x (g.opposite y) in
      let back : g.plus d y ≡ x =
      laws.assoc x (g.opposite y) y ∙ ap (g.plus x) (laws.left_opposite y) ∙ right_identity laws x in
      let none : times g c d ≡ g.identity =
      adds_nothing laws (times g c d) (times g c y) (sym (times-plus laws c d y) ∙ ap (times g c) back
      ∙ same (times g c x) (times g c y) first second) in
      sym back ∙ ap (λ (t : G). g.plus t y) (prime c d none some) ∙ laws.left_identity y
    where
      -- what is zero with the others is one element
      same : (a b : G) → g.plus a others ≡ g.identity → g.plus b others ≡ g.identity → a ≡ b
      same a b zero_a zero_b =
          sym (right_identity laws a) ∙ ap (g.plus a) (sym zero_b) ∙ ap (g.plus a) (laws.comm b others)
          ∙ sym (laws.assoc a others b) ∙ ap (λ (t : G). g.plus t b) zero_a ∙ laws.left_identity b

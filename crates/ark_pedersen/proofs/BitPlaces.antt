-- Sums of the elements at set bits, place by place.
use Rattle.std.proofs.Common.{◌≡◌, ℕ, zero, suc, ◌+◌, ◌<◌, ◌≤◌, Bool, true, false, List, [], ◌∷◌, length, drop, get_or}
use Rattle.std.proofs.Common.{sym, ap, ◌∙◌, arith, cond}
use Rattle.std.proofs.lemmas.List.{drop_all}
use Rattle.ark_groups.specs.Group.{Group, IsCommutativeGroup}
use Rattle.ark_groups.proofs.Multiples.{right_identity}
use Rattle.ark_pedersen.specs.Pedersen.{pedersen_sum}
use Rattle.ark_pedersen.proofs.PedersenSums.{pedersen_sum-none}

module _ {G : Type 0} (g : Group G) where
  -- the sum from a place on, by its bit
  sum_at : (xs : List G) (bits : List Bool) (i : ℕ) (x : G) → i < length xs → i < length bits → get_or xs i x ≡ x
      → pedersen_sum g (drop i xs) (drop i bits)
      ≡ cond (get_or bits i false) (g.plus x (pedersen_sum g (drop (suc i) xs) (drop (suc i) bits)))
      (pedersen_sum g (drop (suc i) xs) (drop (suc i) bits))
  unfolding pedersen_sum
  sum_at [] bits i x l h is = absurd (omega (arith, l))
  sum_at (y ∷ xs) [] i x l h is = absurd (omega (arith, h))
  sum_at (y ∷ xs) (b ∷ bits) zero x l h is =
      ap (λ t. cond b (g.plus t (pedersen_sum g xs bits)) (pedersen_sum g xs bits)) is
  sum_at (y ∷ xs) (b ∷ bits) (suc i) x l h is = sum_at xs bits i x (omega (arith, l)) (omega (arith, h)) is

  module _ (laws : IsCommutativeGroup g) (xs : List G) (bits : List Bool) where
    abbrev pub rest : ℕ → G
    rest i = pedersen_sum g (drop i xs) (drop i bits)

    -- the element at a set bit is added
    pub one_added : (sum new x whole : G) (i : ℕ) → i < length xs → i < length bits → get_or xs i x ≡ x
        → get_or bits i false ≡ true → new ≡ g.plus sum x → g.plus sum (rest i) ≡ whole
        → g.plus new (rest (i + 1)) ≡ whole
    one_added sum new x whole i l h is on is_new e =
        let next : i + 1 ≡ suc i = omega arith in
        let behind = rest (suc i) in
        ap (λ k. g.plus new (rest k)) next ∙ ap (λ t. g.plus t behind) is_new ∙ laws.assoc _ _ _
        ∙ ap (g.plus sum) (sym (sum_at xs bits i x l h is ∙ ap (λ b. cond b (g.plus x behind) behind) on)) ∙ e

    -- the element at another bit is not
    pub one_left : (sum new x whole : G) (i : ℕ) → i < length xs → i < length bits → get_or xs i x ≡ x
        → get_or bits i false ≡ false → new ≡ sum → g.plus sum (rest i) ≡ whole → g.plus new (rest (i + 1)) ≡ whole
    one_left sum new x whole i l h is off is_new e =
        let next : i + 1 ≡ suc i = omega arith in
        let behind = rest (suc i) in
        ap (λ k. g.plus new (rest k)) next ∙ ap (λ t. g.plus t behind) is_new
        ∙ ap (g.plus sum) (sym (sum_at xs bits i x l h is ∙ ap (λ b. cond b (g.plus x behind) behind) off)) ∙ e

    -- nothing is left in the end
    pub all_added : (sum whole : G) (i : ℕ) → length bits ≤ i → g.plus sum (rest i) ≡ whole → sum ≡ whole
    all_added sum whole i l e =
        sym (ap (g.plus sum) (ap (pedersen_sum g (drop i xs)) (drop_all i bits l) ∙ pedersen_sum-none laws (drop i xs))
        ∙ right_identity laws sum)
        ∙ e

-- A value, what a map makes of it, and so on.
use Rattle.std.proofs.Common.{◌≡◌, ℕ, zero, suc, ◌+◌, ◌-◌, ◌≤◌, List, [], ◌∷◌, ◌++◌, length, append_assoc, refl, sym, ap, ◌∙◌, arith}
use Rattle.std.proofs.lemmas.List.{append-nil}
use Rattle.ark_groups.specs.Group.{Group, IsCommutativeGroup, times}
use Rattle.ark_pedersen.specs.Pedersen.{iterates, doublings}

module _ {A : Type 0} (next : A → A) where
  pub length-iterates : (count : ℕ) (x : A) → length (iterates next count x) ≡ count
  unfolding iterates
  length-iterates zero x = refl
  length-iterates (suc count) x = ap suc (length-iterates count (next x))

  -- one value more was put
  pub one_put : (front new : List A) (x after : A) (count i : ℕ) (whole : List A) → i + 1 ≤ count
      → new ≡ front ++ x ∷ []
      → after ≡ next x → front ++ iterates next (count - i) x ≡ whole
      → new ++ iterates next (count - (i + 1)) after ≡ whole
  unfolding iterates
  one_put front new x after count i whole more put is_next so_far =
      let one : count - i ≡ suc (count - (i + 1)) = omega arith in
      ap (λ (t : List A). t ++ iterates next (count - (i + 1)) after) put
      ∙ ap (λ (y : A). (front ++ x ∷ []) ++ iterates next (count - (i + 1)) y) is_next
      ∙ append_assoc front (x ∷ []) _
      ∙ ap (λ (n : ℕ). front ++ iterates next n x) (sym one)
      ∙ so_far

  -- all were put
  pub all_put : (front : List A) (x : A) (count i : ℕ) (whole : List A) → count ≤ i
      → front ++ iterates next (count - i) x ≡ whole → front ≡ whole
  unfolding iterates
  all_put front x count i whole done so_far =
      let none : count - i ≡ 0 = omega arith in
      sym (ap (λ (n : ℕ). front ++ iterates next n x) none ∙ append-nil front) ∙ so_far

module _ {G : Type 0} {g : Group G} (laws : IsCommutativeGroup g) where
  pub twice : (x : G) → times g 2 x ≡ g.plus x x
  twice x = ap (λ y. g.plus y x) (laws.left_identity x)

  -- the double of an element is it twice
  pub doublings-iterates : (count : ℕ) → (λ (x : G). iterates (times g 2) count x) ≡ doublings g count
  doublings-iterates count = λ i. iterates (λ y. twice y i) count

-- Lists in which each element is the one before it, doubled.
use Rattle.std.proofs.Common.{◌≡◌, ℕ, zero, suc, ◌+◌, ◌-◌, ◌<◌, ◌≤◌, Bool, true, false, not, List, [], ◌∷◌, length, get_or, refl, sym, ap, ◌∙◌, arith}
use Rattle.std.proofs.lemmas.List.{get_or_default}
use Rattle.ark_groups.specs.Group.{Group}
use Rattle.ark_pedersen.proofs.Iterates.{length-iterates}
use Rattle.ark_pedersen.specs.Pedersen.{iterates, doublings}

pub clash : (b : Bool) → not b ≡ true → b ≡ true → ⊥
clash true differ same = absurd cc
clash false differ same = absurd cc

module _ {G : Type 0} (g : Group G) where
  -- in front of a place each element is the one before it, doubled
  abbrev pub DoubledTo : List G → ℕ → Type 0
  DoubledTo xs i = (j : ℕ) (d : G) → suc j < i → get_or xs (suc j) d ≡ g.plus (get_or xs j d) (get_or xs j d)

  pub all-doubled : (x : G) (xs : List G) → DoubledTo (x ∷ xs) (suc (length xs))
      → x ∷ xs ≡ doublings g (suc (length xs)) x
  unfolding iterates
  all-doubled x [] doubled = refl
  all-doubled x (y ∷ ys) doubled =
      let next : y ≡ g.plus x x = doubled 0 x (omega arith) in
      let rest = all-doubled y ys (λ j d lt. doubled (suc j) d (omega (arith, lt))) in
      ap (λ l. x ∷ l) (rest ∙ ap (λ z. iterates (λ v. g.plus v v) (suc (length ys)) z) next)

  pub doubled-at : (n : ℕ) (x : G) → DoubledTo (doublings g n x) n
  unfolding iterates
  doubled-at zero x j d lt = absurd (omega (arith, lt))
  doubled-at (suc zero) x j d lt = absurd (omega (arith, lt))
  doubled-at (suc (suc n)) x zero d lt = refl
  doubled-at (suc (suc n)) x (suc j) d lt = doubled-at (suc n) (g.plus x x) j d (omega (arith, lt))

  -- a whole list, each element of which is doubled in the next
  pub whole-list : (xs : List G) (x : G) (n i : ℕ) → length xs ≡ n → 0 < n → n ≤ i → DoubledTo xs i → x ≡ get_or xs 0 x
      → xs ≡ doublings g n x
  whole-list [] x n i long some end doubled first = absurd (omega (arith, long, some))
  whole-list (y ∷ ys) x n i long some end doubled first =
      all-doubled y ys (λ j d lt. doubled j d (omega (arith, lt, long, end)))
      ∙ ap (λ k. doublings g k y) long ∙ ap (doublings g n) (sym first)

  -- an element that is not the double of the one before it stands in no list of doublings
  pub not-doubled : (xs : List G) (n i : ℕ) (a b r e : G) → 1 ≤ i → i < n → a ≡ get_or xs i a → b ≡ get_or xs (i - 1) b
      → r ≡ g.plus b b → (a ≡ r → ⊥) → xs ≡ doublings g n e → ⊥
  not-doubled xs n i a b r e some below a-is b-is r-is differ is =
      let next : suc (i - 1) ≡ i = omega (arith, some) in
      let within : i < length xs = omega (arith, below, ap length is ∙ length-iterates (λ y. g.plus y y) n e) in
      let step : get_or xs i b ≡ g.plus (get_or xs (i - 1) b) (get_or xs (i - 1) b) =
      ap (λ k. get_or xs k b) (sym next) ∙ ap (λ l. get_or l (suc (i - 1)) b) is
      ∙ doubled-at n e (i - 1) b (omega (arith, some, below))
      ∙ ap (λ l. g.plus (get_or l (i - 1) b) (get_or l (i - 1) b)) (sym is) in
      differ (a-is ∙ get_or_default xs i a b within ∙ step ∙ ap (λ y. g.plus y y) (sym b-is) ∙ sym r-is)

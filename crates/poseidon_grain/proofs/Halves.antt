-- The constants of Poseidon2 in the three parts in which they are drawn.
use Rattle.std.proofs.Common.{◌≡◌, ℕ, ◌-◌, ◌/◌, List, ap, ◌∙◌}
use Rattle.poseidon_grain.specs.Grain.{seeded, below_drawn, list_drawn}
use Rattle.poseidon_grain.specs.Poseidon2.{DrawnConstants, poseidon2_drawn}

module _ (p digits width full partial : ℕ) where
  abbrev element : ℕ → ℕ × ℕ
  element = below_drawn p digits

  abbrev row : ℕ → List ℕ × ℕ
  row = list_drawn element width

  -- `r0` stands before the first row, `r1` and `r2` behind the parts
  pub drawn-parts : (r0 r1 r2 r3 : ℕ) (first last : List (List ℕ)) (middle : List ℕ)
      → r0 ≡ seeded digits width full partial → ◌≡◌ {A = List (List ℕ) × ℕ} (first, r1) (list_drawn row (full / 2) r0)
      → ◌≡◌ {A = List ℕ × ℕ} (middle, r2) (list_drawn element partial r1)
      → ◌≡◌ {A = List (List ℕ) × ℕ} (last, r3) (list_drawn row (full - full / 2) r2)
      → ◌≡◌ {A = DrawnConstants} (record { first = first; partial = middle; last = last })
      (poseidon2_drawn p digits width full partial)
  unfolding poseidon2_drawn
  drawn-parts r0 r1 r2 r3 first last middle seed one two three =
      let draw = list_drawn row (full / 2) in
      let begun : ◌≡◌ {A = List (List ℕ) × ℕ} (first, r1) (draw (seeded digits width full partial)) =
      one ∙ ap draw seed in
      let behind : r1 ≡ (draw (seeded digits width full partial)).1 = ap (λ (t : List (List ℕ) × ℕ). t.1) begun in
      let next : ◌≡◌ {A = List ℕ × ℕ} (middle, r2)
      (list_drawn element partial (draw (seeded digits width full partial)).1) =
      two ∙ ap (list_drawn element partial) behind in
      let after = ap (λ (t : List ℕ × ℕ). t.1) next in
      let end = three ∙ ap (list_drawn row (full - full / 2)) after in
      λ i. record { first = (begun i).0; partial = (next i).0; last = (end i).0 }

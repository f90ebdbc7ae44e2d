-- The changes that a list lends, from a place on.
use Rattle.std.proofs.Common.{◌≡◌, ℕ, ◌+◌, Bor, List, ◌++◌, take, drop, ap, sym, ◌∙◌}
use Rattle.std.proofs.lemmas.List.{take-map, drop-map, take-append-drop, drop-drop}
use Rattle.std.specs.List.{zip}
use Rattle.ark_merkle.specs.Changed.{seen_changes}

module _ {A : Type 0} (xs : List (ℕ × Bor A)) where
  abbrev lend : ℕ × Bor A → ℕ × A
  lend change = (change.0, change.1.now)

  abbrev lent : List (ℕ × A)
  lent = seen_changes (λ (leaf : Bor A). leaf.now) xs

  -- the next ones, which are parted
  pub lent-run : (n count : ℕ) (places : List ℕ) (leaves : List A)
      → zip places leaves ≡ seen_changes (λ (leaf : Bor A). leaf.now) (take count (drop n xs))
      → drop n lent ≡ zip places leaves ++ drop (n + count) lent
  lent-run n count places leaves parts =
      let run : take count (drop n lent) ≡ zip places leaves =
      ap (take count) (drop-map lend n xs) ∙ take-map lend count (drop n xs) ∙ sym parts in
      sym (take-append-drop count (drop n lent)) ∙ (λ i. run i ++ drop-drop count n lent i)

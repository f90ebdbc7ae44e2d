-- The tree of two entries, level by level.
use Rattle.std.proofs.Common.{zero, suc, ◌≡◌, ℕ, ◌+◌, ◌-◌, ◌<◌, Bool, true, false, not, cond, if◌then◌else◌, List, ◌∷◌, arith, refl, ap, sym, ◌∙◌}
use Rattle.std.specs.Str.{bytes_eq}
use Rattle.merkle_map.specs.Map.{Entry, bit_of, key_bits}
use Rattle.merkle_map.specs.Tree.{Shape, Empty, One, Fork, way, IsKey}
use Rattle.merkle_map.specs.Changes.{two_of}
use Rattle.merkle_map.proofs.Keys.{bits_left}

module _ (level : ℕ) (x y : Entry) (inside : level < 256) where
  -- what the next bits make of it
  abbrev by_bits : Bool → Bool → ℕ → Shape
  by_bits p q next =
      if p then (if q then Fork Empty (two_of (256 - (level + 1)) next x y) else Fork (One y) (One x))
      else (if q then Fork (One x) (One y) else Fork (two_of (256 - (level + 1)) next x y) Empty)

  pub two-next : (p q : Bool) → bit_of level x.key ≡ p → bit_of level y.key ≡ q
      → two_of (256 - level) level x y ≡ by_bits p q (level + 1)
  two-next p q own other =
      let fuel : 256 - level ≡ suc (256 - (level + 1)) = omega (arith, inside) in
      let next : suc level ≡ level + 1 = omega arith in
      let known : two_of (suc (256 - (level + 1))) level x y ≡ by_bits p q (suc level) = rw (own, other) refl in
      ap (λ (n : ℕ). two_of n level x y) fuel ∙ known ∙ ap (by_bits p q) next

-- What holds at the level where two keys part, and level by level above, holds of the tree of their entries.
module _ (x y : Entry) (x_key : IsKey x.key) (y_key : IsKey y.key) (differ : bytes_eq y.key x.key ≡ false)
    (P : ℕ → Shape → Type 0)
    (beside : (bits level : ℕ) (b : Bool) → level < key_bits → way level x.key ≡ way level y.key
    → bit_of level x.key ≡ b → bit_of level y.key ≡ b → P (suc level) (two_of bits (suc level) x y)
    → P level (cond b (Fork Empty (two_of bits (suc level) x y)) (Fork (two_of bits (suc level) x y) Empty)))
    (apart : (level : ℕ) (b : Bool) → level < key_bits → way level x.key ≡ way level y.key
    → bit_of level x.key ≡ b → bit_of level y.key ≡ not b
    → P level (cond b (Fork (One y) (One x)) (Fork (One x) (One y)))) where
  pub two_holds : (bits level : ℕ) → bits + level ≡ 256 → way level x.key ≡ way level y.key
      → P level (two_of bits level x y)
  two_holds zero level sum together =
      let inside = bits_left level x.key y.key x_key y_key (omega (arith, sum)) together differ in absurd (omega
      (arith, sum, inside))
  two_holds (suc bits) level sum together = by_bits
      (λ same. two_holds bits (suc level) (omega (arith, sum)) (ap (λ (b : Bool). b ∷ way level x.key) same
      ∙ ap (λ (bits : List Bool). bit_of level y.key ∷ bits) together))
      (bit_of level x.key) (bit_of level y.key) refl refl
    where
      inside : level < key_bits
      inside = omega (arith, sum)

      by_bits : (bit_of level x.key ≡ bit_of level y.key → P (suc level) (two_of bits (suc level) x y))
          → (p q : Bool) → bit_of level x.key ≡ p → bit_of level y.key ≡ q
          → P level (if p then (if q then Fork Empty (two_of bits (suc level) x y) else Fork (One y) (One x))
          else (if q then Fork (One x) (One y) else Fork (two_of bits (suc level) x y) Empty))
      by_bits below true true p q = beside bits level true inside together p q (below (p ∙ sym q))
      by_bits below true false p q = apart level true inside together p q
      by_bits below false true p q = apart level false inside together p q
      by_bits below false false p q = beside bits level false inside together p q (below (p ∙ sym q))

-- What a tree has at a key, each map that it shows has.
use Rattle.std.proofs.Common.{suc, ◌≡◌, ℕ, Bool, true, false, if◌then◌else◌, Ok, Option, None, List, refl, ap, sym, ◌∙◌}
use Rattle.ark_base.specs.declared.error.Error.{Error}
use Rattle.ark_base.specs.Laws.Steps.{done_injective}
use Rattle.merkle_map.specs.Map.{Key, Digest, Entry, MapHashes, bit_of, side, value_at}
use Rattle.merkle_map.specs.Tree.{Shape, Empty, One, Fork, Hidden, Shows}
use Rattle.merkle_map.specs.Changes.{known_at, own_value}
use Rattle.merkle_map.proofs.Bound.{value_at-side}

module _ (h : MapHashes) (key : Key) where
  pub known-shown : (level : ℕ) (shape : Shape) (entries : List Entry) (value : Option Digest)
      → Shows h level shape entries
      → known_at level key shape ≡ Ok value → value_at key entries ≡ value
  known-shown level Empty entries value shown is = ap (value_at key) shown ∙ done_injective {E = Error} None value is
  known-shown level (One entry) entries value shown is =
      ap (value_at key) shown ∙ done_injective {E = Error} (own_value key entry) value is
  known-shown level (Hidden d) entries value shown is = absurd cc
  known-shown level (Fork left right) entries value shown is = by_bit
      (known-shown (suc level) left (side false level entries) value shown.2)
      (known-shown (suc level) right (side true level entries) value shown.3) (bit_of level key) refl is
    where
      by_bit : (known_at (suc level) key left ≡ Ok value → value_at key (side false level entries) ≡ value)
          → (known_at (suc level) key right ≡ Ok value → value_at key (side true level entries) ≡ value)
          → (b : Bool) → bit_of level key ≡ b
          → (if b then known_at (suc level) key right else known_at
          (suc level) key left) ≡ Ok value → value_at key entries ≡ value
      by_bit on_left on_right true bit is = sym (value_at-side key level entries)
          ∙ ap (λ (b : Bool). value_at key (side b level entries)) bit ∙ on_right is
      by_bit on_left on_right false bit is = sym (value_at-side key level entries)
          ∙ ap (λ (b : Bool). value_at key (side b level entries)) bit ∙ on_left is

-- The order of keys.
use Rattle.std.proofs.Common.{◌≡◌, ◌⊎◌, ◌<◌, ℕ, zero, suc, Bool, true, false, List, ◌∷◌, length, arith, ap, sym, ◌∙◌, subst, inl, inr}
use Rattle.std.proofs.lemmas.Bool.{cases_order}
use Rattle.merkle_map.specs.Map.{Key, bit_of}
use Rattle.merkle_map.specs.Order.{IsKeyBelow}
use Rattle.merkle_map.specs.Tree.{way}
use Rattle.merkle_map.proofs.Wholes.{heads}

pub bits-alike : (n i : ℕ) (a b : Key) → way n a ≡ way n b → i < n → bit_of i a ≡ bit_of i b
bits-alike zero i a b same inside = absurd (omega (arith, inside))
bits-alike (suc n) i a b same inside =
    by_order (cases_order i n) (heads (bit_of n a) (bit_of n b) (way n a) (way n b) same) (bits-alike n i a b)
  where
    by_order : (i ≡ n) ⊎ ((i < n) ⊎ (n < i)) → (bit_of n a ≡ bit_of n b) × (way n a ≡ way n b)
        → (way n a ≡ way n b → i < n → bit_of i a ≡ bit_of i b) → bit_of i a ≡ bit_of i b
    by_order (inl here) both rest = ap (λ j. bit_of j a) here ∙ both.0 ∙ ap (λ j. bit_of j b) (sym here)
    by_order (inr (inl before)) both rest = rest both.1 before
    by_order (inr (inr behind)) both rest = absurd (omega (arith, behind, inside))

pub not_both : (a b : Key) → IsKeyBelow a b → ¬ IsKeyBelow b a
not_both a b p q = by_order (cases_order p.level q.level)
  where
    by_order : (p.level ≡ q.level) ⊎ ((p.level < q.level) ⊎ (q.level < p.level)) → ⊥
    by_order (inl same) =
        let high : bit_of p.level a ≡ true = subst (λ n. bit_of n a ≡ true) (sym same) q.high in
        let low = p.low in absurd cc
    by_order (inr (inl before)) =
        let alike = bits-alike q.level p.level b a q.alike before in
        let low = p.low in let high = p.high in absurd cc
    by_order (inr (inr before)) =
        let alike = bits-alike p.level q.level a b p.alike before in
        let low = q.low in let high = q.high in absurd cc

pub not_itself : (a : Key) → ¬ IsKeyBelow a a
not_itself a p = let low = p.low in let high = p.high in absurd cc

-- a key with 0 where another has 1 is below it
pub across : (bits : List Bool) (a b : Key) → length bits < 256 → way (suc (length bits)) a ≡ false ∷ bits
    → way (suc (length bits)) b ≡ true ∷ bits → IsKeyBelow a b
across bits a b inside on_a on_b =
    let level = length bits in
    let p = heads (bit_of level a) false (way level a) bits on_a in
    let q = heads (bit_of level b) true (way level b) bits on_b in
    record { level = level; inside = inside; alike = p.1 ∙ sym q.1; low = p.0; high = q.0 }

-- Two keys of the same 256 bits are the same.
use Rattle.std.proofs.Common.{zero, suc, ◌≡◌, ℕ, ◌+◌, ◌-◌, ◌*◌, ◌/◌, ◌%◌, ◌^◌, ◌<◌, ◌≤◌, ◌==◌, ◌≢◌, ◌⊎◌, inl, inr, Bool, true, false, List, [], ◌∷◌, length, get_or, arith, refl, ap, sym, ◌∙◌, subst}
use Rattle.std.proofs.lemmas.List.{ext_get_or}
use Rattle.std.proofs.lemmas.Bool.{cases_lt}
use Rattle.std.proofs.lemmas.Bool.Decides.{Decides-eqb}
use Rattle.std.proofs.lemmas.Slice.Eq.{bytes_eq-Decides}
use Rattle.std.specs.Str.{bytes_eq}
use Rattle.merkle_map.specs.Map.{Key, bit_of}
use Rattle.merkle_map.specs.Tree.{way, IsKey}

-- the way is as long as the level
pub length-way : (level : ℕ) (key : Key) → length (way level key) ≡ level
length-way zero key = refl
length-way (suc level) key = let ih = length-way level key in omega (arith, ih)

heads : (a b : Bool) (xs ys : List Bool) → a ∷ xs ≡ b ∷ ys → (a ≡ b) × (xs ≡ ys)
heads a b xs ys e = (
  ap (λ (l : List Bool). elim l [ [] ↦ a | x ∷ rest ↦ x ]) e,
  ap (λ (l : List Bool). elim l [
    | [] ↦ xs
    | x ∷ rest ↦
        rest
  ]) e,
)

-- keys with one way have the same bits on it
pub same_bit : (level i : ℕ) (a b : Key) → way level a ≡ way level b → i < level → bit_of i a ≡ bit_of i b
same_bit zero i a b e inside = absurd (omega arith)
same_bit (suc level) i a b e inside =
    let parts = heads (bit_of level a) (bit_of level b) (way level a) (way level b) e in
    elim (last i inside) [
      | inl below ↦ same_bit level i a b parts.1 below
      | inr is ↦ subst (λ
          (n : ℕ). bit_of n a ≡ bit_of n b) (sym is) parts.0
    ]
  where
    last : (i : ℕ) → i < suc level → (i < level) ⊎ (i ≡ level)
    last i h = elim (cases_lt i level) [ inl below ↦ inl below | inr above ↦ inr (omega (arith, h, above)) ]

-- ---- bytes of the same bits

bit_at : (k j : ℕ) (key : Key) → j < 8 → bit_of (8 * k + j) key ≡ ((get_or key k 0 / 2 ^ (7 - j)) % 2 == 1)
bit_at k j key inside =
    let q : (8 * k + j) / 8 ≡ k = omega (arith, inside) in
    let r : (8 * k + j) % 8 ≡ j = omega (arith, inside) in
    rw (q, r) refl

parity : (p q : ℕ) → (p % 2 == 1) ≡ (q % 2 == 1) → p % 2 ≡ q % 2
parity p q e = by_test (p % 2 == 1) (q % 2 == 1) refl refl e
  where
    by_test : (a b : Bool) → (p % 2 == 1) ≡ a → (q % 2 == 1) ≡ b → a ≡ b → p % 2 ≡ q % 2
    by_test true true s t e = (Decides-eqb (p % 2) 1).0 s ∙ sym ((Decides-eqb (q % 2) 1).0 t)
    by_test true false s t e = absurd cc
    by_test false true s t e = absurd cc
    by_test false false s t e =
        let np : p % 2 ≢ 1 = λ is. let yes = (Decides-eqb (p % 2) 1).1 is in absurd cc in
        let nq : q % 2 ≢ 1 = λ is. let yes = (Decides-eqb (q % 2) 1).1 is in absurd cc in
        omega (arith, np, nq)

same_byte : (x y : ℕ) → x < 256 → y < 256 → ((j : ℕ) → j < 8 → (x / 2 ^ (7 - j)) % 2 ≡ (y / 2 ^ (7 - j)) % 2) → x ≡ y
same_byte x y fx fy same =
    let p0 : (x / 128) % 2 ≡ (y / 128) % 2 = same 0 (omega arith) in
    let p1 : (x / 64) % 2 ≡ (y / 64) % 2 = same 1 (omega arith) in
    let p2 : (x / 32) % 2 ≡ (y / 32) % 2 = same 2 (omega arith) in
    let p3 : (x / 16) % 2 ≡ (y / 16) % 2 = same 3 (omega arith) in
    let p4 : (x / 8) % 2 ≡ (y / 8) % 2 = same 4 (omega arith) in
    let p5 : (x / 4) % 2 ≡ (y / 4) % 2 = same 5 (omega arith) in
    let p6 : (x / 2) % 2 ≡ (y / 2) % 2 = same 6 (omega arith) in
    let p7 : (x / 1) % 2 ≡ (y / 1) % 2 = same 7 (omega arith) in
    let s0 : x / 128 ≡ y / 128 = omega (arith, p0, fx, fy) in
    let s1 : x / 64 ≡ y / 64 = omega (arith, p1, s0) in
    let s2 : x / 32 ≡ y / 32 = omega (arith, p2, s1) in
    let s3 : x / 16 ≡ y / 16 = omega (arith, p3, s2) in
    let s4 : x / 8 ≡ y / 8 = omega (arith, p4, s3) in
    let s5 : x / 4 ≡ y / 4 = omega (arith, p5, s4) in
    let s6 : x / 2 ≡ y / 2 = omega (arith, p6, s5) in
    omega (arith, p7, s6)

-- keys of one whole way are the same
pub same_keys : (a b : Key) → IsKey a → IsKey b → way 256 a ≡ way 256 b → a ≡ b
same_keys a b is_a is_b e = ext_get_or 0 a b (is_a.0 ∙ sym is_b.0) (λ k inside.
    same_byte (get_or a k 0) (get_or b k 0) (is_a.1 k) (is_b.1 k) (λ j below.
    let at : 8 * k + j < 256 = omega (arith, inside, is_a.0, below) in
    parity (get_or a k 0 / 2 ^ (7 - j)) (get_or b k 0 / 2 ^ (7 - j))
    (sym (bit_at k j a below) ∙ same_bit 256 (8 * k + j) a b e at ∙ bit_at k j b below)))

-- so different keys of one way have bits left
pub bits_left : (level : ℕ) (a b : Key) → IsKey a → IsKey b → level ≤ 256 → way level a ≡ way level b
    → bytes_eq b a ≡ false → level < 256
bits_left level a b is_a is_b within together differ = elim (cases_lt level 256) [
  | inl below ↦ below
  | inr above ↦
      let last : level ≡ 256 = omega (arith, within, above) in
      let same = same_keys a b is_a is_b (subst (λ (n : ℕ). way n a ≡ way n b) last together) in
      let yes = (bytes_eq-Decides b a).1 (sym same) in
      absurd cc
]

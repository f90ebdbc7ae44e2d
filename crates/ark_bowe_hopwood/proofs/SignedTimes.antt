-- An element as often as a whole number says, in a commutative group.
use Rattle.std.proofs.Common.{◌≡◌, ℕ, suc, ◌+◌, ◌*◌, Bool, true, false, cond, ℤ, pos, negsuc, ◌+ℤ◌, ◌*ℤ◌, refl, sym, ap, ◌∙◌, arith}
use Rattle.std.proofs.lemmas.Int.{ints}
use Rattle.ark_groups.specs.Group.{Group, IsCommutativeGroup, times}
use Rattle.ark_groups.proofs.Multiples.{right_identity, times_at, times-add, times-plus, times-identity, times-mul}
use Rattle.ark_pedersen.proofs.Iterates.{twice}
use Rattle.ark_pedersen.proofs.Relations.{crossed}
use Rattle.ark_bowe_hopwood.specs.BoweHopwood.{digit, signed_times}

-- a whole number is the difference of two naturals
abbrev up : ℤ → ℕ
up (pos n) = n
up (negsuc n) = 0

abbrev down : ℤ → ℕ
down (pos n) = 0
down (negsuc n) = suc n

module _ {G : Type 0} {g : Group G} (laws : IsCommutativeGroup g) where
  -- what adds up to zero with an element is its opposite
  opposite-alone : (a x : G) → g.plus a x ≡ g.identity → a ≡ g.opposite x
  opposite-alone a x none =
      sym (right_identity laws a) ∙ ap (g.plus a) (sym (laws.comm _ _ ∙ laws.left_opposite x)) ∙ sym (laws.assoc _ _ _)
      ∙ ap (λ y. g.plus y (g.opposite x)) none ∙ laws.left_identity _

  times-opposite : (n : ℕ) (x : G) → times g n (g.opposite x) ≡ g.opposite (times g n x)
  times-opposite n x =
      opposite-alone _ _ (sym (times-plus laws n (g.opposite x) x) ∙ ap (times g n) (laws.left_opposite x)
      ∙ times-identity laws n)

  -- ---- a digit

  -- the element, or its opposite, once and then as often as two bits say
  pub digit-times : (a b c : Bool) (x : G) → signed_times g (digit (a, b, c)) x
      ≡ times g (suc (cond a 1 0 + cond b 2 0)) (cond c (g.opposite x) x)
  digit-times true true true x = sym (times-opposite 4 x)
  digit-times true true false x = refl
  digit-times true false true x = sym (times-opposite 2 x)
  digit-times true false false x = refl
  digit-times false true true x = sym (times-opposite 3 x)
  digit-times false true false x = refl
  digit-times false false true x = sym (times-opposite 1 x)
  digit-times false false false x = refl

  once : (x : G) → times g 1 x ≡ x
  once x = laws.left_identity x

  -- one or two of an element are added, then none or two of it
  pub digit-added : (a b : Bool) (sum x : G) → g.plus sum (times g (suc (cond a 1 0 + cond b 2 0)) x)
      ≡ cond b (g.plus (g.plus sum (cond a (g.plus x x) x)) (g.plus x x)) (g.plus sum (cond a (g.plus x x) x))
  digit-added true true sum x = ap (g.plus sum) (times-add laws 2 2 x ∙ ap (g.plus (times g 2 x)) (twice laws x)
      ∙ ap (λ y. g.plus y (g.plus x x)) (twice laws x)) ∙ sym (laws.assoc _ _ _)
  digit-added true false sum x = ap (g.plus sum) (twice laws x)
  digit-added false true sum x = ap (g.plus sum) (times-add laws 1 2 x ∙ ap (g.plus (times g 1 x)) (twice laws x)
      ∙ ap (λ y. g.plus y (g.plus x x)) (once x)) ∙ sym (laws.assoc _ _ _)
  digit-added false false sum x = ap (g.plus sum) (once x)

  -- ---- sums and products of whole numbers

  -- m of an element, and n of its opposite
  abbrev less : ℕ → ℕ → G → G
  less m n x = g.plus (times g m x) (times g n (g.opposite x))

  none-left : (n : ℕ) (x : G) → g.plus (times g n x) (times g n (g.opposite x)) ≡ g.identity
  none-left n x = ap (g.plus (times g n x)) (times-opposite n x) ∙ laws.comm _ _ ∙ laws.left_opposite _

  signed_times-less : (z : ℤ) (m n : ℕ) (x : G) → z +ℤ pos n ≡ pos m → signed_times g z x ≡ less m n x
  signed_times-less (pos k) m n x e =
      let sum : m ≡ k + n = omega (arith, ints) in
      sym (ap (λ y. g.plus y (times g n (g.opposite x))) (times_at laws {m = m} {n = k + n} x sum
      ∙ times-add laws k n x)
      ∙ laws.assoc _ _ _ ∙ ap (g.plus (times g k x)) (none-left n x) ∙ right_identity laws _)
  signed_times-less (negsuc k) m n x e =
      let sum : n ≡ m + suc k = omega (arith, ints) in
      sym (ap (g.plus (times g m x)) (times_at laws {m = n} {n = m + suc k} (g.opposite x) sum ∙ times-add laws m
      (suc k) (g.opposite x))
      ∙ sym (laws.assoc _ _ _) ∙ ap (λ y. g.plus y (times g (suc k) (g.opposite x))) (none-left m x)
      ∙ laws.left_identity _ ∙ times-opposite (suc k) x)

  parts : (z : ℤ) → z +ℤ pos (down z) ≡ pos (up z)
  parts (pos n) = omega (arith, ints)
  parts (negsuc n) = omega (arith, ints)

  signed_times-parts : (z : ℤ) (x : G) → signed_times g z x ≡ less (up z) (down z) x
  signed_times-parts z x = signed_times-less z (up z) (down z) x (parts z)

  pub signed_times-add : (a b : ℤ) (x : G) → signed_times g (a +ℤ b) x ≡ g.plus (signed_times g a x)
      (signed_times g b x)
  signed_times-add a b x =
      let first = parts a in
      let second = parts b in
      signed_times-less (a +ℤ b) (up a + up b) (down a + down b) x (omega (arith, ints))
      ∙ ap (λ y. g.plus y (times g (down a + down b) (g.opposite x))) (times-add laws (up a) (up b) x)
      ∙ ap (g.plus (g.plus (times g (up a) x) (times g (up b) x))) (times-add laws (down a) (down b) (g.opposite x))
      ∙ crossed laws _ _ _ _
      ∙ ap (λ y. g.plus y (less (up b) (down b) x)) (sym (signed_times-parts a x))
      ∙ ap (g.plus (signed_times g a x)) (sym (signed_times-parts b x))

  pub signed_times-times : (z : ℤ) (k : ℕ) (x : G) → signed_times g z (times g k x) ≡ signed_times g (pos k *ℤ z) x
  signed_times-times z k x =
      signed_times-parts z (times g k x)
      ∙ ap (λ y. g.plus y (times g (down z) (g.opposite (times g k x)))) (sym (times-mul laws (up z) k x))
      ∙ ap (λ y. g.plus (times g (up z * k) x) (times g (down z) y)) (sym (times-opposite k x))
      ∙ ap (g.plus (times g (up z * k) x)) (sym (times-mul laws (down z) k (g.opposite x)))
      ∙ sym (signed_times-less (pos k *ℤ z) (up z * k) (down z * k) x (product z))
    where
      product : (z : ℤ) → pos k *ℤ z +ℤ pos (down z * k) ≡ pos (up z * k)
      product (pos n) = let turned : k * n ≡ n * k = grind arith in omega (arith, ints)
      product (negsuc n) = let turned : k * suc n ≡ suc n * k = grind arith in omega (arith, ints)

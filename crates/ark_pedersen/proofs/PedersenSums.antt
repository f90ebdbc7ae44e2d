-- Sums of the elements at set bits.
use Rattle.std.proofs.Common.{◌≡◌, ℕ, zero, suc, ◌+◌, ◌*◌, Bool, true, false, ◌&&◌, ◌||◌, List, [], ◌∷◌, ◌++◌, length, take, drop, map, refl, sym, ap, ◌∙◌, arith}
use Rattle.ark_groups.specs.Group.{Group, IsCommutativeGroup, times}
use Rattle.ark_groups.proofs.Multiples.{times_at, times-plus, times-add}
use Rattle.ark_groups.specs.Bits.{number_of_bits}
use Rattle.ark_pedersen.specs.Pedersen.{union, AreDisjoint, pedersen_sum, iterates, doublings, windows_sum, concatenation}
use Rattle.ark_pedersen.proofs.Iterates.{length-iterates}

pub take-take : {A : Type 0} (n : ℕ) (xs : List A) → take n (take n xs) ≡ take n xs
take-take zero xs = refl
take-take (suc n) [] = refl
take-take (suc n) (x ∷ xs) = ap (λ t. x ∷ t) (take-take n xs)

module _ {G : Type 0} {g : Group G} (laws : IsCommutativeGroup g) where
  pub pedersen_sum-none : (xs : List G) → pedersen_sum g xs [] ≡ g.identity
  unfolding pedersen_sum
  pedersen_sum-none [] = refl
  pedersen_sum-none (x ∷ xs) = refl

  -- under lists that share no set bit, the sum of the union is that of the two sums
  pub pedersen_sum-union : (xs : List G) (a b : List Bool) → length a ≡ length b → AreDisjoint a b → pedersen_sum g xs
      (union a b) ≡ g.plus (pedersen_sum g xs a) (pedersen_sum g xs b)
  unfolding pedersen_sum union AreDisjoint
  pedersen_sum-union [] a b same apart = sym (laws.left_identity _)
  pedersen_sum-union (x ∷ xs) [] [] same apart = sym (laws.left_identity _)
  pedersen_sum-union (x ∷ xs) [] (b ∷ bs) same apart = absurd (omega arith)
  pedersen_sum-union (x ∷ xs) (a ∷ as_bits) [] same apart = absurd (omega arith)
  pedersen_sum-union (x ∷ xs) (a ∷ as_bits) (b ∷ bs) same apart =
      by_bits a b apart.0 (pedersen_sum-union xs as_bits bs (omega arith) apart.1)
    where
      by_bits : (a b : Bool) → (a && b) ≡ false → pedersen_sum g xs (union as_bits bs)
          ≡ g.plus (pedersen_sum g xs as_bits) (pedersen_sum g xs bs)
          → pedersen_sum g (x ∷ xs) ((a || b) ∷ union as_bits bs) ≡ g.plus (pedersen_sum g (x ∷ xs) (a ∷ as_bits))
          (pedersen_sum g (x ∷ xs) (b ∷ bs))
      by_bits true true e h = absurd cc
      by_bits true false e h = ap (g.plus x) h ∙ sym (laws.assoc _ _ _)
      by_bits false true e h = ap (g.plus x) h ∙ sym (laws.assoc _ _ _) ∙ ap (λ s. g.plus s (pedersen_sum g xs bs))
          (laws.comm _ _) ∙ laws.assoc _ _ _
      by_bits false false e h = h

  -- the elements behind are at the bits behind
  pub pedersen_sum-append : (xs ys : List G) (bits : List Bool) → pedersen_sum g (xs ++ ys) bits
      ≡ g.plus (pedersen_sum g xs (take (length xs) bits)) (pedersen_sum g ys (drop (length xs) bits))
  unfolding pedersen_sum
  pedersen_sum-append [] ys bits = sym (laws.left_identity _)
  pedersen_sum-append (x ∷ xs) ys [] = sym (ap (g.plus g.identity) (pedersen_sum-none ys) ∙ laws.left_identity _)
  pedersen_sum-append (x ∷ xs) ys (true ∷ bits) = ap (g.plus x) (pedersen_sum-append xs ys bits)
      ∙ sym (laws.assoc _ _ _)
  pedersen_sum-append (x ∷ xs) ys (false ∷ bits) = pedersen_sum-append xs ys bits

  -- the bits behind are at the elements behind
  pub pedersen_sum-behind : (xs : List G) (a b : List Bool) → pedersen_sum g xs (a ++ b) ≡ g.plus (pedersen_sum g xs a)
      (pedersen_sum g (drop (length a) xs) b)
  unfolding pedersen_sum
  pedersen_sum-behind xs [] b = sym (ap (λ s. g.plus s (pedersen_sum g xs b)) (pedersen_sum-none xs)
      ∙ laws.left_identity _)
  pedersen_sum-behind [] (a ∷ as_bits) b = sym (laws.left_identity _)
  pedersen_sum-behind (x ∷ xs) (true ∷ as_bits) b = ap (g.plus x) (pedersen_sum-behind xs as_bits b)
      ∙ sym (laws.assoc _ _ _)
  pedersen_sum-behind (x ∷ xs) (false ∷ as_bits) b = pedersen_sum-behind xs as_bits b

  -- over an element with its doublings, the sum is a multiple of it
  pub pedersen_sum-doublings : (count : ℕ) (x : G) (bits : List Bool) → pedersen_sum g (doublings g count x) bits
      ≡ times g (number_of_bits (take count bits)) x
  unfolding pedersen_sum iterates number_of_bits
  pedersen_sum-doublings zero x bits = refl
  pedersen_sum-doublings (suc count) x [] = refl
  pedersen_sum-doublings (suc count) x (b ∷ bits) =
      let n = number_of_bits (take count bits) in
      let twice : times g n (g.plus x x) ≡ times g (n + n) x = times-plus laws n x x ∙ sym (times-add laws n n x) in
      by_bit b (pedersen_sum-doublings count (g.plus x x) bits ∙ twice)
    where
      by_bit : (b : Bool) → pedersen_sum g (doublings g count (g.plus x x)) bits
          ≡ times g (number_of_bits (take count bits) + number_of_bits (take count bits)) x
          → pedersen_sum g (x ∷ doublings g count (g.plus x x)) (b ∷ bits)
          ≡ times g (number_of_bits (b ∷ take count bits)) x
      by_bit true h =
          let n = number_of_bits (take count bits) in
          ap (g.plus x) h ∙ laws.comm _ _ ∙ times_at laws {m = suc (n + n)} {n = 1 + 2 * n} x (omega arith)
      by_bit false h =
          let n = number_of_bits (take count bits) in
          h ∙ times_at laws {m = n + n} {n = 0 + 2 * n} x (omega arith)

  -- over elements with their doublings, the sum is that of the windows
  pub pedersen_sum-windows : (size : ℕ) (elements : List G) (bits : List Bool) → pedersen_sum g
      (concatenation (map (doublings g size) elements)) bits ≡ windows_sum g size elements bits
  unfolding pedersen_sum windows_sum
  pedersen_sum-windows size [] bits = refl
  pedersen_sum-windows size (x ∷ elements) bits =
      let here = doublings g size x in
      let long : length here ≡ size = length-iterates (λ y. g.plus y y) size x in
      pedersen_sum-append here (concatenation (map (doublings g size) elements)) bits
      ∙ ap (λ (n : ℕ). g.plus (pedersen_sum g here (take n bits))
      (pedersen_sum g (concatenation (map (doublings g size) elements)) (drop n bits))) long
      ∙ ap (λ (s : G). g.plus s (pedersen_sum g (concatenation (map (doublings g size) elements)) (drop size bits)))
      (pedersen_sum-doublings size x (take size bits) ∙ ap (λ (t : List Bool). times g (number_of_bits t) x)
      (take-take size bits))
      ∙ ap (g.plus (times g (number_of_bits (take size bits)) x)) (pedersen_sum-windows size elements (drop size bits))

-- Shares in lists, and the steps of loops over them.
use Rattle.std.proofs.Common.{◌≡◌, ℕ, zero, suc, ◌+◌, ◌-◌, ◌*◌, ◌%◌, ◌^◌, ◌<◌, ◌≤◌, List, [], ◌∷◌, ◌++◌, length, map, get_or}
use Rattle.std.proofs.Common.{refl, sym, ◌∙◌, ap, ap₂, arith, take, drop, ◌⊎◌, inl, inr, mod-eq_of_lt, ◌==◌, true, false}
use Rattle.std.proofs.Math.Nat.{mod-mod, add-mod-mod}
use Rattle.std.proofs.Math.Seq.{drop-cons}
use Rattle.std.proofs.lemmas.Bool.{cases_lt}
use Rattle.std.proofs.lemmas.Bool.Decides.{eqb_tells}
use Rattle.std.proofs.lemmas.List.{take_more, get_or-map, length-map}
use Rattle.std.proofs.lemmas.Nat.{mul-mod_second}
use Rattle.number_facts.specs.Primes.{IsPrime}
use Rattle.number_facts.proofs.CongruenceLaws.{sums, multiples, products}
use Rattle.number_facts.proofs.PrimeLaws.{euclid}
use Rattle.ark_signatures.specs.declared.secret_shares.Share.{Share}
use Rattle.ark_signatures.specs.SecretShares.{polynomial_value, lagrange_weight, lagrange_sum, ratio, ArePlaces}
use Rattle.ark_signatures.specs.SecretShares.{numbers_of_shares, share_places}
use Rattle.ark_signatures.proofs.AnySecret.{ValuesBelow}
use Rattle.ark_signatures.proofs.Interpolation.{AllBelow, weight_at, weight_other, ratio_back}

pub length-places : {F : Type 0} (value : F → ℕ) (shares : List (Share F))
    → length (share_places value shares) ≡ length shares
length-places value [] = refl
length-places value (s ∷ shares) = ap suc (length-places value shares)

-- the place of the share at an index
pub place_at : {F : Type 0} (value : F → ℕ) (shares : List (Share F)) (i : ℕ) (d : Share F) → i < length shares
    → get_or (share_places value shares) i 0 ≡ value (get_or shares i d).place
place_at value [] i d l = absurd (omega (arith, l))
place_at value (s ∷ shares) zero d l = refl
place_at value (s ∷ shares) (suc i) d l = place_at value shares i d (omega (arith, l))

-- the numbers of the share at an index
pub numbers_at : {F : Type 0} (value : F → ℕ) (shares : List (Share F)) (i : ℕ) (d : Share F) (e : ℕ × ℕ)
    → i < length shares → d ≡ get_or shares i d
    → get_or (numbers_of_shares value shares) i e ≡ (value d.place, value d.value)
numbers_at value [] i d e l is = absurd (omega (arith, l))
numbers_at value (s ∷ shares) zero d e l is = ap (λ t. (value t.place, value t.value)) (sym is)
numbers_at value (s ∷ shares) (suc i) d e l is = numbers_at value shares i d e (omega (arith, l)) is

pub length-numbers : {F : Type 0} (value : F → ℕ) (shares : List (Share F))
    → length (numbers_of_shares value shares) ≡ length shares
length-numbers value [] = refl
length-numbers value (s ∷ shares) = ap suc (length-numbers value shares)

-- places of elements are below the modulus
pub places_below : {F : Type 0} (value : F → ℕ) (m : ℕ) → ((x : F) → value x < m) → (shares : List (Share F))
    → AllBelow m (share_places value shares)
places_below value m below [] = tt
places_below value m below (s ∷ shares) = (below s.place, places_below value m below shares)

-- and so are values of shares
pub values_below : {F : Type 0} (value : F → ℕ) (m : ℕ) → ((x : F) → value x < m) → (shares : List (Share F))
    → ValuesBelow m (numbers_of_shares value shares)
values_below value m below [] = tt
values_below value m below (s ∷ shares) = (below s.value, values_below value m below shares)

-- ---- elements

pub elements_below : {F : Type 0} (value : F → ℕ) (m : ℕ) → ((x : F) → value x < m) → (xs : List F)
    → AllBelow m (map value xs)
elements_below value m below [] = tt
elements_below value m below (x ∷ xs) = (below x, elements_below value m below xs)

-- the elements of numbers below the modulus
pub elements_of : {F : Type 0} (value : F → ℕ) (m : ℕ) → ((n : ℕ) → n < m → (x : F) × (value x ≡ n)) → (ns : List ℕ)
    → AllBelow m ns → (xs : List F) × (map value xs ≡ ns)
elements_of value m made [] below = ([], refl)
elements_of value m made (n ∷ ns) below =
    let x = made n below.0 in
    let xs = elements_of value m made ns below.1 in
    (x.0 ∷ xs.0, ap₂ (λ a b. a ∷ b) x.1 xs.1)

-- elements with the same numbers are the same
pub same_elements : {F : Type 0} (value : F → ℕ) → ((x y : F) → value x ≡ value y → x ≡ y) → (xs ys : List F)
    → map value xs ≡ map value ys → xs ≡ ys
same_elements value same [] [] e = refl
same_elements value same [] (y ∷ ys) e = absurd (none (ap length e))
  where
    none : 0 ≡ suc (length (map value ys)) → ⊥
    none e = omega (arith, e)
same_elements value same (x ∷ xs) [] e = absurd (none (ap length e))
  where
    none : suc (length (map value xs)) ≡ 0 → ⊥
    none e = omega (arith, e)
same_elements value same (x ∷ xs) (y ∷ ys) e =
    ap₂ (λ a b. a ∷ b) (same x y (ap (λ t. get_or t 0 0) e)) (same_elements value same xs ys (ap (drop 1) e))

-- ---- places

-- one more place, that is not 0 and none of those before it
pub more_places : (places : List ℕ) (j next : ℕ) → ArePlaces places j → next ≡ suc j → (get_or places j 0 ≡ 0 → ⊥)
    → ((i : ℕ) → i < j → get_or places i 0 ≡ get_or places j 0 → ⊥) → ArePlaces places next
more_places places j next on is some other = record {
  some = λ k l e. at k (omega (arith, l, is)) e (cases_lt k j);
  different = λ i k l r e. both i k l (omega (arith, r, is)) e (cases_lt k j);
}
  where
    at : (k : ℕ) → k < suc j → get_or places k 0 ≡ 0 → (k < j) ⊎ (j ≤ k) → ⊥
    at k l e (inl below) = on.some k below e
    at k l e (inr above) = some (ap (λ t. get_or places t 0) (same k j l above) ∙ e)
      where
        same : (k j : ℕ) → k < suc j → j ≤ k → j ≡ k
        same k j l above = omega (arith, l, above)

    both : (i k : ℕ) → i < k → k < suc j → get_or places i 0 ≡ get_or places k 0 → (k < j) ⊎ (j ≤ k) → ⊥
    both i k l r e (inl below) = on.different i k l below e
    both i k l r e (inr above) =
        other i (omega (arith, l, r, above)) (e ∙ ap (λ t. get_or places t 0) (same k j r above))
      where
        same : (k j : ℕ) → k < suc j → j ≤ k → k ≡ j
        same k j l above = omega (arith, l, above)

-- each index below i, and i
pub none_below : (places : List ℕ) (i next place : ℕ) → next ≡ suc i
    → ((j : ℕ) → j < i → get_or places j 0 ≡ place → ⊥) → (get_or places i 0 ≡ place → ⊥)
    → (j : ℕ) → j < next → get_or places j 0 ≡ place → ⊥
none_below places i next place is before here j l e = at (cases_lt j i)
  where
    at : (j < i) ⊎ (i ≤ j) → ⊥
    at (inl below) = before j below e
    at (inr above) = here (ap (λ t. get_or places t 0) (same i j next is l above) ∙ e)
      where
        same : (i j next : ℕ) → next ≡ suc i → j < next → i ≤ j → i ≡ j
        same i j next is l above = omega (arith, is, l, above)

-- ---- Horner's rule

-- one coefficient more
pub horner_step : {F : Type 0} (value : F → ℕ) (m : ℕ) (coefficients : List F) (i x : ℕ) (c : F)
    → i < length coefficients → c ≡ get_or coefficients i c
    → polynomial_value m (drop i (map value coefficients)) x
    ≡ (value c + x * polynomial_value m (drop (suc i) (map value coefficients)) x % m) % m
horner_step value m coefficients i x c l is =
    let cs = map value coefficients in
    let rest = polynomial_value m (drop (suc i) cs) x in
    let first : get_or cs i 0 ≡ value c = get_or-map value coefficients i c 0 l ∙ sym (ap value is) in
    ap (λ t. polynomial_value m t x) (drop-cons cs i 0 (omega (arith, l, length-map coefficients value)))
    ∙ ap (λ t. (t + x * rest) % m) first ∙ sym (add-mod-mod (value c) (x * rest) m)

-- ---- products

-- a product of numbers but 0 is not 0
pub some_product : (m d b : ℕ) → IsPrime m → d < m → b < m → (d ≡ 0 → ⊥) → (b ≡ 0 → ⊥) → d * b % m ≡ 0 → ⊥
some_product m d b prime dl bl some other none =
    other (sym (mod-eq_of_lt bl) ∙ euclid m d b prime (λ e. some (sym (mod-eq_of_lt dl) ∙ e)) none)

-- ---- fractions

-- modulo m, the first number is k times the second
abbrev pub IsFraction : ℕ → ℕ → ℕ × ℕ → Type 0
IsFraction m k f = f.0 % m ≡ k * f.1 % m

module _ (m : ℕ) where
  -- the weight by one more place
  weight_more : (zs : List ℕ) (z x : ℕ) → (z ≡ x → ⊥)
      → lagrange_weight m (zs ++ z ∷ []) x % m ≡ ratio m z x * lagrange_weight m zs x % m
  weight_more [] z x other = ap (λ t. t % m) (weight_other m z x [] other) ∙ mod-mod (ratio m z x * 1) m
  weight_more (y ∷ zs) z x other = at (weight_more zs z x other) (eqb_tells y x)
    where
      turn : (a b c : ℕ) → a * (b * c) ≡ b * (a * c)
      turn a b c = omega arith

      at : lagrange_weight m (zs ++ z ∷ []) x % m ≡ ratio m z x * lagrange_weight m zs x % m
          → ((y == x) ≡ true) × (y ≡ x) ⊎ ((y == x) ≡ false) × (y ≡ x → ⊥)
          → lagrange_weight m (y ∷ zs ++ z ∷ []) x % m ≡ ratio m z x * lagrange_weight m (y ∷ zs) x % m
      at behind (inl is) =
          ap (λ t. t % m) (weight_at m y x (zs ++ z ∷ []) is.1) ∙ behind
          ∙ ap (λ t. ratio m z x * t % m) (sym (weight_at m y x zs is.1))
      at behind (inr is) =
          let w = lagrange_weight m zs x in
          ap (λ t. t % m) (weight_other m y x (zs ++ z ∷ []) is.1)
          ∙ mod-mod (ratio m y x * lagrange_weight m (zs ++ z ∷ []) x) m
          ∙ products m _ _ _ _ refl behind ∙ ap (λ t. t % m) (turn (ratio m y x) (ratio m z x) w)
          ∙ sym (mul-mod_second (ratio m z x) (ratio m y x * w) m)
          ∙ ap (λ t. ratio m z x * t % m) (sym (weight_other m y x zs is.1))

  weight_stays : (zs : List ℕ) (z x : ℕ) → z ≡ x → lagrange_weight m (zs ++ z ∷ []) x ≡ lagrange_weight m zs x
  weight_stays [] z x same = weight_at m z x [] same
  weight_stays (y ∷ zs) z x same = at (weight_stays zs z x same) (eqb_tells y x)
    where
      at : lagrange_weight m (zs ++ z ∷ []) x ≡ lagrange_weight m zs x
          → ((y == x) ≡ true) × (y ≡ x) ⊎ ((y == x) ≡ false) × (y ≡ x → ⊥)
          → lagrange_weight m (y ∷ zs ++ z ∷ []) x ≡ lagrange_weight m (y ∷ zs) x
      at behind (inl is) = weight_at m y x (zs ++ z ∷ []) is.1 ∙ behind ∙ sym (weight_at m y x zs is.1)
      at behind (inr is) =
          weight_other m y x (zs ++ z ∷ []) is.1 ∙ ap (λ t. ratio m y x * t % m) behind
          ∙ sym (weight_other m y x zs is.1)

  -- the sum with one more share
  sum_more : (places : List ℕ) (shares : List (ℕ × ℕ)) (share : ℕ × ℕ)
      → lagrange_sum m places (shares ++ share ∷ []) % m
      ≡ (lagrange_sum m places shares + share.1 * lagrange_weight m places share.0) % m
  sum_more places [] share = mod-mod _ m ∙ ap (λ t. t % m) (turn (share.1 * lagrange_weight m places share.0))
    where
      turn : (a : ℕ) → a + 0 ≡ 0 + a
      turn a = omega arith
  sum_more places (s ∷ shares) share =
      let y = s.1 * lagrange_weight m places s.0 in
      let w = lagrange_sum m places shares in
      let z = share.1 * lagrange_weight m places share.0 in
      mod-mod _ m ∙ sums m y y _ _ refl (sum_more places shares share) ∙ ap (λ t. t % m) (turn y w z)
      ∙ sums m _ _ z z (sym (mod-mod (y + w) m)) refl
    where
      turn : (a b c : ℕ) → a + (b + c) ≡ a + b + c
      turn a b c = omega arith

  -- ---- fractions

  -- the same number, written as another
  pub same_fraction : (k l : ℕ) (f : ℕ × ℕ) → k % m ≡ l % m → IsFraction m k f → IsFraction m l f
  same_fraction k l f e is = is ∙ multiples m k l f.1 e

  pub fractions_product : (k l : ℕ) (f g h : ℕ × ℕ) → IsFraction m k f → IsFraction m l g
      → h.0 ≡ f.0 * g.0 % m → h.1 ≡ f.1 * g.1 % m → IsFraction m (k * l) h
  fractions_product k l f g h first second above below =
      ap (λ t. t % m) above ∙ mod-mod (f.0 * g.0) m ∙ products m f.0 (k * f.1) g.0 (l * g.1) first second
      ∙ ap (λ t. t % m) (turn k f.1 l g.1) ∙ sym (mul-mod_second (k * l) (f.1 * g.1) m)
      ∙ ap (λ t. k * l * t % m) (sym below)
    where
      turn : (k d l e : ℕ) → k * d * (l * e) ≡ k * l * (d * e)
      turn k d l e = omega arith

  pub fractions_sum : (k l : ℕ) (f g h : ℕ × ℕ) → IsFraction m k f → IsFraction m l g
      → h.0 ≡ (f.0 * g.1 % m + g.0 * f.1 % m) % m → h.1 ≡ f.1 * g.1 % m → IsFraction m (k + l) h
  fractions_sum k l f g h first second above below =
      ap (λ t. t % m) above ∙ mod-mod (f.0 * g.1 % m + g.0 * f.1 % m) m
      ∙ sums m (f.0 * g.1 % m) (k * f.1 * g.1) (g.0 * f.1 % m) (l * g.1 * f.1)
      (mod-mod (f.0 * g.1) m ∙ multiples m f.0 (k * f.1) g.1 first)
      (mod-mod (g.0 * f.1) m ∙ multiples m g.0 (l * g.1) f.1 second)
      ∙ ap (λ t. t % m) (turn k f.1 l g.1) ∙ sym (mul-mod_second (k + l) (f.1 * g.1) m)
      ∙ ap (λ t. (k + l) * t % m) (sym below)
    where
      turn : (k d l e : ℕ) → k * d * e + l * e * d ≡ (k + l) * (d * e)
      turn k d l e = omega arith

  -- the quotient in the end
  pub quotient : (k inverse : ℕ) (f : ℕ × ℕ) → k % m ≡ k → IsFraction m k f → f.1 * inverse % m ≡ 1
      → f.0 * inverse % m ≡ k
  quotient k inverse f below is one =
      multiples m f.0 (k * f.1) inverse is ∙ ap (λ t. t % m) (turn k f.1 inverse)
      ∙ sym (mul-mod_second k (f.1 * inverse) m) ∙ ap (λ t. k * t % m) one ∙ ap (λ t. t % m) (alone k) ∙ below
    where
      turn : (k d i : ℕ) → k * d * i ≡ k * (d * i)
      turn k d i = omega arith

      alone : (k : ℕ) → k * 1 ≡ k
      alone k = omega arith

  -- ---- a share's fraction

  pub fraction_begins : (x y n d : ℕ) → n ≡ y → d ≡ 1 → IsFraction m (y * lagrange_weight m [] x) (n, d)
  fraction_begins x y n d is_n is_d = ap (λ t. t % m) (is_n ∙ one y) ∙ ap (λ t. y * 1 * t % m) (sym is_d)
    where
      one : (y : ℕ) → y ≡ y * 1 * 1
      one y = omega arith

  -- the place itself is skipped
  pub weight_skips : (places : List ℕ) (i x : ℕ) → i < length places → get_or places i 0 ≡ x
      → lagrange_weight m (take (i + 1) places) x ≡ lagrange_weight m (take i places) x
  weight_skips places i x l is =
      ap (λ t. lagrange_weight m t x) (take_more places i 0 l) ∙ weight_stays (take i places) (get_or places i 0) x is

  -- another place z is taken
  pub weight_takes : (places : List ℕ) (i z x y : ℕ) → i < length places → get_or places i 0 ≡ z → (z ≡ x → ⊥)
      → y * lagrange_weight m (take i places) x * ratio m z x % m ≡ y * lagrange_weight m (take (i + 1) places) x % m
  weight_takes places i z x y l is other =
      let w = lagrange_weight m (take i places) x in
      let more : lagrange_weight m (take (i + 1) places) x % m ≡ ratio m z x * w % m =
      ap (λ t. lagrange_weight m t x % m) (take_more places i 0 l)
      ∙ weight_more (take i places) (get_or places i 0) x (λ same. other (sym is ∙ same))
      ∙ ap (λ t. ratio m t x * w % m) is in
      ap (λ t. t % m) (turn y w (ratio m z x)) ∙ products m y y (ratio m z x * w) _ refl (sym more)
    where
      turn : (y w r : ℕ) → y * w * r ≡ y * (r * w)
      turn y w r = omega arith

  -- z over z - x
  pub ratio_fraction : (2 ≤ m) → ((y : ℕ) → (y % m ≡ 0 → ⊥) → y * (y ^ (m - 2) % m) % m ≡ 1)
      → (z x difference : ℕ) → z < m → x < m → (z ≡ x → ⊥) → difference ≡ (z + (m - x)) % m
      → IsFraction m (ratio m z x) (z, difference)
  ratio_fraction two invert z x difference zl xl other is =
      sym (ratio_back m two invert z x zl xl other) ∙ sym (mul-mod_second (ratio m z x) (z + (m - x)) m)
      ∙ ap (λ t. ratio m z x * t % m) (sym is)

  -- ---- the sum of fractions

  -- one more share
  pub sum_takes : (places : List ℕ) (numbers : List (ℕ × ℕ)) (i : ℕ) (share : ℕ × ℕ) → i < length numbers
      → get_or numbers i share ≡ share
      → (lagrange_sum m places (take i numbers) + share.1 * lagrange_weight m places share.0) % m
      ≡ lagrange_sum m places (take (i + 1) numbers) % m
  sum_takes places numbers i share l is =
      sym (sum_more places (take i numbers) share)
      ∙ ap (λ t. lagrange_sum m places t % m)
      (ap (λ t. take i numbers ++ t ∷ []) (sym is) ∙ sym (take_more numbers i share l))

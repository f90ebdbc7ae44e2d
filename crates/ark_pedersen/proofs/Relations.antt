-- Two inputs with one sum over the windows give a relation among the elements.
use Rattle.std.proofs.Common.{◌≡◌, ℕ, zero, suc, ◌+◌, ◌-◌, ◌*◌, ◌/◌, ◌%◌, ◌^◌, ◌<◌, ◌≤◌, Bool, true, false, List, [], ◌∷◌}
use Rattle.std.proofs.Common.{◌++◌, length, take, drop, refl, sym, ◌∙◌, ap, ap₂, arith, mod-lt, mod-eq_of_lt, div-add-mod'}
use Rattle.std.proofs.Common.{pow-suc, lit<, eqb, All, ◌⊎◌, inl, inr, subst, cond, append_assoc, Ok, Err}
use Rattle.std.specs.Prelude.{if◌then◌else◌, nat_lt, nat_le, IfOk}
use Rattle.std.proofs.Math.Nat.{add-mul-mod_self_right}
use Rattle.std.proofs.Math.Seq.{take-append_seam, drop-append_seam}
use Rattle.std.proofs.lemmas.List.{take-append-drop, length-drop, drop-drop, append-nil}
use Rattle.std.proofs.lemmas.Bool.{cases_lt, lt-ltb, le-ltb, le-leb, lt-leb, leb-true, ltb-false}
use Rattle.ark_groups.specs.Field.{HasBits, IsFieldModulus}
use Rattle.ark_base.specs.Reading.{IsBytes}
use Rattle.ark_base.specs.Digits.{number_of_bytes, bytes_of_number}
use Rattle.ark_base.specs.Laws.Digits.{bytes_of_number-number_of_bytes}
use Rattle.ark_groups.specs.Bits.{bits_of_number, number_of_bits}
use Rattle.ark_groups.specs.Group.{Group, IsCommutativeGroup, times}
use Rattle.ark_groups.proofs.Multiples.{right_identity, times-add, times-mod, times_at}
use Rattle.ark_base.specs.Outcome.{Outcome, AnswersBy}
use Rattle.ark_base.specs.Laws.Steps.{done_injective}
use Rattle.ark_base.specs.declared.error.Error.TheVariants.{IncorrectInputLength, GenericError}
use Rattle.ark_base.specs.declared.error.Refusal.TheVariants.{WindowTooLarge}
use Rattle.ark_pedersen.specs.declared.window.Window.{Ghosts as Windows}
use Rattle.ark_pedersen.specs.Pedersen.{bits_of_bytes, windows_sum, window_bits, windows_hash}
use Rattle.ark_pedersen.specs.Binding.{window_numbers, differences, combination, coefficients_of, IsRelation, AreAllZero, windows_fit, relation_outcome}
use Rattle.ark_pedersen.proofs.Halves.{length-bits_of_bytes}
use Rattle.ark_pedersen.proofs.BitSums.{bits_of_bytes-number, number_of_bytes-below}

-- the modulus of a field is above 0
pub positive : {p bits : ℕ} → IsFieldModulus p bits → 0 < p
positive laws = omega (arith, laws.at_least_two)

-- ---- sums

module _ {G : Type 0} {g : Group G} (laws : IsCommutativeGroup g) where
  -- the sum over the windows is the combination by their numbers
  pub windows_sum-combination : (size : ℕ) (xs : List G) (bits : List Bool) → windows_sum g size xs bits
      ≡ combination g (window_numbers size (length xs) bits) xs
  unfolding windows_sum window_numbers combination
  windows_sum-combination size [] bits = refl
  windows_sum-combination size (x ∷ xs) bits =
      ap (g.plus (times g (number_of_bits (take size bits)) x)) (windows_sum-combination size xs (drop size bits))

  -- what is added to an element and leaves it is zero
  pub adds_nothing : (a b : G) → g.plus a b ≡ b → a ≡ g.identity
  adds_nothing a b e =
      sym (right_identity laws a)
      ∙ ap (g.plus a) (sym (laws.left_opposite b) ∙ laws.comm (g.opposite b) b) ∙ sym (laws.assoc a b (g.opposite b))
      ∙ ap (λ z. g.plus z (g.opposite b)) e ∙ laws.comm b (g.opposite b) ∙ laws.left_opposite b

  -- the first two of four change places with the last two
  pub crossed : (a b c d : G) → g.plus (g.plus a b) (g.plus c d) ≡ g.plus (g.plus a c) (g.plus b d)
  crossed a b c d =
      laws.assoc a b (g.plus c d) ∙ ap (g.plus a) (sym (laws.assoc b c d) ∙ ap (λ z. g.plus z d) (laws.comm b c)
      ∙ laws.assoc c b d) ∙ sym (laws.assoc a c (g.plus b d))

  module _ (r : ℕ) (pos : 0 < r) (order : (x : G) → times g r x ≡ g.identity) where
    -- the difference of two counts, and the second, make the first
    pub difference-times : (m n : ℕ) (x : G) → g.plus (times g ((m % r + (r - n % r)) % r) x) (times g n x)
        ≡ times g m x
    difference-times m n x =
        let t = m % r + (r - n % r) in
        ap (λ z. g.plus z (times g n x)) (times-mod laws r t x (order x)) ∙ sym (times-add laws t n x)
        ∙ sym (times-mod laws r (t + n) x (order x)) ∙ times_at laws {m = (t + n) % r} {n = m % r} x (whole m n)
        ∙ times-mod laws r m x (order x)
      where
        whole : (m n : ℕ) → (m % r + (r - n % r) + n) % r ≡ m % r
        whole m n =
            ap (λ k. k % r) (parts (m % r) (n % r) (n / r) n (mod-lt n pos) (div-add-mod' n r))
            ∙ add-mul-mod_self_right (m % r) (1 + n / r) r ∙ again m
          where
            parts : (a b q n : ℕ) → b < r → q * r + b ≡ n → a + (r - b) + n ≡ a + (1 + q) * r
            parts a b q n below e = omega (arith, below, e)

            again : (m : ℕ) → m % r % r ≡ m % r
            again m = mod-eq_of_lt (mod-lt m pos)

    pub combination-differences : (ms ns : List ℕ) (xs : List G) → length ms ≡ length ns
        → g.plus (combination g (differences r ms ns) xs) (combination g ns xs) ≡ combination g ms xs
    unfolding combination differences
    combination-differences [] [] xs long = laws.left_identity g.identity
    combination-differences [] (n ∷ ns) xs long = absurd (omega arith)
    combination-differences (m ∷ ms) [] xs long = absurd (omega arith)
    combination-differences (m ∷ ms) (n ∷ ns) [] long = laws.left_identity g.identity
    combination-differences (m ∷ ms) (n ∷ ns) (x ∷ xs) long =
        crossed (times g ((m % r + (r - n % r)) % r) x) (combination g (differences r ms ns) xs) (times g n x)
        (combination g ns xs)
        ∙ ap₂ g.plus (difference-times m n x) (combination-differences ms ns xs (omega arith))

    -- where two combinations are one, that by the differences is zero
    pub relation : (ms ns : List ℕ) (xs : List G) → length ms ≡ length ns → combination g ms xs ≡ combination g ns xs
        → combination g (differences r ms ns) xs ≡ g.identity
    relation ms ns xs long same =
        adds_nothing (combination g (differences r ms ns) xs) (combination g ns xs)
        (combination-differences ms ns xs long ∙ same)

-- ---- coefficients that are all 0

pub length-window_numbers : (size count : ℕ) (bits : List Bool) → length (window_numbers size count bits) ≡ count
unfolding window_numbers
length-window_numbers size zero bits = refl
length-window_numbers size (suc count) bits = ap suc (length-window_numbers size count (drop size bits))

pub number_of_bits-below : (bits : List Bool) → number_of_bits bits < 2 ^ length bits
unfolding number_of_bits
number_of_bits-below [] = lit< tt
number_of_bits-below (b ∷ bits) = by_bit b (number_of_bits-below bits) (pow-suc 2 (length bits))
  where
    by_bit : (b : Bool) → number_of_bits bits < 2 ^ length bits → 2 ^ suc (length bits) ≡ 2 ^ length bits * 2
        → (if b then 1 else 0) + 2 * number_of_bits bits < 2 ^ suc (length bits)
    by_bit true h e = omega (arith, h, e)
    by_bit false h e = omega (arith, h, e)

-- bits are those of their number
pub number_of_bits-same : (a b : List Bool) → length a ≡ length b → number_of_bits a ≡ number_of_bits b → a ≡ b
unfolding number_of_bits
number_of_bits-same [] [] long same = refl
number_of_bits-same [] (b ∷ bs) long same = absurd (omega arith)
number_of_bits-same (a ∷ as_bits) [] long same = absurd (omega arith)
number_of_bits-same (a ∷ as_bits) (b ∷ bs) long same = by_bits a b same (number_of_bits-same as_bits bs (omega arith))
  where
    by_bits : (a b : Bool)
        → (if a then 1 else 0) + 2 * number_of_bits as_bits ≡ (if b then 1 else 0) + 2 * number_of_bits bs
        → (number_of_bits as_bits ≡ number_of_bits bs → as_bits ≡ bs) → a ∷ as_bits ≡ b ∷ bs
    by_bits true true e h = ap (λ t. true ∷ t) (h (omega (arith, e)))
    by_bits true false e h = absurd (omega (arith, e))
    by_bits false true e h = absurd (omega (arith, e))
    by_bits false false e h = ap (λ t. false ∷ t) (h (omega (arith, e)))

pub power_below : (m n : ℕ) → m ≤ n → 2 ^ m ≤ 2 ^ n
power_below zero zero l = omega arith
power_below zero (suc n) l = let h = power_below zero n (omega arith) in omega (arith, h, pow-suc 2 n)
power_below (suc m) zero l = absurd (omega (arith, l))
power_below (suc m) (suc n) l =
    let h = power_below m n (omega (arith, l)) in omega (arith, h, pow-suc 2 m, pow-suc 2 n)

pub length-take-short : {A : Type 0} (n : ℕ) (xs : List A) → length (take n xs) ≤ n
length-take-short zero xs = omega arith
length-take-short (suc n) [] = omega arith
length-take-short (suc n) (x ∷ xs) = omega (arith, length-take-short n xs)

-- ---- lists of one length

module _ {A : Type 0} where
  pub both_empty : (a b : List A) → length a ≡ length b → length a ≤ 0 → a ≡ b
  both_empty [] [] long within = refl
  both_empty [] (b ∷ bs) long within = absurd (omega (arith, long))
  both_empty (a ∷ others) bs long within = absurd (omega (arith, within))

  length-take-same : (n : ℕ) (a b : List A) → length a ≡ length b → length (take n a) ≡ length (take n b)
  length-take-same zero a b long = refl
  length-take-same (suc n) [] [] long = refl
  length-take-same (suc n) [] (b ∷ bs) long = absurd (omega (arith, long))
  length-take-same (suc n) (a ∷ others) [] long = absurd (omega (arith, long))
  length-take-same (suc n) (a ∷ others) (b ∷ bs) long = ap suc (length-take-same n others bs (omega (arith, long)))

  -- lists are the same where their first parts and those behind are
  pub same_parts : (size count : ℕ) (a b : List A) → length a ≡ length b → length a ≤ size * suc count
      → (length (take size a) ≡ length (take size b) → take size a ≡ take size b)
      → (length (drop size a) ≡ length (drop size b) → length (drop size a) ≤ size * count → drop size a ≡ drop size b)
      → a ≡ b
  same_parts size count a b long within first others =
      sym (take-append-drop size a)
      ∙ ap₂ (λ (s t : List A). s ++ t) (first (length-take-same size a b long))
      (others (length-drop size a ∙ ap (λ n. n - size) long ∙ sym (length-drop size b))
      (shorter (length-drop size a) within)) ∙ take-append-drop size b
    where
      shorter : length (drop size a) ≡ length a - size → length a ≤ size * suc count → length (drop size a)
          ≤ size * count
      shorter e l = let more : size * suc count ≡ size * count + size = omega arith in omega (arith, e, l, more)

  -- lists whose fronts have one length are the same in front and behind
  pub fronts : (a b x y : List A) → length a ≡ length b → a ++ x ≡ b ++ y → a ≡ b
  fronts a b x y long same =
      sym (take-append_seam a x) ∙ ap₂ (λ (n : ℕ) (t : List A). take n t) long same ∙ take-append_seam b y

  pub backs : (a b x y : List A) → length a ≡ length b → a ++ x ≡ b ++ y → x ≡ y
  backs a b x y long same =
      sym (drop-append_seam a x) ∙ ap₂ (λ (n : ℕ) (t : List A). drop n t) long same ∙ drop-append_seam b y

module _ (r size : ℕ) (pos : 0 < r) (fits : 2 ^ size ≤ r) where
  window_below : (bits : List Bool) → number_of_bits (take size bits) < r
  window_below bits =
      let h = number_of_bits-below (take size bits) in
      let l = power_below (length (take size bits)) size (length-take-short size bits) in
      omega (arith, h, l, fits)

  pub no_difference : (m n : ℕ) → m < r → n < r → (m % r + (r - n % r)) % r ≡ 0 → m ≡ n
  no_difference m n below_m below_n e =
      at (cases_lt (m + (r - n)) r)
      (ap (λ k. (k + (r - n % r)) % r) (sym (mod-eq_of_lt below_m)) ∙ e)
    where
      plain : (m % r + (r - n % r)) % r ≡ 0 → (m + (r - n)) % r ≡ 0
      plain h = ap₂ (λ a b. (a + (r - b)) % r) (sym (mod-eq_of_lt below_m)) (sym (mod-eq_of_lt below_n)) ∙ h

      at : (m + (r - n) < r) ⊎ (r ≤ m + (r - n)) → (m + (r - n % r)) % r ≡ 0 → m ≡ n
      at (inl l) h =
          let none : m + (r - n) ≡ 0 = sym (mod-eq_of_lt l) ∙ plain e in
          omega (arith, none, below_n)
      at (inr l) h =
          let none : m - n ≡ 0 = sym (mod-eq_of_lt (omega (arith, below_m, below_n))) ∙ sym (add-mul-mod_self_right
          (m - n) 1 r) ∙ ap (λ k. k % r) (whole l) ∙ plain e in
          omega (arith, none, l, below_n)
        where
          whole : r ≤ m + (r - n) → m - n + 1 * r ≡ m + (r - n)
          whole l = omega (arith, l, below_n)

  -- bits of one length whose differences are all 0 are the same
  pub same_bits : (count : ℕ) (a b : List Bool) → length a ≡ length b → length a ≤ size * count
      → All (λ c. c ≡ 0) (differences r (window_numbers size count a) (window_numbers size count b)) → a ≡ b
  unfolding differences window_numbers
  same_bits zero a b long within none = both_empty a b long (omega (arith, within))
  same_bits (suc count) a b long within none =
      let here : number_of_bits (take size a) ≡ number_of_bits (take size b) =
      no_difference (number_of_bits (take size a)) (number_of_bits (take size b)) (window_below a) (window_below b)
      (none 0 0 (omega arith)) in
      same_parts size count a b long within
      (λ same. number_of_bits-same (take size a) (take size b) same here)
      (λ same short. same_bits count (drop size a) (drop size b) same short
      (λ k d l. none (suc k) d (omega (arith, l))))

-- ---- bytes

pub number_of_bits-bits_of_number : (k n : ℕ) → n < 2 ^ k → number_of_bits (bits_of_number k n) ≡ n
unfolding number_of_bits bits_of_number
number_of_bits-bits_of_number zero n below = sym (none below)
  where
    none : n < 2 ^ 0 → n ≡ 0
    none l = omega (arith, l)
number_of_bits-bits_of_number (suc k) n below =
    ap (λ t. (if eqb (n % 2) 1 then 1 else 0) + 2 * t) (number_of_bits-bits_of_number k (n / 2) (half below
    (pow-suc 2 k))) ∙ by_digit (n % 2) refl
  where
    half : n < 2 ^ suc k → 2 ^ suc k ≡ 2 ^ k * 2 → n / 2 < 2 ^ k
    half l e = omega (arith, l, e)

    by_digit : (e : ℕ) → n % 2 ≡ e → (if eqb e 1 then 1 else 0) + 2 * (n / 2) ≡ n
    by_digit zero h = omega (arith, h)
    by_digit (suc zero) h = omega (arith, h)
    by_digit (suc (suc e)) h = absurd (omega (arith, h))

-- bytes of one length with the same bits are the same
pub same_bytes : (a b : List ℕ) → IsBytes a → IsBytes b → length a ≡ length b → bits_of_bytes a ≡ bits_of_bytes b
    → a ≡ b
same_bytes a b fits_a fits_b long same =
    sym (bytes_of_number-number_of_bytes a fits_a) ∙ ap₂ bytes_of_number long
    (sym (number a fits_a) ∙ ap number_of_bits same ∙ number b fits_b) ∙ bytes_of_number-number_of_bytes b fits_b
  where
    number : (t : List ℕ) → IsBytes t → number_of_bits (bits_of_bytes t) ≡ number_of_bytes t
    number t fits =
        ap number_of_bits (bits_of_bytes-number t fits)
        ∙ number_of_bits-bits_of_number (8 * length t) (number_of_bytes t) (number_of_bytes-below t fits)

-- ---- the order's binary digits

-- a power of 2 is at most a number exactly where its exponent is below the count of the number's digits
pub fitting_bits : (n bits size : ℕ) → HasBits n bits → nat_lt size bits ≡ nat_le (2 ^ size) n
fitting_bits n bits size has = at (cases_lt size bits)
  where
    at : (size < bits) ⊎ (bits ≤ size) → nat_lt size bits ≡ nat_le (2 ^ size) n
    at (inl l) =
        let h = power_below (suc size) bits l in
        lt-ltb size bits l ∙ sym (le-leb (2 ^ size) n (omega (arith, h, pow-suc 2 size, has.no_fewer)))
    at (inr l) =
        let h = power_below bits size l in
        le-ltb size bits l ∙ sym (lt-leb (2 ^ size) n (omega (arith, h, has.no_more)))

-- ---- the loop over the windows

-- the difference of the window at a place, and those behind it
pub window_ahead : (r size n place : ℕ) (left right : List Bool)
    → differences r (window_numbers size (suc n) (drop place left)) (window_numbers size (suc n) (drop place right))
    ≡ ((number_of_bits (take size (drop place left)) % r + (r - number_of_bits (take size (drop place right)) % r)) % r)
    ∷ differences r (window_numbers size n (drop (place + size) left))
    (window_numbers size n (drop (place + size) right))
unfolding differences window_numbers
window_ahead r size n place left right =
    ap₂ (λ (s t : List Bool). ((number_of_bits (take size (drop place left)) % r
    + (r - number_of_bits (take size (drop place right)) % r)) % r) ∷ differences r (window_numbers size n s)
    (window_numbers size n t)) (drop-drop size place left) (drop-drop size place right)

-- one more of the windows
pub one_window : (r size count i h : ℕ) (left right : List Bool) (found : List ℕ) (m n : ℕ) → i < count
    → m ≡ number_of_bits (take size (drop (size * i) left)) % r
    → n ≡ number_of_bits (take size (drop (size * i) right)) % r → h ≡ (m + (r - n)) % r → (whole : List ℕ)
    → found ++ differences r (window_numbers size (count - i) (drop (size * i) left))
    (window_numbers size (count - i) (drop (size * i) right)) ≡ whole
    → (found ++ (h ∷ [])) ++ differences r (window_numbers size (count - (i + 1)) (drop (size * (i + 1)) left))
    (window_numbers size (count - (i + 1)) (drop (size * (i + 1)) right)) ≡ whole
one_window r size count i h left right found m n l is_m is_n is_h whole before =
    append_assoc found (h ∷ []) _
    ∙ ap (λ t. found ++ t) (ap₂ (λ (a : ℕ) (b : List ℕ). a ∷ b) (is_h ∙ ap₂ (λ a b. (a + (r - b)) % r) is_m is_n)
    (ap₂ (λ (s t : List Bool). differences r (window_numbers size (count - (i + 1)) s)
    (window_numbers size (count - (i + 1)) t)) (ap (λ k. drop k left) next) (ap (λ k. drop k right) next))
    ∙ sym (window_ahead r size (count - (i + 1)) (size * i) left right))
    ∙ ap (λ k. found ++ differences r (window_numbers size k (drop (size * i) left))
    (window_numbers size k (drop (size * i) right))) (one_less l) ∙ before
  where
    next : size * (i + 1) ≡ size * i + size
    next = omega arith

    one_less : i < count → suc (count - (i + 1)) ≡ count - i
    one_less l = omega (arith, l)

-- none is left
pub no_window : (r size count i : ℕ) (left right : List Bool) (found whole : List ℕ) → count ≤ i
    → found ++ differences r (window_numbers size (count - i) (drop (size * i) left))
    (window_numbers size (count - i) (drop (size * i) right)) ≡ whole → found ≡ whole
unfolding differences window_numbers
no_window r size count i left right found whole l before =
    sym (append-nil found) ∙ ap (λ k. found ++ differences r (window_numbers size k (drop (size * i) left))
    (window_numbers size k (drop (size * i) right))) (none l) ∙ before
  where
    none : count ≤ i → 0 ≡ count - i
    none l = omega (arith, l)

-- ---- two inputs

module _ {G W : Type 0} {g : Group G} (laws : IsCommutativeGroup g) (r : ℕ) (pos : 0 < r)
    (order : (x : G) → times g r x ≡ g.identity) (windows : Windows W) (left right coefficients : List ℕ)
    (fits_left : 8 * length left ≤ window_bits windows) (fits_right : 8 * length right ≤ window_bits windows)
    (are : coefficients ≡ coefficients_of r windows left right) where
  pub hash_is : (elements : List G) (input : List ℕ) → 8 * length input ≤ window_bits windows
      → windows_hash g windows elements input
      ≡ Ok (windows_sum g windows.WINDOW_SIZE elements (bits_of_bytes input))
  hash_is elements input fits =
      ap (λ (b : Bool). let o : Outcome G = cond b (Err (IncorrectInputLength (length input)))
      (Ok (windows_sum g windows.WINDOW_SIZE elements (bits_of_bytes input))) in o)
      (le-ltb (window_bits windows) (8 * length input) fits)

  pub is_relation : IsRelation g windows coefficients left right
  is_relation elements long same =
      let size = windows.WINDOW_SIZE in
      let count = windows.NUM_WINDOWS in
      let sums : windows_sum g size elements (bits_of_bytes left) ≡ windows_sum g size elements (bits_of_bytes right) =
      value_of (sym (hash_is elements left fits_left) ∙ same ∙ hash_is elements right fits_right) in
      ap (λ cs. combination g cs elements) are
      ∙ relation laws r pos order (window_numbers size count (bits_of_bytes left))
      (window_numbers size count (bits_of_bytes right)) elements
      (length-window_numbers size count (bits_of_bytes left) ∙ sym (length-window_numbers size count
      (bits_of_bytes right)))
      (sym (by_numbers (bits_of_bytes left)) ∙ sums ∙ by_numbers (bits_of_bytes right))
    where
      value_of : {a b : G} → (let o : Outcome G = Ok a in let p : Outcome G = Ok b in o ≡ p) → a ≡ b
      value_of e = done_injective _ _ e

      by_numbers : (bits : List Bool) → windows_sum g windows.WINDOW_SIZE elements bits
          ≡ combination g (window_numbers windows.WINDOW_SIZE windows.NUM_WINDOWS bits) elements
      by_numbers bits =
          windows_sum-combination laws windows.WINDOW_SIZE elements bits
          ∙ ap (λ n. combination g (window_numbers windows.WINDOW_SIZE n bits) elements) long

  -- the coefficients make of the right sum the left one
  pub sums_differ : (elements : List G) → length elements ≡ windows.NUM_WINDOWS
      → g.plus (combination g coefficients elements) (windows_sum g windows.WINDOW_SIZE elements (bits_of_bytes right))
      ≡ windows_sum g windows.WINDOW_SIZE elements (bits_of_bytes left)
  sums_differ elements long =
      let size = windows.WINDOW_SIZE in
      let count = windows.NUM_WINDOWS in
      let ms = window_numbers size count (bits_of_bytes left) in
      let ns = window_numbers size count (bits_of_bytes right) in
      ap₂ (λ (cs : List ℕ) (z : G). g.plus (combination g cs elements) z) are (by_count (bits_of_bytes right))
      ∙ combination-differences laws r pos order ms ns elements
      (length-window_numbers size count (bits_of_bytes left)
      ∙ sym (length-window_numbers size count (bits_of_bytes right))) ∙ sym (by_count (bits_of_bytes left))
    where
      by_count : (bits : List Bool) → windows_sum g windows.WINDOW_SIZE elements bits
          ≡ combination g (window_numbers windows.WINDOW_SIZE windows.NUM_WINDOWS bits) elements
      by_count bits =
          windows_sum-combination laws windows.WINDOW_SIZE elements bits
          ∙ ap (λ n. combination g (window_numbers windows.WINDOW_SIZE n bits) elements) long

  -- two openings of one commitment: the coefficient of the randomness element, and those of the windows
  pub opening : (elements : List G) (element : G) (m n : ℕ) → length elements ≡ windows.NUM_WINDOWS
      → g.plus (windows_sum g windows.WINDOW_SIZE elements (bits_of_bytes left)) (times g m element)
      ≡ g.plus (windows_sum g windows.WINDOW_SIZE elements (bits_of_bytes right)) (times g n element)
      → combination g (((m % r + (r - n % r)) % r) ∷ coefficients) (element ∷ elements) ≡ g.identity
  unfolding combination
  opening elements element m n long same =
      let sum_l = windows_sum g windows.WINDOW_SIZE elements (bits_of_bytes left) in
      let sum_r = windows_sum g windows.WINDOW_SIZE elements (bits_of_bytes right) in
      let more = times g ((m % r + (r - n % r)) % r) element in
      let others = combination g coefficients elements in
      adds_nothing laws (g.plus more others) (g.plus sum_r (times g n element))
      (ap (g.plus (g.plus more others)) (laws.comm sum_r (times g n element))
      ∙ crossed laws more others (times g n element) sum_r
      ∙ ap₂ g.plus (difference-times laws r pos order m n element) (sums_differ elements long)
      ∙ laws.comm (times g m element) sum_l ∙ same)

  pub same_inputs : 2 ^ windows.WINDOW_SIZE ≤ r → IsBytes left → IsBytes right → AreAllZero coefficients
      → length left ≡ length right → left ≡ right
  same_inputs fits bytes_left bytes_right none long =
      same_bytes left right bytes_left bytes_right long
      (same_bits r windows.WINDOW_SIZE pos fits windows.NUM_WINDOWS (bits_of_bytes left) (bits_of_bytes right)
      (length-bits_of_bytes left ∙ ap (λ n. 8 * n) long ∙ sym (length-bits_of_bytes right))
      (within (length-bits_of_bytes left)) (subst AreAllZero are none))
    where
      within : length (bits_of_bytes left) ≡ 8 * length left → length (bits_of_bytes left)
          ≤ windows.WINDOW_SIZE * windows.NUM_WINDOWS
      within e = omega (arith, e, fits_left)

-- ---- an outcome that is no refusal

three_tests : {A : Type 0} (a b c : Bool) (x y z : Outcome A) (v w : A)
    → (let o : Outcome A = cond a (cond b y (cond c z (Ok v))) x in o ≡ Ok w) → ((k : A) → x ≡ Ok k → ⊥)
    → ((k : A) → y ≡ Ok k → ⊥) → ((k : A) → z ≡ Ok k → ⊥)
    → (a ≡ true) × ((b ≡ false) × ((c ≡ false) × (v ≡ w)))
three_tests true true c x y z v w e nx ny nz = absurd (ny w e)
three_tests true false true x y z v w e nx ny nz = absurd (nz w e)
three_tests true false false x y z v w e nx ny nz = (refl, (refl, (refl, done_injective v w e)))
three_tests false b c x y z v w e nx ny nz = absurd (nx w e)

pub record Answered {W : Type 0} (r : ℕ) (windows : Windows W) (left right found : List ℕ) : Type 0 where
  pub fits : 2 ^ windows.WINDOW_SIZE ≤ r
  pub left_in : 8 * length left ≤ window_bits windows
  pub right_in : 8 * length right ≤ window_bits windows
  pub are : found ≡ coefficients_of r windows left right

pub answered : {W : Type 0} (r : ℕ) (windows : Windows W) (left right found : List ℕ)
    → relation_outcome r windows left right ≡ Ok found → Answered r windows left right found
answered r windows left right found e =
    let parts = three_tests (windows_fit r windows) (nat_lt (window_bits windows) (8 * length left))
    (nat_lt (window_bits windows) (8 * length right)) (Err (GenericError WindowTooLarge))
    (Err (IncorrectInputLength (length left))) (Err (IncorrectInputLength (length right)))
    (coefficients_of r windows left right) found e (λ k h. absurd (cc)) (λ k h. absurd (cc)) (λ k h. absurd (cc)) in
    record {
      fits = leb-true (2 ^ windows.WINDOW_SIZE) r parts.0;
      left_in = ltb-false (window_bits windows) (8 * length left) parts.1.0;
      right_in = ltb-false (window_bits windows) (8 * length right) parts.1.1.0;
      are = sym parts.1.1.1;
    }

-- what holds of each value that answers an outcome
pub answers_give : {A B : Type 0} (see : A → B) (outcome : Outcome B) (P : A → Type 0) (result : Outcome A)
    → AnswersBy see outcome result → ((value : A) → outcome ≡ Ok (see value) → P value) → IfOk result P
answers_give see outcome P (Ok value) answers give = give value answers
answers_give see outcome P (Err error) answers give = tt

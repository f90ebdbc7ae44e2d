-- Keys that rise, told apart by a bit.
use Rattle.std.proofs.Common.{◌≡◌, ◌<◌, ◌≤◌, ◌+◌, ◌-◌, ◌==◌, ℕ, zero, suc, Bool, true, false, List, [], ◌∷◌, length, get_or, take, drop, arith, refl, ap, sym, ◌∙◌, subst}
use Rattle.std.specs.List.{filter}
use Rattle.std.proofs.lemmas.Bool.Decides.{Decides-eqb}
use Rattle.std.proofs.lemmas.List.{get_or-drop, get_or-take, length-drop, length-take-le}
use Rattle.merkle_map.specs.Map.{Key, bit_of, has_bit}
use Rattle.merkle_map.specs.Order.{IsKeyBelow}
use Rattle.merkle_map.specs.Pruned.{keys_with}
use Rattle.merkle_map.specs.Tree.{way}
use Rattle.merkle_map.proofs.Entries.{other_bit, own_bit}
use Rattle.kept_map.specs.Many.{AreSorted, IsParted, IsRising}

-- ---- the first keys pass a test, and those behind them do not

module _ (p : Key → Bool) where
  pub filter-front : (n : ℕ) (xs : List Key) → ((i : ℕ) → i < n → i < length xs → p (get_or xs i []) ≡ true)
      → ((i : ℕ) → n ≤ i → i < length xs → p (get_or xs i []) ≡ false) → filter p xs ≡ take n xs
  filter-front zero [] low high = refl
  filter-front (suc n) [] low high = refl
  filter-front zero (x ∷ xs) low high =
      let no = high 0 (omega arith) (omega arith) in
      let rest = filter-front zero xs (λ i below within. absurd (omega (arith, below)))
      (λ i above within. high (suc i) (omega arith) (omega (arith, within))) in
      rw no rest
  filter-front (suc n) (x ∷ xs) low high =
      let yes = low 0 (omega arith) (omega arith) in
      let rest = filter-front n xs (λ i below within. low (suc i) (omega (arith, below)) (omega (arith, within)))
      (λ i above within. high (suc i) (omega (arith, above)) (omega (arith, within))) in
      rw yes (ap (λ l. x ∷ l) rest)

  pub filter-back : (n : ℕ) (xs : List Key) → ((i : ℕ) → i < n → i < length xs → p (get_or xs i []) ≡ false)
      → ((i : ℕ) → n ≤ i → i < length xs → p (get_or xs i []) ≡ true) → filter p xs ≡ drop n xs
  filter-back zero [] low high = refl
  filter-back (suc n) [] low high = refl
  filter-back zero (x ∷ xs) low high =
      let yes = high 0 (omega arith) (omega arith) in
      let rest = filter-back zero xs (λ i below within. absurd (omega (arith, below)))
      (λ i above within. high (suc i) (omega arith) (omega (arith, within))) in
      rw yes (ap (λ l. x ∷ l) rest)
  filter-back (suc n) (x ∷ xs) low high =
      let no = low 0 (omega arith) (omega arith) in
      let rest = filter-back n xs (λ i below within. low (suc i) (omega (arith, below)) (omega (arith, within)))
      (λ i above within. high (suc i) (omega (arith, above)) (omega (arith, within))) in
      rw no rest

-- ---- parts of keys that rise

-- The keys of a part stand in a row behind so many others, and have a bit.
record IsPart (level : ℕ) (b : Bool) (keys part : List Key) (behind : ℕ) : Type 0 where
  pub within : behind + length part ≤ length keys
  pub same : (i : ℕ) → i < length part → get_or part i [] ≡ get_or keys (behind + i) []
  pub bit : (i : ℕ) → i < length part → bit_of level (get_or part i []) ≡ b

part-sorted : (level : ℕ) (b : Bool) (keys part : List Key) (behind : ℕ) → AreSorted level keys
    → IsPart level b keys part behind → AreSorted (level + 1) part
part-sorted level b keys part behind sorted is =
    let next : suc level ≡ level + 1 = omega arith in
    let within = is.within in
    record {
      rising = λ i inside below.
          let next_in : i < length part = omega (arith, inside) in
          let more : behind + i + 1 ≡ behind + (i + 1) = omega arith in
          sorted.rising (behind + i) (omega (arith, inside, within))
          (subst (λ (k : ℕ). IsKeyBelow (get_or keys k []) (get_or keys (behind + i) [])) (sym more)
          (subst (λ (k : Key). IsKeyBelow k (get_or keys (behind + i) [])) (is.same (i + 1) inside)
          (subst (IsKeyBelow (get_or part (i + 1) [])) (is.same i next_in) below)));
      alike = λ i j i_in j_in.
          subst (λ n. way n (get_or part i []) ≡ way n (get_or part j [])) next
          (ap (λ (c : Bool). c ∷ way level (get_or part i [])) (is.bit i i_in ∙ sym (is.bit j j_in))
          ∙ ap (λ l. bit_of level (get_or part j []) ∷ l)
          (ap (way level) (is.same i i_in)
          ∙ sorted.alike (behind + i) (behind + j) (omega (arith, i_in, within)) (omega (arith, j_in, within))
          ∙ ap (way level) (sym (is.same j j_in))));
    }

module _ (level : ℕ) (keys : List Key) (zeros : ℕ) (sorted : AreSorted level keys) (parted : IsParted level keys zeros)
  where
    pub front-is : keys_with false level keys ≡ take zeros keys
    front-is = filter-front (λ key. has_bit false level key) zeros keys
        (λ i below within. own_bit false level (get_or keys i []) (parted.low i below))
        (λ i above within. other_bit true level (get_or keys i []) (parted.high i above within))

    pub back-is : keys_with true level keys ≡ drop zeros keys
    back-is = filter-back (λ key. has_bit true level key) zeros keys
        (λ i below within. other_bit false level (get_or keys i []) (parted.low i below))
        (λ i above within. own_bit true level (get_or keys i []) (parted.high i above within))

    pub front-sorted : AreSorted (level + 1) (take zeros keys)
    front-sorted =
        let long = length-take-le zeros keys parted.within in
        let within = parted.within in
        part-sorted level false keys (take zeros keys) 0 sorted (record {
          within = omega (arith, long, within);
          same = λ i inside.
              let same : i ≡ 0 + i = omega arith in
              get_or-take zeros keys i [] (omega (arith, inside, long)) ∙ ap (λ k. get_or keys k []) same;
          bit = λ i inside. ap (bit_of level) (get_or-take zeros keys i [] (omega (arith, inside, long)))
              ∙ parted.low i (omega (arith, inside, long));
        })

    pub back-sorted : AreSorted (level + 1) (drop zeros keys)
    back-sorted =
        let long = length-drop zeros keys in
        let within = parted.within in
        part-sorted level true keys (drop zeros keys) zeros sorted (record {
          within = omega (arith, long, within);
          same = λ i inside. get_or-drop zeros keys i [];
          bit = λ i inside. ap (bit_of level) (get_or-drop zeros keys i [])
              ∙ parted.high (zeros + i) (omega arith) (omega (arith, inside, long, within));
        })

-- behind a key with 1 at a bit all have 1
module _ (level : ℕ) (inside : level < 256) (keys : List Key) (sorted : AreSorted level keys) (n : ℕ)
    (one : bit_of level (get_or keys n []) ≡ true) where
  behind-by : (d : ℕ) → n + d < length keys → bit_of level (get_or keys (n + d) []) ≡ true
  behind-by zero within =
      let none : n ≡ n + 0 = omega arith in subst (λ k. bit_of level (get_or keys k []) ≡ true) none one
  behind-by (suc d) within =
      let before : n + d < length keys = omega (arith, within) in
      let more : n + d + 1 ≡ n + suc d = omega arith in
      by_bit before more (behind-by d before) (bit_of level (get_or keys (n + suc d) [])) refl
    where
      by_bit : n + d < length keys → n + d + 1 ≡ n + suc d → bit_of level (get_or keys (n + d) []) ≡ true → (b : Bool)
          → bit_of level (get_or keys (n + suc d) []) ≡ b → bit_of level (get_or keys (n + suc d) []) ≡ true
      by_bit before more high true is = is
      by_bit before more high false is = absurd (sorted.rising (n + d) (omega (arith, within))
          (subst (λ k. IsKeyBelow (get_or keys k []) (get_or keys (n + d) [])) (sym more) (record {
            level = level;
            inside = inside;
            alike = sorted.alike (n + suc d) (n + d) within before;
            low = is;
            high = high;
          })))

  pub behind-one : (i : ℕ) → n ≤ i → i < length keys → bit_of level (get_or keys i []) ≡ true
  behind-one i above within =
      let gap : n + (i - n) ≡ i = omega (arith, above) in
      subst (λ k. bit_of level (get_or keys k []) ≡ true) gap (behind-by (i - n) (omega (arith, gap, within)))

-- keys of no length are none
pub no-keys : (keys : List Key) → (length keys == 0) ≡ true → keys ≡ []
no-keys [] none = refl
no-keys (key ∷ keys) none =
    let no : length (key ∷ keys) ≡ 0 = (Decides-eqb (length (key ∷ keys)) 0).0 none in absurd (omega (arith, no))

pub some-keys : (key : Key) (keys : List Key) → (length (key ∷ keys) == 0) ≡ false
some-keys key keys = by_test (length (key ∷ keys) == 0) refl
  where
    by_test : (t : Bool) → (length (key ∷ keys) == 0) ≡ t → (length (key ∷ keys) == 0) ≡ false
    by_test true none =
        let no : length (key ∷ keys) ≡ 0 = (Decides-eqb (length (key ∷ keys)) 0).0 none in absurd (omega (arith, no))
    by_test false some = some

-- all keys begin alike at the root
pub sorted-whole : (keys : List Key) → IsRising keys → AreSorted 0 keys
sorted-whole keys rising = record { rising = rising; alike = λ i j i_in j_in. refl }

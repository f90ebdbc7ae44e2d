-- Changed trees stand where they stood.
use Rattle.std.proofs.Common.{zero, suc, ◌≡◌, ℕ, ◌+◌, ◌-◌, ◌<◌, ◌≤◌, Bool, true, false, not, cond, if◌then◌else◌, Ok, List, [], ◌∷◌, length, arith, refl, ap, sym, ◌∙◌, subst}
use Rattle.std.specs.Str.{bytes_eq}
use Rattle.ark_base.specs.declared.error.Error.{Error}
use Rattle.ark_base.specs.Outcome.{◌>>=◌}
use Rattle.ark_base.specs.Laws.Steps.{bind_ok, done_injective}
use Rattle.merkle_map.specs.Map.{Key, Digest, Entry, bit_of, key_bits}
use Rattle.merkle_map.specs.Tree.{Shape, Empty, One, Fork, Hidden, way, weight, IsKey, StandsAt}
use Rattle.merkle_map.specs.Changes.{two_of, with_value, rejoined, losing}
use Rattle.merkle_map.proofs.Keys.{length-way}
use Rattle.merkle_map.proofs.Rest.{fork-is}
use Rattle.merkle_map.proofs.Two.{two_holds}
use Rattle.merkle_map.proofs.Answered.{gives}

-- an entry on its way
one-stands : (entry : Entry) (bits : List Bool) (n : ℕ) → IsKey entry.key → length bits ≡ n → way n entry.key ≡ bits
    → StandsAt bits (One entry)
one-stands entry bits n is_key long is = (is_key, ap (λ (n : ℕ). way n entry.key) long ∙ is)

own-stands : (level : ℕ) (entry : Entry) → IsKey entry.key → StandsAt (way level entry.key) (One entry)
own-stands level entry is_key = one-stands entry (way level entry.key) level is_key (length-way level entry.key) refl

-- ---- a value is put

weight-two : (bits level : ℕ) (x y : Entry) → weight (two_of bits level x y) ≡ 2
weight-two zero level x y = refl
weight-two (suc bits) level x y = by_bits (bit_of level x.key) (bit_of level y.key)
  where
    by_bits : (p q : Bool) → weight (if p then (if q then Fork Empty (two_of bits (suc level) x y) else Fork (One y)
        (One x))
        else (if q then Fork (One x) (One y) else Fork (two_of bits (suc level) x y) Empty)) ≡ 2
    by_bits true true = refl
    by_bits true false = refl
    by_bits false true = refl
    by_bits false false = refl

module _ (x y : Entry) (x_key : IsKey x.key) (y_key : IsKey y.key) (differ : bytes_eq y.key x.key ≡ false) where
  two-stands : (bits level : ℕ) → bits + level ≡ 256 → way level x.key ≡ way level y.key
      → StandsAt (way level x.key) (two_of bits level x y)
  two-stands = two_holds x y x_key y_key differ (λ level tree. StandsAt (way level x.key) tree) beside apart
    where
      within : (level : ℕ) → level < key_bits → length (way level x.key) < key_bits
      within level inside = let long = length-way level x.key in omega (arith, inside, long)

      next : (level : ℕ) (b : Bool) → length (b ∷ way level x.key) ≡ suc level
      next level b = let long = length-way level x.key in omega (arith, long)

      here : (level : ℕ) (b : Bool) → bit_of level x.key ≡ b → StandsAt (b ∷ way level x.key) (One x)
      here level b is = one-stands x (b ∷ way level x.key) (suc level) x_key (next level b)
          (ap (λ (c : Bool). c ∷ way level x.key) is)

      there : (level : ℕ) (b : Bool) → way level x.key ≡ way level y.key → bit_of level y.key ≡ b
          → StandsAt (b ∷ way level x.key) (One y)
      there level b together is = one-stands y (b ∷ way level x.key) (suc level) y_key (next level b)
          (ap (λ (c : Bool). c ∷ way level y.key) is ∙ ap (λ (bits : List Bool). b ∷ bits) (sym together))

      two : (bits level : ℕ) → 2 ≤ weight (two_of bits (suc level) x y)
      two bits level = let w = weight-two bits (suc level) x y in omega (arith, w)

      below : (bits level : ℕ) (b : Bool) → bit_of level x.key ≡ b
          → StandsAt (way (suc level) x.key) (two_of bits (suc level) x y)
          → StandsAt (b ∷ way level x.key) (two_of bits (suc level) x y)
      below bits level b p stands =
          subst (λ (c : Bool). StandsAt (c ∷ way level x.key) (two_of bits (suc level) x y)) p stands

      beside : (bits level : ℕ) (b : Bool) → level < key_bits → way level x.key ≡ way level y.key
          → bit_of level x.key ≡ b → bit_of level y.key ≡ b
          → StandsAt (way (suc level) x.key) (two_of bits (suc level) x y)
          → StandsAt (way level x.key)
          (cond b (Fork Empty (two_of bits (suc level) x y)) (Fork (two_of bits (suc level) x y) Empty))
      beside bits level true inside together p q stands =
          (within level inside, omega (arith, two bits level), tt, below bits level true p stands)
      beside bits level false inside together p q stands =
          (within level inside, omega (arith, two bits level), below bits level false p stands, tt)

      apart : (level : ℕ) (b : Bool) → level < key_bits → way level x.key ≡ way level y.key
          → bit_of level x.key ≡ b → bit_of level y.key ≡ not b
          → StandsAt (way level x.key) (cond b (Fork (One y) (One x)) (Fork (One x) (One y)))
      apart level true inside together p q =
          (within level inside, omega arith, there level false together q, here level true p)
      apart level false inside together p q =
          (within level inside, omega arith, here level false p, there level true together q)

module _ (own : Entry) (own_key : IsKey own.key) where
  -- a tree grows no lighter
  weight-with : (level : ℕ) (shape new : Shape) → with_value level own shape ≡ Ok new → weight shape ≤ weight new
  weight-with level Empty new is = omega arith
  weight-with level (Hidden d) new is = absurd cc
  weight-with level (One entry) new is = by_test (bytes_eq entry.key own.key) is
    where
      by_test : (b : Bool) → gives (if b then One own else two_of (key_bits - level) level own entry) ≡ Ok new
          → 1 ≤ weight new
      by_test true is = let w = ap weight (done_injective {E = Error} (One own) new is) in omega (arith, w)
      by_test false is =
          let w = ap weight (done_injective {E = Error} (two_of (key_bits - level) level own entry) new is) in
          let two = weight-two (key_bits - level) level own entry in
          omega (arith, w, two)
  weight-with level (Fork left right) new is = by_bit (bit_of level own.key) is
    where
      by_bit : (b : Bool) → (if b then (with_value (suc level) own right >>= λ r. Ok (Fork left r))
          else (with_value (suc level) own left >>= λ l. Ok (Fork l right))) ≡ Ok new → 2 ≤ weight new
      by_bit true is =
          let below = bind_ok (with_value (suc level) own right) (λ r. Ok (Fork left r)) new is in
          let w = ap weight (done_injective {E = Error} (Fork left below.0) new below.2) in omega (arith, w)
      by_bit false is =
          let below = bind_ok (with_value (suc level) own left) (λ l. Ok (Fork l right)) new is in
          let w = ap weight (done_injective {E = Error} (Fork below.0 right) new below.2) in omega (arith, w)

  abbrev Below : ℕ → Shape → Type 0
  Below level side = (after : Shape) → suc level ≤ 256 → StandsAt (way (suc level) own.key) side
      → with_value (suc level) own side ≡ Ok after → StandsAt (way (suc level) own.key) after

  pub with-stands : (level : ℕ) (shape new : Shape) → level ≤ 256 → StandsAt (way level own.key) shape
      → with_value level own shape ≡ Ok new → StandsAt (way level own.key) new
  with-stands level Empty new within stands is =
      subst (StandsAt (way level own.key)) (done_injective {E = Error} (One own) new is) (own-stands level own own_key)
  with-stands level (One entry) new within stands is = by_test (bytes_eq entry.key own.key) refl is
    where
      by_test : (b : Bool) → bytes_eq entry.key own.key ≡ b
          → gives (if b then One own else two_of (key_bits - level) level own entry) ≡ Ok new → StandsAt
          (way level own.key) new
      by_test true e is =
          subst (StandsAt (way level own.key)) (done_injective {E = Error} (One own) new is)
          (own-stands level own own_key)
      by_test false e is =
          let ways = sym stands.1 ∙ ap (λ (n : ℕ). way n entry.key) (length-way level own.key) in
          let sum : (key_bits - level) + level ≡ 256 = omega (arith, within) in
          subst (StandsAt (way level own.key))
          (done_injective {E = Error} (two_of (key_bits - level) level own entry) new is)
          (two-stands own entry own_key stands.0 e (key_bits - level) level sum ways)
  with-stands level (Hidden d) new within stands is = absurd cc
  with-stands level (Fork left right) new within stands is = by_bit (with-stands (suc level) left)
      (with-stands (suc level) right) (bit_of level own.key) refl is
    where
      next : suc level ≤ 256
      next = let long = length-way level own.key in omega (arith, stands.0, long)

      -- the key's side grows, and the tree is made of it again
      by_side : (b : Bool) (side : Shape) (made : Shape → Shape) → bit_of level own.key ≡ b
          → StandsAt (b ∷ way level own.key) side → Below level side
          → (with_value (suc level) own side >>= λ s. Ok (made s)) ≡ Ok new
          → ((after : Shape) → weight side ≤ weight after → StandsAt (b ∷ way level own.key) after
          → StandsAt (way level own.key) (made after)) → StandsAt (way level own.key) new
      by_side b side made bit there on_side is fits =
          let below = bind_ok (with_value (suc level) own side) (λ s. Ok (made s)) new is in
          let at = subst (λ (c : Bool). StandsAt (c ∷ way level own.key) side) (sym bit) there in
          subst (StandsAt (way level own.key)) (done_injective {E = Error} (made below.0) new below.2)
          (fits below.0 (weight-with (suc level) side below.0 below.1)
          (subst (λ (c : Bool). StandsAt (c ∷ way level own.key) below.0) bit (on_side below.0 next at below.1)))

      by_bit : Below level left → Below level right → (b : Bool) → bit_of level own.key ≡ b
          → (if b then (with_value (suc level) own right >>= λ r. Ok (Fork left r))
          else (with_value (suc level) own left >>= λ l. Ok (Fork l right))) ≡ Ok new → StandsAt (way level own.key) new
      by_bit on_left on_right true bit is = by_side true right (λ r. Fork left r) bit stands.3 on_right is
          (λ r grows after. (stands.0, omega (arith, stands.1, grows), stands.2, after))
      by_bit on_left on_right false bit is = by_side false left (λ l. Fork l right) bit stands.2 on_left is
          (λ l grows after. (stands.0, omega (arith, stands.1, grows), after, stands.3))

-- ---- a key is removed

rest : (b : Bool) (bits : List Bool) (c : Bool) (more : List Bool) → c ∷ more ≡ b ∷ bits → more ≡ bits
rest b bits c more e = ap (λ (l : List Bool). elim l [ [] ↦ more | x ∷ xs ↦ xs ]) e

-- an entry stands a level higher too
higher : (b : Bool) (bits : List Bool) (entry : Entry) → StandsAt (b ∷ bits) (One entry) → StandsAt bits (One entry)
higher b bits entry stands =
    (stands.0, rest b bits (bit_of (length bits) entry.key) (way (length bits) entry.key) stands.1)

module _ (bits : List Bool) (inside : length bits < key_bits) where
  joined-stands : (nothing : Digest) (left right new : Shape) → rejoined nothing left right ≡ Ok new
      → StandsAt (false ∷ bits) left
      → StandsAt (true ∷ bits) right → StandsAt bits new
  joined-stands nothing Empty Empty new is l r = subst (StandsAt bits) (done_injective {E = Error} Empty new is) tt
  joined-stands nothing Empty (One e) new is l r =
      subst (StandsAt bits) (done_injective {E = Error} (One e) new is) (higher true bits e r)
  joined-stands nothing Empty (Fork a b) new is l r =
      subst (StandsAt bits) (done_injective {E = Error} (Fork Empty (Fork a b)) new is) (inside, omega arith, l, r)
  joined-stands nothing Empty (Hidden d) new is l r = absurd cc
  joined-stands nothing (One e) Empty new is l r =
      subst (StandsAt bits) (done_injective {E = Error} (One e) new is) (higher false bits e l)
  joined-stands nothing (One e) (One f) new is l r =
      subst (StandsAt bits) (done_injective {E = Error} (Fork (One e) (One f)) new is) (inside, omega arith, l, r)
  joined-stands nothing (One e) (Fork a b) new is l r =
      subst (StandsAt bits) (done_injective {E = Error} (Fork (One e) (Fork a b)) new is) (inside, omega arith, l, r)
  joined-stands nothing (One e) (Hidden d) new is l r =
      let kept = fork-is (bytes_eq d nothing) (One e) (Hidden d) new is in
      subst (StandsAt bits) kept.1 (inside, omega arith, l, r)
  joined-stands nothing (Fork a b) Empty new is l r =
      subst (StandsAt bits) (done_injective {E = Error} (Fork (Fork a b) Empty) new is) (inside, omega arith, l, r)
  joined-stands nothing (Fork a b) (One e) new is l r =
      subst (StandsAt bits) (done_injective {E = Error} (Fork (Fork a b) (One e)) new is) (inside, omega arith, l, r)
  joined-stands nothing (Fork a b) (Fork c d) new is l r =
      subst (StandsAt bits) (done_injective {E = Error} (Fork (Fork a b) (Fork c d)) new is) (inside, omega arith, l, r)
  joined-stands nothing (Fork a b) (Hidden d) new is l r =
      subst (StandsAt bits) (done_injective {E = Error} (Fork (Fork a b) (Hidden d)) new is) (inside, omega arith, l, r)
  joined-stands nothing (Hidden d) Empty new is l r = absurd cc
  joined-stands nothing (Hidden d) (One e) new is l r =
      let kept = fork-is (bytes_eq d nothing) (Hidden d) (One e) new is in
      subst (StandsAt bits) kept.1 (inside, omega arith, l, r)
  joined-stands nothing (Hidden d) (Fork a b) new is l r =
      subst (StandsAt bits) (done_injective {E = Error} (Fork (Hidden d) (Fork a b)) new is) (inside, omega arith, l, r)
  joined-stands nothing (Hidden d) (Hidden e) new is l r = absurd cc

pub losing-stands : (nothing : Digest) (bits : List Bool) (level : ℕ) (key : Key) (shape new : Shape)
    → StandsAt bits shape
    → losing nothing level key shape ≡ Ok new → StandsAt bits new
losing-stands nothing bits level key Empty new stands is = subst (StandsAt bits)
    (done_injective {E = Error} Empty new is) tt
losing-stands nothing bits level key (Hidden d) new stands is = absurd cc
losing-stands nothing bits level key (One entry) new stands is = by_test (bytes_eq entry.key key) is
  where
    by_test : (b : Bool) → gives (if b then Empty else One entry) ≡ Ok new → StandsAt bits new
    by_test true is = subst (StandsAt bits) (done_injective {E = Error} Empty new is) tt
    by_test false is = subst (StandsAt bits) (done_injective {E = Error} (One entry) new is) stands
losing-stands nothing bits level key (Fork left right) new stands is = by_bit
    (λ after. losing-stands nothing (false ∷ bits) (suc level) key left after stands.2)
    (λ after. losing-stands nothing (true ∷ bits) (suc level) key right after stands.3) (bit_of level key) is
  where
    by_bit : ((after : Shape) → losing nothing (suc level) key left ≡ Ok after → StandsAt (false ∷ bits) after)
        → ((after : Shape) → losing nothing (suc level) key right ≡ Ok after → StandsAt (true ∷ bits) after)
        → (b : Bool)
        → (if b then (losing nothing (suc level) key right >>= λ r. rejoined nothing left r)
        else (losing nothing (suc level) key left >>= λ l. rejoined nothing l right)) ≡ Ok new → StandsAt bits new
    by_bit on_left on_right true is =
        let below = bind_ok (losing nothing (suc level) key right) (λ r. rejoined nothing left r) new is in
        joined-stands bits stands.0 nothing left below.0 new below.2 stands.2
        (on_right below.0 below.1)
    by_bit on_left on_right false is =
        let below = bind_ok (losing nothing (suc level) key left) (λ l. rejoined nothing l right) new is in
        joined-stands bits stands.0 nothing below.0 right new below.2
        (on_left below.0 below.1) stands.3

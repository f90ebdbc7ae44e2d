-- What a tree shows of a map after a change.
use Rattle.std.proofs.Common.{suc, ◌≡◌, ℕ, ◌+◌, ◌-◌, ◌<◌, ◌≤◌, Bool, true, false, not, cond, if◌then◌else◌, Ok, List, [], ◌∷◌, arith, refl, ap, sym, ◌∙◌, subst}
use Rattle.std.proofs.lemmas.Slice.Eq.{bytes_eq-Decides}
use Rattle.std.specs.Str.{bytes_eq}
use Rattle.ark_base.specs.declared.error.Error.{Error}
use Rattle.ark_base.specs.Outcome.{◌>>=◌}
use Rattle.ark_base.specs.Laws.Steps.{bind_ok, done_injective}
use Rattle.merkle_map.specs.Map.{Key, Digest, Entry, MapHashes, bit_of, has_bit, side, key_bits, IsMap, put}
use Rattle.merkle_map.specs.Tree.{Shape, Empty, One, Fork, Hidden, Shows, way, IsKey, StandsAt}
use Rattle.merkle_map.specs.Changes.{two_of, with_value}
use Rattle.merkle_map.proofs.Keys.{length-way}
use Rattle.merkle_map.proofs.Two.{two_holds}
use Rattle.merkle_map.proofs.Answered.{gives}
use Rattle.merkle_map.proofs.Entries.{own_bit, other_bit, side-put, other-put, map-filter, length-without}

module _ (h : MapHashes) (level : ℕ) where
  -- ---- two entries

  -- both on one side
  pub both_on : (b : Bool) (x y : Entry) (below : Shape) → level < key_bits → bit_of level x.key ≡ b
      → bit_of level y.key ≡ b → Shows h (suc level) below (x ∷ y ∷ [])
      → Shows h level (cond b (Fork Empty below) (Fork below Empty)) (x ∷ y ∷ [])
  both_on true x y below inside p q shown = (
    inside,
    omega arith,
    rw (other_bit true level x.key p, other_bit true level y.key q) refl,
    rw (own_bit true level x.key p, own_bit true level y.key q) shown,
  )
  both_on false x y below inside p q shown = (
    inside,
    omega arith,
    rw (own_bit false level x.key p, own_bit false level y.key q) shown,
    rw (other_bit false level x.key p, other_bit false level y.key q) refl,
  )

  -- one on either side
  pub parted : (b : Bool) (x y : Entry) → level < key_bits → bit_of level x.key ≡ b → bit_of level y.key ≡ not b
      → Shows h level (cond b (Fork (One y) (One x)) (Fork (One x) (One y))) (x ∷ y ∷ [])
  parted true x y inside p q = (
    inside,
    omega arith,
    rw (other_bit true level x.key p, own_bit false level y.key q) refl,
    rw (own_bit true level x.key p, other_bit false level y.key q) refl,
  )
  parted false x y inside p q = (
    inside,
    omega arith,
    rw (own_bit false level x.key p, other_bit true level y.key q) refl,
    rw (other_bit false level x.key p, own_bit true level y.key q) refl,
  )

  -- ---- a value that is put

  pub put-same : (key : Key) (value : Digest) (entry : Entry) (entries : List Entry) → bytes_eq entry.key key ≡ true
      → entries ≡ entry ∷ [] → put key value entries ≡ record { key = entry.key; value = value } ∷ []
  put-same key value entry entries same is =
      let k = (bytes_eq-Decides entry.key key).0 same in
      rw (is, same) (ap (λ (k : Key). record { key = k; value = value } ∷ []) (sym k))

  pub put-other : (key : Key) (value : Digest) (entry : Entry) (entries : List Entry) → bytes_eq entry.key key ≡ false
      → entries ≡ entry ∷ [] → put key value entries ≡ record { key = key; value = value } ∷ entry ∷ []
  put-other key value entry entries other is = rw (is, other) refl

  -- on the key's side a changed tree shows what is put, and the other side is as it was
  pub put-on : (b : Bool) (key : Key) (value : Digest) (left right new : Shape) (entries : List Entry)
      → bit_of level key ≡ b → IsMap entries → Shows h level (Fork left right) entries
      → (IsMap (side b level entries) → Shows h (suc level) (cond b right left) (side b level entries)
      → Shows h (suc level) new (put key value (side b level entries)))
      → Shows h level (cond b (Fork left new) (Fork new right)) (put key value entries)
  put-on true key value left right new entries bit is shown below = (
    shown.0,
    omega (arith, shown.1, length-without key entries is),
    subst (Shows h (suc level) left) (sym (other-put key level true bit entries value)) shown.2,
    subst (Shows h (suc level) new) (sym (side-put key level true bit entries value))
        (below (map-filter (λ e. has_bit true level e.key) entries is) shown.3),
  )
  put-on false key value left right new entries bit is shown below = (
    shown.0,
    omega (arith, shown.1, length-without key entries is),
    subst (Shows h (suc level) new) (sym (side-put key level false bit entries value))
        (below (map-filter (λ e. has_bit false level e.key) entries is) shown.2),
    subst (Shows h (suc level) right) (sym (other-put key level false bit entries value)) shown.3,
  )

-- ---- two entries

module _ (h : MapHashes) (x y : Entry) (x_key : IsKey x.key) (y_key : IsKey y.key) (differ : bytes_eq y.key x.key ≡
    false) where
  pub two-shows : (bits level : ℕ) → bits + level ≡ 256 → way level x.key ≡ way level y.key
      → Shows h level (two_of bits level x y) (x ∷ y ∷ [])
  two-shows = two_holds x y x_key y_key differ (λ level tree. Shows h level tree (x ∷ y ∷ []))
      (λ bits level b inside together p q. both_on h level b x y (two_of bits (suc level) x y) inside p q)
      (λ level b inside together. parted h level b x y inside)

-- a tree with a value that is put shows the map with it
module _ (h : MapHashes) (own : Entry) (own_key : IsKey own.key) where
  abbrev Below : ℕ → List Entry → Bool → Shape → Type 0
  Below level entries b below = (after : Shape) → StandsAt (way (suc level) own.key) below
      → with_value (suc level) own below ≡ Ok after → IsMap (side b level entries)
      → Shows h (suc level) below (side b level entries)
      → Shows h (suc level) after (put own.key own.value (side b level entries))

  pub with-shows : (level : ℕ) (shape new : Shape) (entries : List Entry) → level ≤ 256
      → StandsAt (way level own.key) shape
      → with_value level own shape ≡ Ok new → IsMap entries → Shows h level shape entries
      → Shows h level new (put own.key own.value entries)
  with-shows level Empty new entries within stands is map shown =
      subst (λ s. Shows h level s (put own.key own.value entries)) (done_injective {E = Error} (One own) new is)
      (ap (put own.key own.value) shown)
  with-shows level (One entry) new entries within stands is map shown = by_test (bytes_eq entry.key own.key) refl is
    where
      by_test : (b : Bool) → bytes_eq entry.key own.key ≡ b
          → gives (if b then One own else two_of (key_bits - level) level own entry) ≡ Ok new
          → Shows h level new (put own.key own.value entries)
      by_test true e is =
          subst (λ s. Shows h level s (put own.key own.value entries)) (done_injective {E = Error} (One own) new is)
          (put-same h level own.key own.value entry entries e shown
          ∙ ap (λ (k : Key). record { key = k; value = own.value } ∷ []) ((bytes_eq-Decides entry.key own.key).0 e))
      by_test false e is =
          let ways = sym stands.1 ∙ ap (λ (n : ℕ). way n entry.key) (length-way level own.key) in
          let sum : (key_bits - level) + level ≡ 256 = omega (arith, within) in
          subst (λ s. Shows h level s (put own.key own.value entries))
          (done_injective {E = Error} (two_of (key_bits - level) level own entry) new is)
          (subst (λ es. Shows h level (two_of (key_bits - level) level own entry) es)
          (sym (put-other h level own.key own.value entry entries e shown))
          (two-shows h own entry own_key stands.0 e (key_bits - level) level sum ways))
  with-shows level (Hidden d) new entries within stands is map shown = absurd cc
  with-shows level (Fork left right) new entries within stands is map shown = by_bit
      (λ after. with-shows (suc level) left after (side false level entries) (omega (arith, shown.0)))
      (λ after. with-shows (suc level) right after (side true level entries) (omega (arith, shown.0)))
      (bit_of level own.key) refl is
    where
      by_side : (b : Bool) → bit_of level own.key ≡ b → StandsAt (b ∷ way level own.key) (cond b right left)
          → Below level entries b (cond b right left)
          → (with_value (suc level) own (cond b right left) >>= λ s. Ok (cond b (Fork left s) (Fork s right))) ≡ Ok new
          → Shows h level new (put own.key own.value entries)
      by_side b bit there on_side is =
          let below = bind_ok (with_value (suc level) own (cond b right left))
          (λ s. Ok (cond b (Fork left s) (Fork s right))) new is in
          let at = subst (λ (c : Bool). StandsAt (c ∷ way level own.key) (cond b right left)) (sym bit) there in
          subst (λ s. Shows h level s (put own.key own.value entries)) (done_injective {E = Error}
          (cond b (Fork left below.0) (Fork below.0 right)) new below.2)
          (put-on h level b own.key own.value left right below.0 entries bit map shown
          (λ m s. on_side below.0 at below.1 m s))

      by_bit : Below level entries false left → Below level entries true right → (b : Bool) → bit_of level own.key ≡ b
          → (if b then (with_value (suc level) own right >>= λ r. Ok (Fork left r))
          else (with_value (suc level) own left >>= λ l. Ok (Fork l right))) ≡ Ok new
          → Shows h level new (put own.key own.value entries)
      by_bit on_left on_right true bit is = by_side true bit stands.3 on_right is
      by_bit on_left on_right false bit is = by_side false bit stands.2 on_left is

-- What a tree shows of a map without a key.
use Rattle.std.proofs.Common.{suc, ◌≡◌, ℕ, ◌+◌, ◌<◌, ◌≤◌, Bool, true, false, not, cond, if◌then◌else◌, Ok, List, [], ◌∷◌, length, arith, refl, ap, sym, ◌∙◌, subst}
use Rattle.std.proofs.lemmas.List.Filters.{length-filter_both}
use Rattle.std.proofs.lemmas.Slice.Eq.{bytes_eq-Decides}
use Rattle.std.specs.Str.{bytes_eq}
use Rattle.ark_base.specs.declared.error.Error.{Error}
use Rattle.ark_base.specs.Outcome.{◌>>=◌}
use Rattle.ark_base.specs.Laws.Steps.{bind_ok, done_injective}
use Rattle.std.specs.List.{filter}
use Rattle.merkle_map.specs.Map.{Key, Digest, Entry, MapHashes, bit_of, has_bit, side, key_bits, without}
use Rattle.merkle_map.specs.Tree.{Shape, Empty, One, Fork, Hidden, Shows}
use Rattle.merkle_map.specs.Changes.{rejoined, losing}
use Rattle.merkle_map.proofs.Answered.{gives}
use Rattle.merkle_map.proofs.Entries.{side-without, other-without}
use Rattle.merkle_map.proofs.Rest.{fork-is}

-- where no element fails a test, all pass
filter_all : {A : Type 0} (p q : A → Bool) → ((x : A) → q x ≡ not (p x)) → (xs : List A) → filter q xs ≡ []
    → filter p xs ≡ xs
filter_all p q other [] e = refl
filter_all {A} p q other (x ∷ xs) e = by_test (p x) refl e (filter_all p q other xs)
  where
    by_test : (b : Bool) → p x ≡ b → cond (q x) (x ∷ filter q xs) (filter q xs) ≡ []
        → (filter q xs ≡ [] → filter p xs ≡ xs) → cond b (x ∷ filter p xs) (filter p xs) ≡ x ∷ xs
    by_test true t e ih = let no = other x ∙ ap not t in ap (λ l. x ∷ l) (ih (rw no at e))
    by_test false t e ih = let yes = other x ∙ ap not t in let e2 = rw yes at e in absurd cc

is_not : (b : Bool) → b ≡ not (not b)
is_not true = refl
is_not false = refl

-- all entries are on one side
all_right : (level : ℕ) (entries : List Entry) → side false level entries ≡ [] → side true level entries ≡ entries
all_right level entries e =
    filter_all (λ x. has_bit true level x.key) (λ x. has_bit false level x.key) (λ x. refl) entries e

all_left : (level : ℕ) (entries : List Entry) → side true level entries ≡ [] → side false level entries ≡ entries
all_left level entries e = filter_all (λ x. has_bit false level x.key) (λ x. has_bit true level x.key)
    (λ x. is_not (bit_of level x.key)) entries e

both_sides : (level : ℕ) (entries : List Entry)
    → length (side true level entries) + length (side false level entries) ≡ length entries
both_sides level entries =
    length-filter_both (λ x. has_bit true level x.key) (λ x. has_bit false level x.key) (λ x. refl)
    entries

module _ (h : MapHashes) (level : ℕ) where
  -- ---- two sides are joined

  -- two entries or more, where both sides have so many at least
  at_least : (left right : Shape) (entries : List Entry) (a b : ℕ) → level < key_bits → 2 ≤ a + b
      → a ≤ length (side false level entries) → b ≤ length (side true level entries)
      → Shows h (suc level) left (side false level entries) → Shows h (suc level) right (side true level entries)
      → Shows h level (Fork left right) entries
  at_least left right entries a b inside two few many l r =
      (inside, omega (arith, two, few, many, both_sides level entries), l, r)

  -- what has another digest than nothing has an entry
  something : (d : Digest) → bytes_eq d h.nothing ≡ false → (below : List Entry)
      → Shows h (suc level) (Hidden d) below → 1 ≤ length below
  something d other (x ∷ xs) shown = omega arith
  something d other [] shown = by_digest
      (sym other ∙ (bytes_eq-Decides d h.nothing).1 (sym (done_injective {E = Error} h.nothing d shown)))
    where
      by_digest : false ≡ true → 1 ≤ 0
      by_digest e = absurd cc

  -- what two sides show, they show together
  pub joined-shows : (left right new : Shape) (entries : List Entry) → level < key_bits
      → rejoined h.nothing left right ≡ Ok new
      → Shows h (suc level) left (side false level entries) → Shows h (suc level) right (side true level entries)
      → Shows h level new entries
  joined-shows Empty Empty new entries inside is l r =
      subst (λ s. Shows h level s entries) (done_injective {E = Error} Empty new is) (sym (all_right level entries l)
      ∙ r)
  joined-shows Empty (One e) new entries inside is l r =
      subst (λ s. Shows h level s entries) (done_injective {E = Error} (One e) new is) (sym
      (all_right level entries l) ∙ r)
  joined-shows Empty (Fork a b) new entries inside is l r =
      subst (λ s. Shows h level s entries) (done_injective {E = Error} (Fork Empty (Fork a b)) new is)
      (at_least Empty (Fork a b) entries 0 2 inside (omega arith) (omega arith) r.1 l r)
  joined-shows Empty (Hidden d) new entries inside is l r = absurd cc
  joined-shows (One e) Empty new entries inside is l r =
      subst (λ s. Shows h level s entries) (done_injective {E = Error} (One e) new is) (sym
      (all_left level entries r) ∙ l)
  joined-shows (One e) (One f) new entries inside is l r =
      let one = ap length l in
      let other = ap length r in
      subst (λ s. Shows h level s entries) (done_injective {E = Error} (Fork (One e) (One f)) new is)
      (at_least (One e) (One f) entries 1 1 inside (omega arith) (omega (arith, one)) (omega (arith, other)) l r)
  joined-shows (One e) (Fork a b) new entries inside is l r =
      subst (λ s. Shows h level s entries) (done_injective {E = Error} (Fork (One e) (Fork a b)) new is)
      (at_least (One e) (Fork a b) entries 0 2 inside (omega arith) (omega arith) r.1 l r)
  joined-shows (One e) (Hidden d) new entries inside is l r =
      let kept = fork-is (bytes_eq d h.nothing) (One e) (Hidden d) new is in
      let one = ap length l in
      subst (λ s. Shows h level s entries) kept.1
      (at_least (One e) (Hidden d) entries 1 1 inside (omega arith) (omega (arith, one))
      (something d kept.0 (side true level entries) r) l r)
  joined-shows (Fork a b) right new entries inside is l r =
      let all : rejoined h.nothing (Fork a b) right ≡ Ok (Fork (Fork a b) right) = forks a b right in
      subst (λ s. Shows h level s entries) (done_injective {E = Error} (Fork (Fork a b) right) new (sym all ∙ is))
      (at_least (Fork a b) right entries 2 0 inside (omega arith) l.1 (omega arith) l r)
    where
      forks : (a b right : Shape) → rejoined h.nothing (Fork a b) right ≡ Ok (Fork (Fork a b) right)
      forks a b Empty = refl
      forks a b (One e) = refl
      forks a b (Fork c d) = refl
      forks a b (Hidden d) = refl
  joined-shows (Hidden d) Empty new entries inside is l r = absurd cc
  joined-shows (Hidden d) (One e) new entries inside is l r =
      let kept = fork-is (bytes_eq d h.nothing) (Hidden d) (One e) new is in
      let one = ap length r in
      subst (λ s. Shows h level s entries) kept.1
      (at_least (Hidden d) (One e) entries 1 1 inside (omega arith) (something d kept.0 (side false level entries) l)
      (omega (arith, one)) l r)
  joined-shows (Hidden d) (Fork a b) new entries inside is l r =
      subst (λ s. Shows h level s entries) (done_injective {E = Error} (Fork (Hidden d) (Fork a b)) new is)
      (at_least (Hidden d) (Fork a b) entries 0 2 inside (omega arith) (omega arith) r.1 l r)
  joined-shows (Hidden d) (Hidden e) new entries inside is l r = absurd cc

  -- ---- a key that is taken out

  pub take-same : (key : Key) (entry : Entry) (entries : List Entry) → bytes_eq entry.key key ≡ true
      → entries ≡ entry ∷ [] → without key entries ≡ []
  take-same key entry entries same is = rw (is, same) refl

  pub take-other : (key : Key) (entry : Entry) (entries : List Entry) → bytes_eq entry.key key ≡ false
      → entries ≡ entry ∷ [] → without key entries ≡ entry ∷ []
  take-other key entry entries other is = rw (is, other) refl

  -- both sides, where the key is taken out of its own
  take-on : (b : Bool) (key : Key) (left right new : Shape) (entries : List Entry) → bit_of level key ≡ b
      → Shows h level (Fork left right) entries
      → (Shows h (suc level) (cond b right left) (side b level entries)
      → Shows h (suc level) new (without key (side b level entries)))
      → Shows h (suc level) (cond b left new) (side false level (without key entries))
      × Shows h (suc level) (cond b new right) (side true level (without key entries))
  take-on true key left right new entries bit shown below = (
    subst (Shows h (suc level) left) (sym (other-without key level true bit entries)) shown.2,
    subst (Shows h (suc level) new) (sym (side-without key level true bit entries)) (below shown.3),
  )
  take-on false key left right new entries bit shown below = (
    subst (Shows h (suc level) new) (sym (side-without key level false bit entries)) (below shown.2),
    subst (Shows h (suc level) right) (sym (other-without key level false bit entries)) shown.3,
  )

module _ (h : MapHashes) where
  abbrev Below : ℕ → Key → List Entry → Bool → Shape → Type 0
  Below level key entries b below = (after : Shape) → losing h.nothing (suc level) key below ≡ Ok after
      → Shows h (suc level) below (side b level entries) → Shows h (suc level) after (without key
      (side b level entries))

  -- what a tree shows, it shows without the key once it has lost its entry
  pub losing-shows : (level : ℕ) (key : Key) (shape new : Shape) (entries : List Entry)
      → losing h.nothing level key shape ≡ Ok new
      → Shows h level shape entries → Shows h level new (without key entries)
  losing-shows level key Empty new entries is shown =
      subst (λ s. Shows h level s (without key entries)) (done_injective {E = Error} Empty new is) (ap
      (without key) shown)
  losing-shows level key (One entry) new entries is shown = by_test (bytes_eq entry.key key) refl is
    where
      by_test : (b : Bool) → bytes_eq entry.key key ≡ b → gives (if b then Empty else One entry) ≡ Ok new
          → Shows h level new (without key entries)
      by_test true e is = subst (λ s. Shows h level s (without key entries)) (done_injective {E = Error} Empty new is)
          (take-same h level key entry entries e shown)
      by_test false e is =
          subst (λ s. Shows h level s (without key entries)) (done_injective {E = Error} (One entry) new is)
          (take-other h level key entry entries e shown)
  losing-shows level key (Hidden d) new entries is shown = absurd cc
  losing-shows level key (Fork left right) new entries is shown = by_bit
      (λ after. losing-shows (suc level) key left after (side false level entries))
      (λ after. losing-shows (suc level) key right after (side true level entries)) (bit_of level key) refl is
    where
      by_bit : Below level key entries false left → Below level key entries true right → (b : Bool)
          → bit_of level key ≡ b
          → (if b then (losing h.nothing (suc level) key right >>= λ r. rejoined h.nothing left r)
          else (losing h.nothing (suc level) key left >>= λ l. rejoined h.nothing l right)) ≡ Ok new
          → Shows h level new (without key entries)
      by_bit on_left on_right true bit is =
          let below = bind_ok (losing h.nothing (suc level) key right) (λ r. rejoined h.nothing left r) new is in
          let sides = take-on h level true key left right below.0 entries bit shown (on_right below.0 below.1) in
          joined-shows h level left below.0 new (without key entries) shown.0 below.2 sides.0 sides.1
      by_bit on_left on_right false bit is =
          let below = bind_ok (losing h.nothing (suc level) key left) (λ l. rejoined h.nothing l right) new is in
          let sides = take-on h level false key left right below.0 entries bit shown (on_left below.0 below.1) in
          joined-shows h level below.0 right new (without key entries) shown.0 below.2 sides.0 sides.1

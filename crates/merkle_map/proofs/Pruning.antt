-- What a pruned tree has and shows.
use Rattle.std.proofs.Common.{suc, ◌≡◌, ℕ, ◌+◌, ◌==◌, Bool, true, false, cond, if◌then◌else◌, Ok, IsOk, List, [], ◌∷◌, length, arith, refl, ap, sym, ◌∙◌, subst, inl, inr}
use Rattle.std.specs.List.{filter}
use Rattle.std.specs.Str.{bytes_eq}
use Rattle.ark_base.specs.declared.error.Error.{Error}
use Rattle.ark_base.specs.Outcome.{Outcome, ◌>>=◌}
use Rattle.ark_base.specs.Laws.Steps.{bind_ok, done_injective}
use Rattle.merkle_map.specs.Map.{Key, Digest, Entry, MapHashes, bit_of, has_bit, side}
use Rattle.merkle_map.specs.Tree.{Shape, Empty, One, Fork, Hidden, shape_digest, Shows, weight, StandsAt, IsWhole}
use Rattle.merkle_map.specs.Changes.{known_at}
use Rattle.merkle_map.specs.Pruned.{covered, aside, is_needed, keys_with, pruned, FitsKeys, IsAmong}
use Rattle.merkle_map.proofs.Answered.{gives}
use Rattle.merkle_map.proofs.Entries.{own_bit}
use Rattle.merkle_map.proofs.Shows.{shows-digest}

-- forks that stand on ways stand above the last bit
pub stands-fits : (bits : List Bool) (level : ℕ) (shape : Shape) → length bits ≡ level → StandsAt bits shape
    → FitsKeys level shape
stands-fits bits level Empty long stands = tt
stands-fits bits level (One entry) long stands = tt
stands-fits bits level (Hidden digest) long stands = tt
stands-fits bits level (Fork left right) long stands = (
  omega (arith, stands.0, long),
  stands-fits (false ∷ bits) (suc level) left (omega (arith, long)) stands.2,
  stands-fits (true ∷ bits) (suc level) right (omega (arith, long)) stands.3,
)

-- an equation of outcomes as one of their values
pub moved : (P : Shape → Type 0) (s n : Shape) → gives s ≡ Ok n → P s → P n
moved P s n e p = subst P (done_injective {E = Error} s n e) p

pub among-filter : (p : Key → Bool) (key : Key) (keys : List Key) → p key ≡ true → IsAmong key keys
    → IsAmong key (filter p keys)
among-filter p key [] has h = absurd h
among-filter p key (first ∷ keys) has (inl same) =
    let e : p first ≡ true = ap p same ∙ has in rw e (inl same)
among-filter p key (first ∷ keys) has (inr rest) = by_test (p first) (among-filter p key keys has rest)
  where
    by_test : (b : Bool) → IsAmong key (filter p keys) → IsAmong key (cond b (first ∷ filter p keys) (filter p keys))
    by_test true h = inr h
    by_test false h = h

module _ (h : MapHashes) where
  -- ---- what is set aside

  pub record IsCopy (level : ℕ) (bits : List Bool) (old new : Shape) : Type 0 where
    pub digest : shape_digest h new ≡ shape_digest h old
    pub shows : (entries : List Entry) → Shows h level old entries → Shows h level new entries
    pub weighs : weight new ≡ weight old
    pub stands : StandsAt bits old → StandsAt bits new

  pub same : (level : ℕ) (bits : List Bool) (s n : Shape) → gives s ≡ Ok n → IsCopy level bits s n
  same level bits s n e = moved (IsCopy level bits s) s n e (record {
    digest = refl;
    shows = λ entries shown. shown;
    weighs = refl;
    stands = λ stands. stands;
  })

  pub forks : (level : ℕ) (bits : List Bool) (l r m n : Shape) → IsCopy (suc level) (false ∷ bits) l m
      → IsCopy (suc level) (true ∷ bits) r n → IsCopy level bits (Fork l r) (Fork m n)
  forks level bits l r m n on_left on_right = record {
    digest = ap (λ o. o >>= λ a. shape_digest h n >>= λ b. h.pair a b) on_left.digest
        ∙ ap (λ o. shape_digest h l >>= λ a. o >>= λ b. h.pair a b) on_right.digest;
    shows = λ entries shown. (
      shown.0,
      shown.1,
      on_left.shows (side false level entries) shown.2,
      on_right.shows (side true level entries) shown.3,
    );
    weighs = refl;
    stands = λ stands. (
      stands.0,
      omega (arith, stands.1, on_left.weighs, on_right.weighs),
      on_left.stands stands.2,
      on_right.stands stands.3,
    );
  }

  abbrev pub covered-both : Shape → Shape → Outcome Shape
  covered-both left right = covered h left >>= λ l. covered h right >>= λ r. Ok (Fork l r)

  abbrev pub covered-by : Digest → Shape → Shape → Outcome Shape
  covered-by digest left right =
      if bytes_eq digest h.nothing then covered-both left right else gives (Hidden digest)

  pub covers : (level : ℕ) (bits : List Bool) (s n : Shape) → covered h s ≡ Ok n → IsCopy level bits s n
  covers level bits Empty n e = same level bits Empty n e
  covers level bits (One entry) n e = same level bits (One entry) n e
  covers level bits (Hidden digest) n e = same level bits (Hidden digest) n e
  covers level bits (Fork left right) n e =
      let d = bind_ok (shape_digest h (Fork left right)) (λ digest. covered-by digest left right) n e in
      by_test d.0 d.1 (covers (suc level) (false ∷ bits) left) (covers (suc level) (true ∷ bits) right)
      (bytes_eq d.0 h.nothing) d.2
    where
      by_test : (d : Digest) → shape_digest h (Fork left right) ≡ Ok d
          → ((m : Shape) → covered h left ≡ Ok m → IsCopy (suc level) (false ∷ bits) left m)
          → ((m : Shape) → covered h right ≡ Ok m → IsCopy (suc level) (true ∷ bits) right m) → (b : Bool)
          → (if b then covered-both left right else gives (Hidden d)) ≡ Ok n → IsCopy level bits (Fork left right) n
      by_test d is on_left on_right true e =
          let l = bind_ok (covered h left) (λ l. covered h right >>= λ r. Ok (Fork l r)) n e in
          let r = bind_ok (covered h right) (λ r. Ok (Fork l.0 r)) n l.2 in
          moved (IsCopy level bits (Fork left right)) (Fork l.0 r.0) n r.2
          (forks level bits left right l.0 r.0 (on_left l.0 l.1) (on_right r.0 r.1))
      by_test d is on_left on_right false e = moved (IsCopy level bits (Fork left right)) (Hidden d) n e (record {
        digest = sym is;
        shows = λ entries shown. shows-digest h level (Fork left right) entries shown ∙ is;
        weighs = refl;
        stands = λ stands. tt;
      })

  asides : (tops : Bool) (level : ℕ) (bits : List Bool) (s n : Shape) → aside h tops s ≡ Ok n → IsCopy level bits s n
  asides false level bits s n e = covers level bits s n e
  asides true level bits Empty n e = same level bits Empty n e
  asides true level bits (One entry) n e = same level bits (One entry) n e
  asides true level bits (Hidden digest) n e = same level bits (Hidden digest) n e
  asides true level bits (Fork left right) n e =
      let l = bind_ok (covered h left) _ n e in
      let r = bind_ok (covered h right) (λ r. Ok (Fork l.0 r)) n l.2 in
      moved (IsCopy level bits (Fork left right)) (Fork l.0 r.0) n r.2 (forks level bits left right l.0 r.0
      (covers (suc level) (false ∷ bits) left l.0 l.1) (covers (suc level) (true ∷ bits) right r.0 r.1))

  -- ---- a pruned tree is a copy

  -- the sides of a fork, with the keys that stand on both
  abbrev pub left-pruned : Bool → ℕ → List Key → Shape → Shape → Outcome Shape
  left-pruned tops level keys left right =
      pruned h tops (is_needed tops (keys_with false level keys) (suc level) (keys_with true level keys) right)
      (suc level) (keys_with false level keys) left

  abbrev pub right-pruned : Bool → ℕ → List Key → Shape → Shape → Outcome Shape
  right-pruned tops level keys left right =
      pruned h tops (is_needed tops (keys_with true level keys) (suc level) (keys_with false level keys) left)
      (suc level) (keys_with true level keys) right

  pub sides-of : (tops is_shown : Bool) (level : ℕ) (key : Key) (keys : List Key) (left right n : Shape)
      → pruned h tops is_shown level (key ∷ keys) (Fork left right) ≡ Ok n
      → (l : Shape) × (r : Shape) × (left-pruned tops level (key ∷ keys) left right ≡ Ok l)
      × (right-pruned tops level (key ∷ keys) left right ≡ Ok r) × (gives (Fork l r) ≡ Ok n)
  sides-of tops is_shown level key keys left right n e =
      let l = bind_ok (left-pruned tops level (key ∷ keys) left right)
      (λ l. right-pruned tops level (key ∷ keys) left right >>= λ r. Ok (Fork l r)) n e in
      let r = bind_ok (right-pruned tops level (key ∷ keys) left right) (λ r. Ok (Fork l.0 r)) n l.2 in
      (l.0, r.0, l.1, r.1, r.2)

  -- a fork is pruned by its sides
  pub fork-made : (tops is_shown : Bool) (level : ℕ) (keys on_left on_right : List Key) (whole left right l r : Shape)
      (is_left is_right : Bool) → (length keys == 0) ≡ false → whole ≡ Fork left right
      → gives (keys_with false level keys) ≡ Ok on_left → gives (keys_with true level keys) ≡ Ok on_right
      → gives (is_needed tops on_left (level + 1) on_right right) ≡ Ok is_left
      → gives (is_needed tops on_right (level + 1) on_left left) ≡ Ok is_right
      → pruned h tops is_left (level + 1) on_left left ≡ Ok l → pruned h tops is_right (level + 1) on_right right ≡ Ok r
      → pruned h tops is_shown level keys whole ≡ gives (Fork l r)
  fork-made tops is_shown level [] on_left on_right whole left right l r x y some is a b c d m n = absurd cc
  fork-made tops is_shown level (key ∷ keys) on_left on_right whole left right l r x y some is a b c d m n =
      let more : suc level ≡ level + 1 = omega arith in
      let f = done_injective {E = Error} (keys_with false level (key ∷ keys)) on_left a in
      let t = done_injective {E = Error} (keys_with true level (key ∷ keys)) on_right b in
      let p = done_injective {E = Error} (is_needed tops on_left (level + 1) on_right right) x c in
      let q = done_injective {E = Error} (is_needed tops on_right (level + 1) on_left left) y d in
      let first : left-pruned tops level (key ∷ keys) left right ≡ Ok l =
      ap (λ n. pruned h tops (is_needed tops (keys_with false level (key ∷ keys)) n (keys_with true level
      (key ∷ keys)) right) n (keys_with false level (key ∷ keys)) left) more
      ∙ ap (λ k. pruned h tops (is_needed tops k (level + 1) (keys_with true level (key ∷ keys)) right) (level + 1) k
      left) f
      ∙ ap (λ k. pruned h tops (is_needed tops on_left (level + 1) k right) (level + 1) on_left left) t
      ∙ ap (λ s. pruned h tops s (level + 1) on_left left) p ∙ m in
      let second : right-pruned tops level (key ∷ keys) left right ≡ Ok r =
      ap (λ n. pruned h tops (is_needed tops (keys_with true level (key ∷ keys)) n (keys_with false level
      (key ∷ keys)) left) n (keys_with true level (key ∷ keys)) right) more
      ∙ ap (λ k. pruned h tops (is_needed tops k (level + 1) (keys_with false level (key ∷ keys)) left) (level + 1) k
      right) t
      ∙ ap (λ k. pruned h tops (is_needed tops on_right (level + 1) k left) (level + 1) on_right right) f
      ∙ ap (λ s. pruned h tops s (level + 1) on_right right) q ∙ n in
      ap (pruned h tops is_shown level (key ∷ keys)) is
      ∙ ap (λ o. o >>= λ l. right-pruned tops level (key ∷ keys) left right >>= λ r. Ok (Fork l r)) first
      ∙ ap (λ o. o >>= λ r. Ok (Fork l r)) second

  pub prunes : (tops : Bool) (level : ℕ) (is_shown : Bool) (bits : List Bool) (keys : List Key) (s n : Shape)
      → pruned h tops is_shown level keys s ≡ Ok n
      → IsCopy level bits s n
  prunes tops level is_shown bits [] s n e = asides is_shown level bits s n e
  prunes tops level is_shown bits (key ∷ keys) Empty n e = same level bits Empty n e
  prunes tops level is_shown bits (key ∷ keys) (One entry) n e = same level bits (One entry) n e
  prunes tops level is_shown bits (key ∷ keys) (Hidden digest) n e = same level bits (Hidden digest) n e
  prunes tops level is_shown bits (key ∷ keys) (Fork left right) n e =
      let made = sides-of tops is_shown level key keys left right n e in
      moved (IsCopy level bits (Fork left right)) (Fork made.0 made.1) n made.4
      (forks level bits left right made.0 made.1
      (prunes tops (suc level) _ (false ∷ bits) (keys_with false level (key ∷ keys)) left made.0 made.2)
      (prunes tops (suc level) _ (true ∷ bits) (keys_with true level (key ∷ keys)) right made.1 made.3))

  -- and has the same at the keys
  pub prunes-known : (tops : Bool) (level : ℕ) (is_shown : Bool) (keys : List Key) (key : Key) (s n : Shape)
      → IsAmong key keys
      → pruned h tops is_shown level keys s ≡ Ok n → known_at level key n ≡ known_at level key s
  prunes-known tops level is_shown [] key s n among e = absurd among
  prunes-known tops level is_shown (k ∷ keys) key Empty n among e =
      ap (known_at level key) (sym (done_injective {E = Error} Empty n e))
  prunes-known tops level is_shown (k ∷ keys) key (One entry) n among e =
      ap (known_at level key) (sym (done_injective {E = Error} (One entry) n e))
  prunes-known tops level is_shown (k ∷ keys) key (Hidden digest) n among e =
      ap (known_at level key) (sym (done_injective {E = Error} (Hidden digest) n e))
  prunes-known tops level is_shown (k ∷ keys) key (Fork left right) n among e =
      let made = sides-of tops is_shown level k keys left right n e in
      ap (known_at level key) (sym (done_injective {E = Error} (Fork made.0 made.1) n made.4))
      ∙ by_bit made.0 made.1
      (λ a. prunes-known tops (suc level) _ (keys_with false level (k ∷ keys)) key left made.0 a made.2)
      (λ a. prunes-known tops (suc level) _ (keys_with true level (k ∷ keys)) key right made.1 a made.3)
      (bit_of level key) refl
    where
      by_bit : (m n : Shape)
          → (IsAmong key (keys_with false level (k ∷ keys)) → known_at (suc level) key m ≡ known_at
          (suc level) key left)
          → (IsAmong key (keys_with true level (k ∷ keys)) → known_at (suc level) key n ≡ known_at
          (suc level) key right)
          → (b : Bool) → bit_of level key ≡ b → (if b then known_at (suc level) key n else known_at (suc level) key m)
          ≡ (if b then known_at (suc level) key right else known_at (suc level) key left)
      by_bit m n on_left on_right true bit =
          on_right (among-filter (λ k. has_bit true level k) key (k ∷ keys) (own_bit true level key bit) among)
      by_bit m n on_left on_right false bit =
          on_left (among-filter (λ k. has_bit false level k) key (k ∷ keys) (own_bit false level key bit) among)

  -- ---- a tree that hides nothing

  pub whole-known : (level : ℕ) (key : Key) (s : Shape) → IsWhole s → IsOk (known_at level key s)
  whole-known level key Empty whole = refl
  whole-known level key (One entry) whole = refl
  whole-known level key (Hidden digest) whole = absurd whole
  whole-known level key (Fork left right) whole = by_bit (whole-known (suc level) key left whole.0)
      (whole-known (suc level) key right whole.1) (bit_of level key)
    where
      by_bit : IsOk (known_at (suc level) key left) → IsOk (known_at (suc level) key right) → (b : Bool)
          → IsOk (if b then known_at (suc level) key right else known_at (suc level) key left)
      by_bit on_left on_right true = on_right
      by_bit on_left on_right false = on_left

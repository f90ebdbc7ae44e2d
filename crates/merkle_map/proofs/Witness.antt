-- The witness of a tree that hides nothing shows what changes of its keys need.
use Rattle.std.proofs.Common.{zero, suc, ◌≡◌, ℕ, ◌+◌, ◌≤◌, Bool, true, false, if◌then◌else◌, List, [], ◌∷◌, length, Ok, Err, IsOk, IfOk, arith, refl, sym, ◌∙◌, inl, inr, ◌||◌}
use Rattle.std.specs.Str.{bytes_eq}
use Rattle.std.proofs.lemmas.Slice.Eq.{bytes_eq-Decides}
use Rattle.ark_base.specs.Outcome.{Outcome, ◌>>=◌, AnswersBy}
use Rattle.ark_base.specs.Laws.Steps.{bind_ok}
use Rattle.merkle_map.specs.Map.{Key, Digest, MapHashes, bit_of, has_bit}
use Rattle.merkle_map.specs.Tree.{Shape, Empty, One, Fork, Hidden, IsWhole, shape_digest, way, weight, StandsAt}
use Rattle.merkle_map.specs.Changes.{tree_without}
use Rattle.merkle_map.specs.Pruned.{aside, clears, covered, has_key, is_needed, keys_with, pruned, AreAmong, CanChange, CanLose, IsAmong}
use Rattle.merkle_map.specs.Transition.{ChangeSeen, Removes, tree_after_all}
use Rattle.merkle_map.proofs.Answered.{gives}
use Rattle.merkle_map.proofs.Entries.{own_bit}
use Rattle.merkle_map.proofs.Pruning.{among-filter, covered-both, covered-by, moved, sides-of}
use Rattle.merkle_map.proofs.Ready.{Stays, IsBeside, On, IsReady, AreOwn, changes-all, ready-none, seen-beside}
use Rattle.merkle_map.proofs.Rest.{IsSeen}
use Rattle.merkle_map.proofs.Wholes.{heads}

-- a list has a key that is among its own
among-has : (key : Key) (keys : List Key) → IsAmong key keys → has_key key keys ≡ true
among-has key [] among = absurd among
among-has key (first ∷ keys) (inl same) = let e = (bytes_eq-Decides first key).1 same in rw e refl
among-has key (first ∷ keys) (inr rest) = by_test (bytes_eq first key) (among-has key keys rest)
  where
    by_test : (b : Bool) → has_key key keys ≡ true → (b || has_key key keys) ≡ true
    by_test true e = refl
    by_test false e = e

module _ (h : MapHashes) (Own : Key → Type 0) where
  -- The list has each of the keys whose ways lead through a place.
  abbrev Has : List Bool → List Key → Type 0
  Has bits keys = (key : Key) → way (length bits) key ≡ bits → Own key → IsAmong key keys

  -- so it is one level below
  has-below : (b : Bool) (bits : List Bool) (keys : List Key) → Has bits keys
      → Has (b ∷ bits) (keys_with b (length bits) keys)
  has-below b bits keys has key on own =
      let parts = heads (bit_of (length bits) key) b (way (length bits) key) bits on in
      among-filter (λ k. has_bit b (length bits) k) key keys (own_bit b (length bits) key parts.0)
      (has key parts.1 own)

  has-none : (b : Bool) (bits : List Bool) → Has bits [] → Has (b ∷ bits) []
  has-none b bits has key on own =
      has key (heads (bit_of (length bits) key) b (way (length bits) key) bits on).1 own

  -- ---- something stays

  -- one side of a fork has something
  either : (l r m n : Shape) → 2 ≤ weight l + weight r → (1 ≤ weight l → Stays h.nothing Own m)
      → (1 ≤ weight r → Stays h.nothing Own n) → Stays h.nothing Own (Fork m n)
  either l r m n two on_left on_right = by_weight (weight l) refl
    where
      by_weight : (w : ℕ) → weight l ≡ w → Stays h.nothing Own (Fork m n)
      by_weight zero e = inr (on_right (omega (arith, two, e)))
      by_weight (suc w) e = inl (on_left (omega (arith, e)))

  covers-stays : (bits : List Bool) (s n : Shape) → IsWhole s → StandsAt bits s → Has bits [] → 1 ≤ weight s
      → covered h s ≡ Ok n → Stays h.nothing Own n
  covers-stays bits Empty n whole stands has some e = absurd (none some)
    where
      none : 1 ≤ 0 → ⊥
      none some = omega (arith, some)
  covers-stays bits (One entry) n whole stands has some e =
      moved (Stays h.nothing Own) (One entry) n e (has entry.key stands.1)
  covers-stays bits (Hidden d) n whole stands has some e = absurd whole
  covers-stays bits (Fork l r) n whole stands has some e =
      let d = bind_ok (shape_digest h (Fork l r)) (λ digest. covered-by h digest l r) n e in
      by_test d.0
      (λ m is some. covers-stays (false ∷ bits) l m whole.0 stands.2 (has-none false bits has) some is)
      (λ m is some. covers-stays (true ∷ bits) r m whole.1 stands.3 (has-none true bits has) some is)
      (bytes_eq d.0 h.nothing) refl d.2
    where
      by_test : (d : Digest) → ((m : Shape) → covered h l ≡ Ok m → 1 ≤ weight l → Stays h.nothing Own m)
          → ((m : Shape) → covered h r ≡ Ok m → 1 ≤ weight r → Stays h.nothing Own m) → (b : Bool)
          → bytes_eq d h.nothing ≡ b → (if b then covered-both h l r else gives (Hidden d)) ≡ Ok n
          → Stays h.nothing Own n
      by_test d on_left on_right true is e =
          let m = bind_ok (covered h l) (λ l. covered h r >>= λ r. Ok (Fork l r)) n e in
          let k = bind_ok (covered h r) (λ r. Ok (Fork m.0 r)) n m.2 in
          moved (Stays h.nothing Own) (Fork m.0 k.0) n k.2
          (either l r m.0 k.0 stands.1 (on_left m.0 m.1) (on_right k.0 k.1))
      by_test d on_left on_right false is e = moved (Stays h.nothing Own) (Hidden d) n e is

  asides-stay : (is_shown : Bool) (bits : List Bool) (s n : Shape) → IsWhole s → StandsAt bits s → Has bits []
      → 1 ≤ weight s → aside h is_shown s ≡ Ok n → Stays h.nothing Own n
  asides-stay false bits s n whole stands has some e = covers-stays bits s n whole stands has some e
  asides-stay true bits Empty n whole stands has some e = covers-stays bits Empty n whole stands has some e
  asides-stay true bits (One entry) n whole stands has some e =
      covers-stays bits (One entry) n whole stands has some e
  asides-stay true bits (Hidden d) n whole stands has some e = absurd whole
  asides-stay true bits (Fork l r) n whole stands has some e =
      let m = bind_ok (covered h l) (λ l. covered h r >>= λ r. Ok (Fork l r)) n e in
      let k = bind_ok (covered h r) (λ r. Ok (Fork m.0 r)) n m.2 in
      moved (Stays h.nothing Own) (Fork m.0 k.0) n k.2 (either l r m.0 k.0 stands.1
      (λ some. covers-stays (false ∷ bits) l m.0 whole.0 stands.2 (has-none false bits has) some m.1)
      (λ some. covers-stays (true ∷ bits) r k.0 whole.1 stands.3 (has-none true bits has) some k.1))

  clears-some : (level : ℕ) (s : Shape) → IsWhole s → clears level [] s ≡ false → 1 ≤ weight s
  clears-some level Empty whole e = absurd cc
  clears-some level (One entry) whole e = omega arith
  clears-some level (Hidden d) whole e = absurd whole
  clears-some level (Fork l r) whole e = omega arith

  -- what the keys do not clear
  prunes-stays : (bits : List Bool) (is_shown : Bool) (keys : List Key) (s n : Shape) → IsWhole s → StandsAt bits s
      → Has bits keys → clears (length bits) keys s ≡ false → pruned h true is_shown (length bits) keys s ≡ Ok n
      → Stays h.nothing Own n
  prunes-stays bits is_shown [] s n whole stands has clear e =
      asides-stay is_shown bits s n whole stands has (clears-some (length bits) s whole clear) e
  prunes-stays bits is_shown (k ∷ keys) Empty n whole stands has clear e = absurd cc
  prunes-stays bits is_shown (k ∷ keys) (One entry) n whole stands has clear e =
      moved (Stays h.nothing Own) (One entry) n e (λ own. differ
      (sym (among-has entry.key (k ∷ keys) (has entry.key stands.1 own)) ∙ clear))
    where
      differ : true ≡ false → ⊥
      differ e = absurd cc
  prunes-stays bits is_shown (k ∷ keys) (Hidden d) n whole stands has clear e = absurd whole
  prunes-stays bits is_shown (k ∷ keys) (Fork l r) n whole stands has clear e =
      let made = sides-of h true is_shown (length bits) k keys l r n e in
      moved (Stays h.nothing Own) (Fork made.0 made.1) n made.4 (by_test made.0 made.1
      (λ c. prunes-stays (false ∷ bits) _ (keys_with false (length bits) (k ∷ keys)) l made.0 whole.0 stands.2
      (has-below false bits (k ∷ keys) has) c made.2)
      (λ c. prunes-stays (true ∷ bits) _ (keys_with true (length bits) (k ∷ keys)) r made.1 whole.1 stands.3
      (has-below true bits (k ∷ keys) has) c made.3)
      (clears (suc (length bits)) (keys_with false (length bits) (k ∷ keys)) l) refl clear)
    where
      by_test : (m n : Shape)
          → (clears (suc (length bits)) (keys_with false (length bits) (k ∷ keys)) l ≡ false → Stays h.nothing Own m)
          → (clears (suc (length bits)) (keys_with true (length bits) (k ∷ keys)) r ≡ false → Stays h.nothing Own n)
          → (b : Bool) → clears (suc (length bits)) (keys_with false (length bits) (k ∷ keys)) l ≡ b
          → (if b then clears (suc (length bits)) (keys_with true (length bits) (k ∷ keys)) r else false) ≡ false
          → Stays h.nothing Own (Fork m n)
      by_test m n on_left on_right true is clear = inr (on_right clear)
      by_test m n on_left on_right false is clear = inl (on_left is)

  -- ---- what is beside a way

  covers-beside : (l m other : Shape) → IsWhole l → covered h l ≡ Ok m → Stays h.nothing Own other
      → IsBeside h.nothing Own m other
  covers-beside Empty m other whole e stays = moved (λ s. IsBeside h.nothing Own s other) Empty m e tt
  covers-beside (One entry) m other whole e stays =
      moved (λ s. IsBeside h.nothing Own s other) (One entry) m e tt
  covers-beside (Hidden d) m other whole e stays = absurd whole
  covers-beside (Fork l r) m other whole e stays =
      let d = bind_ok (shape_digest h (Fork l r)) (λ digest. covered-by h digest l r) m e in
      by_test d.0 (bytes_eq d.0 h.nothing) refl d.2
    where
      by_test : (d : Digest) (b : Bool) → bytes_eq d h.nothing ≡ b
          → (if b then covered-both h l r else gives (Hidden d)) ≡ Ok m → IsBeside h.nothing Own m other
      by_test d true is e =
          let a = bind_ok (covered h l) (λ l. covered h r >>= λ r. Ok (Fork l r)) m e in
          let b = bind_ok (covered h r) (λ r. Ok (Fork a.0 r)) m a.2 in
          moved (λ s. IsBeside h.nothing Own s other) (Fork a.0 b.0) m b.2 tt
      by_test d false is e = moved (λ s. IsBeside h.nothing Own s other) (Hidden d) m e (is, stays)

  asides-seen : (s n : Shape) → IsWhole s → aside h true s ≡ Ok n → IsSeen (Ok n)
  asides-seen Empty n whole e = moved (λ s. IsSeen (Ok s)) Empty n e tt
  asides-seen (One entry) n whole e = moved (λ s. IsSeen (Ok s)) (One entry) n e tt
  asides-seen (Hidden digest) n whole e = absurd whole
  asides-seen (Fork l r) n whole e =
      let m = bind_ok (covered h l) (λ l. covered h r >>= λ r. Ok (Fork l r)) n e in
      let k = bind_ok (covered h r) (λ r. Ok (Fork m.0 r)) n m.2 in
      moved (λ s. IsSeen (Ok s)) (Fork m.0 k.0) n k.2 tt

  keys-seen : (is_shown : Bool) (level : ℕ) (key : Key) (keys : List Key) (s n : Shape) → IsWhole s
      → pruned h true is_shown level (key ∷ keys) s ≡ Ok n → IsSeen (Ok n)
  keys-seen is_shown level key keys Empty n whole e = moved (λ s. IsSeen (Ok s)) Empty n e tt
  keys-seen is_shown level key keys (One entry) n whole e = moved (λ s. IsSeen (Ok s)) (One entry) n e tt
  keys-seen is_shown level key keys (Hidden digest) n whole e = absurd whole
  keys-seen is_shown level key keys (Fork l r) n whole e =
      let made = sides-of h true is_shown level key keys l r n e in
      moved (λ s. IsSeen (Ok s)) (Fork made.0 made.1) n made.4 tt

  prunes-beside : (level : ℕ) (own keys : List Key) (l r m n : Shape) → IsWhole l
      → pruned h true (is_needed true own level keys r) level own l ≡ Ok m
      → (clears level keys r ≡ false → Stays h.nothing Own n) → IsBeside h.nothing Own m n
  prunes-beside level (key ∷ own) keys l r m n whole e stays =
      seen-beside h.nothing Own m n (keys-seen false level key own l m whole e)
  prunes-beside level [] keys l r m n whole e stays = by_test (clears level keys r) refl e
    where
      by_test : (b : Bool) → clears level keys r ≡ b → aside h b l ≡ Ok m → IsBeside h.nothing Own m n
      by_test true is e = seen-beside h.nothing Own m n (asides-seen l m whole e)
      by_test false is e = covers-beside l m n whole e (stays is)

  -- ---- the witness is ready

  prunes-ready : (bits : List Bool) (is_shown : Bool) (keys : List Key) (Goes : Key → Type 0) (s n : Shape)
      → IsWhole s → StandsAt bits s → Has bits keys → ((key : Key) → Goes key → IsAmong key keys)
      → pruned h true is_shown (length bits) keys s ≡ Ok n → IsReady h.nothing Own (length bits) Goes n
  prunes-ready bits is_shown [] Goes s n whole stands has among e =
      ready-none h.nothing Own (length bits) Goes (λ key here. among key here) n
  prunes-ready bits is_shown (k ∷ keys) Goes Empty n whole stands has among e =
      moved (IsReady h.nothing Own (length bits) Goes) Empty n e tt
  prunes-ready bits is_shown (k ∷ keys) Goes (One entry) n whole stands has among e =
      moved (IsReady h.nothing Own (length bits) Goes) (One entry) n e tt
  prunes-ready bits is_shown (k ∷ keys) Goes (Hidden digest) n whole stands has among e = absurd whole
  prunes-ready bits is_shown (k ∷ keys) Goes (Fork l r) n whole stands has among e =
      let made = sides-of h true is_shown (length bits) k keys l r n e in
      let on_left = keys_with false (length bits) (k ∷ keys) in
      let on_right = keys_with true (length bits) (k ∷ keys) in
      moved (IsReady h.nothing Own (length bits) Goes) (Fork made.0 made.1) n made.4 (
        prunes-ready (false ∷ bits) _ on_left (On h.nothing Own Goes (length bits) false) l made.0 whole.0 stands.2
            (has-below false bits (k ∷ keys) has) (λ key on. among-filter (λ k. has_bit false (length bits) k) key
            (k ∷ keys) (own_bit false (length bits) key on.1) (among key on.0)) made.2,
        prunes-ready (true ∷ bits) _ on_right (On h.nothing Own Goes (length bits) true) r made.1 whole.1 stands.3
            (has-below true bits (k ∷ keys) has) (λ key on. among-filter (λ k. has_bit true (length bits) k) key
            (k ∷ keys) (own_bit true (length bits) key on.1) (among key on.0)) made.3,
        λ key on. prunes-beside (suc (length bits)) on_left on_right l r made.0 made.1 whole.0 made.2
            (λ clear. prunes-stays (true ∷ bits) _ on_right r made.1 whole.1 stands.3
            (has-below true bits (k ∷ keys) has) clear made.3),
        λ key on. prunes-beside (suc (length bits)) on_right on_left r l made.1 made.0 whole.1 made.3
            (λ clear. prunes-stays (false ∷ bits) _ on_left l made.0 whole.0 stands.2
            (has-below false bits (k ∷ keys) has) clear made.2),
      )

module _ (h : MapHashes) (keys : List Key) (s : Shape) (stands : StandsAt [] s) where
  own : (changes : List ChangeSeen) → AreAmong keys changes → AreOwn h.nothing (λ key. IsAmong key keys) changes
  own [] are = tt
  own (change ∷ changes) are = (are.0, own changes are.1)

  can_change : (n : Shape) → pruned h true false 0 keys s ≡ Ok n → IsWhole s → CanChange h.nothing keys n
  can_change n e whole changes are = changes-all h.nothing (λ key. IsAmong key keys) changes (own changes are) n
      (prunes-ready h (λ key. IsAmong key keys) [] false keys (λ key. IsAmong key keys) s n whole stands
      (λ key on own. own) (λ key here. here) e)

  single : (o : Outcome Shape) → IsOk (o >>= tree_after_all h.nothing []) → IsOk o
  single (Ok s) ok = refl
  single (Err error) ok = ok

  can_lose : (n : Shape) → pruned h true false 0 keys s ≡ Ok n → IsWhole s → CanLose h.nothing keys n
  can_lose n e whole key among =
      single (tree_without h.nothing key n) (can_change n e whole (Removes key ∷ []) (among, tt))

  pub can_change_after : (result : Outcome Shape) → AnswersBy (λ new. new) (pruned h true false 0 keys s) result
      → IfOk result (λ new. IsWhole s → CanChange h.nothing keys new)
  can_change_after (Ok new) e = can_change new e
  can_change_after (Err error) e = tt

  pub can_lose_after : (result : Outcome Shape) → AnswersBy (λ new. new) (pruned h true false 0 keys s) result
      → IfOk result (λ new. IsWhole s → CanLose h.nothing keys new)
  can_lose_after (Ok new) e = can_lose new e
  can_lose_after (Err error) e = tt

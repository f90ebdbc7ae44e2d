-- Trees that hide nothing show their own entries.
use Rattle.std.proofs.Common.{zero, suc, ◌≡◌, ℕ, ◌-◌, ◌≤◌, Bool, true, false, not, if◌then◌else◌, Option, Some, None, List, [], ◌∷◌, ◌++◌, length, Ok, Err, IsOk, OnOk, arith, refl, ap, sym, ◌∙◌, subst, inl, inr, length-append, append-nil}
use Rattle.std.proofs.lemmas.List.Elements.{filter-append}
use Rattle.std.proofs.lemmas.Slice.Eq.{bytes_eq-Decides}
use Rattle.std.specs.Str.{bytes_eq}
use Rattle.ark_base.specs.declared.error.Error.{Error}
use Rattle.ark_base.specs.Outcome.{Outcome, ◌>>=◌, AnswersBy}
use Rattle.ark_base.specs.Laws.Steps.{done_injective}
use Rattle.merkle_map.specs.Map.{Key, Digest, Entry, MapHashes, bit_of, has_bit, side, key_bits, value_at, IsMap}
use Rattle.merkle_map.specs.Tree.{Shape, Empty, One, Fork, Hidden, IsWhole, Shows, way, weight, StandsAt}
use Rattle.merkle_map.specs.Changes.{known_at, two_of, with_value, rejoined, losing, losing_known, tree_without}
use Rattle.merkle_map.specs.Shown.{Follows, FollowsBy}
use Rattle.merkle_map.specs.Whole.{entries_of, IsStoreOf, Stores, IsRootOf}
use Rattle.merkle_map.proofs.Answered.{gives}
use Rattle.merkle_map.proofs.Entries.{own_bit, other_bit}
use Rattle.merkle_map.proofs.Known.{known-shown}
use Rattle.merkle_map.proofs.Pruning.{whole-known}
use Rattle.merkle_map.proofs.Rest.{IsSeen}
use Rattle.merkle_map.proofs.Shows.{shows-digest}

-- hashes of no use
abbrev pub plain : MapHashes
plain = record { nothing = []; leaf = λ key value. Ok []; pair = λ left right. Ok [] }

-- ---- bits on a way

pub heads : (a b : Bool) (xs ys : List Bool) → a ∷ xs ≡ b ∷ ys → (a ≡ b) × (xs ≡ ys)
heads a b xs ys e = (
  ap (λ (l : List Bool). elim l [ [] ↦ a | x ∷ rest ↦ x ]) e,
  ap (λ (l : List Bool). elim l [ [] ↦ xs | x ∷ rest ↦ rest ]) e,
)

pub way-bit : (more : List Bool) (b : Bool) (bits : List Bool) (key : Key)
    → way (length (more ++ b ∷ bits)) key ≡ more ++ b ∷ bits → bit_of (length bits) key ≡ b
way-bit [] b bits key e = (heads (bit_of (length bits) key) b (way (length bits) key) bits e).0
way-bit (c ∷ more) b bits key e = way-bit more b bits key
    (heads (bit_of (length (more ++ b ∷ bits)) key) c (way (length (more ++ b ∷ bits)) key) (more ++ b ∷ bits) e).1

-- All keys have this bit.
abbrev AllHave : Bool → ℕ → List Entry → Type 0
AllHave b level [] = Unit {0}
AllHave b level (x ∷ xs) = (bit_of level x.key ≡ b) × AllHave b level xs

both-have : (b : Bool) (level : ℕ) (xs ys : List Entry) → AllHave b level xs → AllHave b level ys
    → AllHave b level (xs ++ ys)
both-have b level [] ys h k = k
both-have b level (x ∷ xs) ys h k = (h.0, both-have b level xs ys h.1 k)

all-have : (more : List Bool) (b : Bool) (bits : List Bool) (s : Shape) → StandsAt (more ++ b ∷ bits) s
    → AllHave b (length bits) (entries_of s)
all-have more b bits Empty stands = tt
all-have more b bits (One e) stands = (way-bit more b bits e.key stands.1, tt)
all-have more b bits (Hidden d) stands = tt
all-have more b bits (Fork l r) stands = both-have b (length bits) (entries_of l) (entries_of r)
    (all-have (false ∷ more) b bits l stands.2) (all-have (true ∷ more) b bits r stands.3)

kept : (b : Bool) (level : ℕ) (xs : List Entry) → AllHave b level xs → side b level xs ≡ xs
kept b level [] h = refl
kept b level (x ∷ xs) h =
    let here = own_bit b level x.key h.0 in
    let rest = kept b level xs h.1 in
    rw here (ap (λ (l : List Entry). x ∷ l) rest)

dropped : (b : Bool) (level : ℕ) (xs : List Entry) → AllHave b level xs → side (not b) level xs ≡ []
dropped b level [] h = refl
dropped b level (x ∷ xs) h =
    let here = other_bit b level x.key h.0 in
    let rest = dropped b level xs h.1 in
    rw here rest

-- ---- the sides of a fork

module _ (bits : List Bool) (left right : Shape) (stands : StandsAt bits (Fork left right)) where
  on_left : AllHave false (length bits) (entries_of left)
  on_left = all-have [] false bits left stands.2

  on_right : AllHave true (length bits) (entries_of right)
  on_right = all-have [] true bits right stands.3

  side-left : side false (length bits) (entries_of left ++ entries_of right) ≡ entries_of left
  side-left = filter-append (λ e. has_bit false (length bits) e.key) (entries_of left) (entries_of right)
      ∙ ap (λ (l : List Entry). l ++ side false (length bits) (entries_of right)) (kept false (length bits) (entries_of
      left) on_left)
      ∙ ap (λ (l : List Entry). entries_of left ++ l) (dropped true (length bits) (entries_of right) on_right)
      ∙ append-nil (entries_of left)

  side-right : side true (length bits) (entries_of left ++ entries_of right) ≡ entries_of right
  side-right = filter-append (λ e. has_bit true (length bits) e.key) (entries_of left) (entries_of right)
      ∙ ap (λ (l : List Entry). l ++ side true (length bits) (entries_of right)) (dropped false (length bits)
      (entries_of left) on_left)
      ∙ kept true (length bits) (entries_of right) on_right

weight-entries : (bits : List Bool) (s : Shape) → IsWhole s → StandsAt bits s → weight s ≤ length (entries_of s)
weight-entries bits Empty whole stands = omega arith
weight-entries bits (One e) whole stands = omega arith
weight-entries bits (Hidden d) whole stands = absurd whole
weight-entries bits (Fork l r) whole stands =
    let a = weight-entries (false ∷ bits) l whole.0 stands.2 in
    let b = weight-entries (true ∷ bits) r whole.1 stands.3 in
    let sum = length-append (entries_of l) (entries_of r) in
    omega (arith, a, b, sum, stands.1)

pub whole-shows : (h : MapHashes) (bits : List Bool) (level : ℕ) (s : Shape) → length bits ≡ level → IsWhole s
    → StandsAt bits s
    → Shows h level s (entries_of s)
whole-shows h bits level Empty long whole stands = refl
whole-shows h bits level (One e) long whole stands = refl
whole-shows h bits level (Hidden d) long whole stands = absurd whole
whole-shows h bits level (Fork l r) long whole stands =
    subst (λ (n : ℕ). Shows h n (Fork l r) (entries_of l ++ entries_of r)) long (
      stands.0,
      weight-entries bits (Fork l r) whole stands,
      subst (λ es. Shows h (suc (length bits)) l es) (sym (side-left bits l r stands))
          (whole-shows h (false ∷ bits) (suc (length bits)) l refl whole.0 stands.2),
      subst (λ es. Shows h (suc (length bits)) r es) (sym (side-right bits l r stands))
          (whole-shows h (true ∷ bits) (suc (length bits)) r refl whole.1 stands.3),
    )

-- ---- no key comes twice

none-of : (b : Bool) (level : ℕ) (key : Key) (ys : List Entry) → AllHave b level ys → bit_of level key ≡ not b
    → value_at key ys ≡ None
none-of b level key [] h e = refl
none-of b level key (y ∷ ys) h e = by_test (bytes_eq y.key key) refl (none-of b level key ys h.1 e)
  where
    differ : (c : Bool) → c ≡ not c → ⊥
    differ true e = absurd cc
    differ false e = absurd cc

    by_test : (t : Bool) → bytes_eq y.key key ≡ t → value_at key ys ≡ None
        → (if t then Some y.value else value_at key ys) ≡ None
    by_test false s ih = ih
    by_test true s ih = absurd (differ b (sym h.0 ∙ ap (bit_of level) ((bytes_eq-Decides y.key key).0 s) ∙ e))

value_at-none : (key : Key) (xs ys : List Entry) → value_at key xs ≡ None → value_at key ys ≡ None
    → value_at key (xs ++ ys) ≡ None
value_at-none key [] ys e f = f
value_at-none key (x ∷ xs) ys e f = by_test (bytes_eq x.key key) e (value_at-none key xs ys)
  where
    by_test : (t : Bool) → (if t then Some x.value else value_at key xs) ≡ None
        → (value_at key xs ≡ None → value_at key ys ≡ None → value_at key (xs ++ ys) ≡ None)
        → (if t then Some x.value else value_at key (xs ++ ys)) ≡ None
    by_test true e ih = absurd cc
    by_test false e ih = ih e f

maps-append : (level : ℕ) (xs ys : List Entry) → AllHave false level xs → AllHave true level ys → IsMap xs → IsMap ys
    → IsMap (xs ++ ys)
maps-append level [] ys h k m n = n
maps-append level (x ∷ xs) ys h k m n =
    (value_at-none x.key xs ys m.0 (none-of true level x.key ys k h.0), maps-append level xs ys h.1 k m.1 n)

pub whole-map : (bits : List Bool) (s : Shape) → StandsAt bits s → IsMap (entries_of s)
whole-map bits Empty stands = tt
whole-map bits (One e) stands = (refl, tt)
whole-map bits (Hidden d) stands = tt
whole-map bits (Fork l r) stands = maps-append (length bits) (entries_of l) (entries_of r) (on_left bits l r stands)
    (on_right bits l r stands) (whole-map (false ∷ bits) l stands.2) (whole-map (true ∷ bits) r stands.3)

-- ---- changes leave trees whole

pub whole-two : (bits level : ℕ) (x y : Entry) → IsWhole (two_of bits level x y)
whole-two zero level x y = (tt, tt)
whole-two (suc bits) level x y = by_bits (whole-two bits (suc level) x y) (bit_of level x.key) (bit_of level y.key)
  where
    by_bits : IsWhole (two_of bits (suc level) x y) → (p q : Bool)
        → IsWhole (if p then (if q then Fork Empty (two_of bits (suc level) x y) else Fork (One y) (One x))
        else (if q then Fork (One x) (One y) else Fork (two_of bits (suc level) x y) Empty))
    by_bits ih true true = (tt, ih)
    by_bits ih true false = (tt, tt)
    by_bits ih false true = (tt, tt)
    by_bits ih false false = (ih, tt)

moved : (P : Shape → Type 0) (s n : Shape) → gives s ≡ Ok n → P s → P n
moved P s n e p = subst P (done_injective {E = Error} s n e) p

module _ (own : Entry) where
  -- a value can be put into a whole tree
  with-whole : (level : ℕ) (s : Shape) → IsWhole s → (n : Shape) × (with_value level own s ≡ Ok n) × IsWhole n
  with-whole level Empty whole = (One own, refl, tt)
  with-whole level (Hidden d) whole = absurd whole
  with-whole level (One e) whole = by_test (bytes_eq e.key own.key)
    where
      by_test : (b : Bool) → (n : Shape) × (gives (if b then One own else two_of (key_bits - level) level own e) ≡ Ok
          n) × IsWhole n
      by_test true = (One own, refl, tt)
      by_test false = (two_of (key_bits - level) level own e, refl, whole-two (key_bits - level) level own e)
  with-whole level (Fork l r) whole = by_bit (with-whole (suc level) l whole.0) (with-whole (suc level) r whole.1)
      (bit_of level own.key)
    where
      by_bit : (n : Shape) × (with_value (suc level) own l ≡ Ok n) × IsWhole n
          → (n : Shape) × (with_value (suc level) own r ≡ Ok n) × IsWhole n
          → (b : Bool) → (n : Shape) × ((if b then (with_value (suc level) own r >>= λ r. Ok (Fork l r))
          else (with_value (suc level) own l >>= λ l. Ok (Fork l r))) ≡ Ok n) × IsWhole n
      by_bit a b true = (Fork l b.0, ap (λ o. o >>= λ r. Ok (Fork l r)) b.1, (whole.0, b.2))
      by_bit a b false = (Fork a.0 r, ap (λ o. o >>= λ l. Ok (Fork l r)) a.1, (a.2, whole.1))

pub whole-seen : (s : Shape) → IsWhole s → IsSeen (Ok s)
whole-seen Empty whole = tt
whole-seen (One e) whole = tt
whole-seen (Fork l r) whole = tt
whole-seen (Hidden d) whole = absurd whole

whole-joined : (nothing : Digest) (l r : Shape) → IsWhole l → IsWhole r → (n : Shape) × (rejoined nothing l r ≡ Ok n)
    × IsWhole n
whole-joined nothing Empty Empty a b = (Empty, refl, tt)
whole-joined nothing Empty (One f) a b = (One f, refl, tt)
whole-joined nothing Empty (Fork x y) a b = (Fork Empty (Fork x y), refl, (tt, b))
whole-joined nothing Empty (Hidden d) a b = absurd b
whole-joined nothing (One e) Empty a b = (One e, refl, tt)
whole-joined nothing (One e) (One f) a b = (Fork (One e) (One f), refl, (tt, tt))
whole-joined nothing (One e) (Fork x y) a b = (Fork (One e) (Fork x y), refl, (tt, b))
whole-joined nothing (One e) (Hidden d) a b = absurd b
whole-joined nothing (Fork v w) Empty a b = (Fork (Fork v w) Empty, refl, (a, tt))
whole-joined nothing (Fork v w) (One f) a b = (Fork (Fork v w) (One f), refl, (a, tt))
whole-joined nothing (Fork v w) (Fork x y) a b = (Fork (Fork v w) (Fork x y), refl, (a, b))
whole-joined nothing (Fork v w) (Hidden d) a b = absurd b
whole-joined nothing (Hidden d) r a b = absurd a

losing-whole : (nothing : Digest) (level : ℕ) (key : Key) (s : Shape) → IsWhole s → (n : Shape)
    × (losing nothing level key s ≡ Ok n) × IsWhole n
losing-whole nothing level key Empty whole = (Empty, refl, tt)
losing-whole nothing level key (Hidden d) whole = absurd whole
losing-whole nothing level key (One e) whole = by_test (bytes_eq e.key key)
  where
    by_test : (b : Bool) → (n : Shape) × (gives (if b then Empty else One e) ≡ Ok n) × IsWhole n
    by_test true = (Empty, refl, tt)
    by_test false = (One e, refl, tt)
losing-whole nothing level key (Fork l r) whole =
    by_bit (losing-whole nothing (suc level) key l whole.0) (losing-whole nothing (suc level) key r whole.1)
    (bit_of level key)
  where
    by_bit : (n : Shape) × (losing nothing (suc level) key l ≡ Ok n) × IsWhole n
        → (n : Shape) × (losing nothing (suc level) key r ≡ Ok n) × IsWhole n
        → (b : Bool) → (n : Shape) × ((if b then (losing nothing (suc level) key r >>= λ r. rejoined nothing l r)
        else (losing nothing (suc level) key l >>= λ l. rejoined nothing l r)) ≡ Ok n) × IsWhole n
    by_bit a b true = let j = whole-joined nothing l b.0 whole.0 b.2 in
        (j.0, ap (λ o. o >>= λ r. rejoined nothing l r) b.1 ∙ j.1, j.2)
    by_bit a b false = let j = whole-joined nothing a.0 r a.2 whole.1 in
        (j.0, ap (λ o. o >>= λ l. rejoined nothing l r) a.1 ∙ j.1, j.2)

without-whole : (nothing : Digest) (key : Key) (s : Shape) → IsWhole s → (n : Shape)
    × (tree_without nothing key s ≡ Ok n) × IsWhole n
without-whole nothing key s whole = by_known (known_at 0 key s) (whole-known plain 0 key s whole)
  where
    by_known : (o : Outcome (Option Digest)) → IsOk o → (n : Shape) × ((o >>= losing_known nothing key s) ≡ Ok n)
        × IsWhole n
    by_known (Ok None) ok = (s, refl, whole)
    by_known (Ok (Some value)) ok = losing-whole nothing 0 key s whole
    by_known (Err error) ok = absurd cc

-- ---- stores

-- whole trees have one map
store-of : (h : MapHashes) (entries : List Entry) (s : Shape) → IsWhole s → StandsAt [] s → Shows h 0 s entries
    → IsStoreOf entries s
store-of h entries s whole stands shown = record {
  whole = whole;
  same = λ key.
      let own = whole-shows h [] 0 s refl whole stands in
      by_known key own (known_at 0 key s) refl (whole-known h 0 key s whole);
}
  where
    by_known : (key : Key) → Shows h 0 s (entries_of s) → (o : Outcome (Option Digest)) → known_at 0 key s ≡ o
        → IsOk o
        → value_at key (entries_of s) ≡ value_at key entries
    by_known key own (Ok value) is ok =
        known-shown h key 0 s (entries_of s) value own is ∙ sym (known-shown h key 0 s entries value shown is)
    by_known key own (Err error) is ok = absurd cc

module _ (h : MapHashes) (change : List Entry → List Entry) (old new : Shape) (stands : StandsAt [] old)
    (after : StandsAt [] new) where
  pub stores : {A : Type 0} (next : Outcome Shape) (result : Outcome A)
      → (IsWhole old → (n : Shape) × (next ≡ Ok n) × IsWhole n) → AnswersBy (λ _. new) next result
      → OnOk result (FollowsBy h change old new) → Stores change old new result
  stores next (Ok x) can answered follows = λ whole.
      let n = can whole in
      let same : n.0 ≡ new = done_injective {E = Error} n.0 new (sym n.1 ∙ answered) in (
        store-of h (change (entries_of old)) new (subst IsWhole same n.2) after (follows (entries_of old)
            (whole-map [] old stands) (whole-shows h [] 0 old refl whole stands)),
        tt,
      )
  stores next (Err error) can (inl memory) follows = λ whole. (tt, memory)
  stores next (Err error) can (inr is) follows = λ whole. let n = can whole in absurd cc

-- what follows under all hashes follows under some
pub under : {A : Type 0} (h : MapHashes) (change : List Entry → List Entry) (old new : Shape) (result : Outcome A)
    → OnOk result (Follows change old new) → OnOk result (FollowsBy h change old new)
under h change old new (Ok x) follows = follows h
under h change old new (Err error) follows = tt

pub put-can : (own : Entry) (old : Shape) → IsWhole old → (n : Shape) × (with_value 0 own old ≡ Ok n) × IsWhole n
put-can own old whole = with-whole own 0 old whole

pub remove-can : (nothing : Digest) (key : Key) (old : Shape) → IsWhole old → (n : Shape)
    × (tree_without nothing key old ≡ Ok n) × IsWhole n
remove-can nothing key old whole = without-whole nothing key old whole

pub root-of-store : (h : MapHashes) (s : Shape) → StandsAt [] s → IsRootOf h s
root-of-store h s stands whole = shows-digest h 0 s (entries_of s) (whole-shows h [] 0 s refl whole stands)

-- Trees that show what changes of some keys need.
use Rattle.std.proofs.Common.{zero, suc, ◌≡◌, ℕ, ◌-◌, Bool, true, false, if◌then◌else◌, List, [], ◌∷◌, Ok, Err, IsOk, Option, Some, None, refl, ap, sym, ◌∙◌, subst, inl, inr, ◌⊎◌}
use Rattle.std.proofs.lemmas.Slice.Eq.{bytes_eq-Decides}
use Rattle.std.specs.Str.{bytes_eq}
use Rattle.ark_base.specs.Outcome.{Outcome, ◌>>=◌}
use Rattle.merkle_map.specs.Map.{Key, Digest, Entry, bit_of, key_bits}
use Rattle.merkle_map.specs.Tree.{Shape, Empty, One, Fork, Hidden, IsWhole}
use Rattle.merkle_map.specs.Changes.{entry_of, hides, known_at, losing, losing_known, rejoined, two_of, with_value}
use Rattle.merkle_map.specs.Kept.{changed_key}
use Rattle.merkle_map.specs.Transition.{ChangeSeen, Puts, Removes, tree_after, tree_after_all}
use Rattle.merkle_map.proofs.Answered.{gives}
use Rattle.merkle_map.proofs.Rest.{IsSeen, failed, seen-losing}
use Rattle.merkle_map.proofs.Wholes.{whole-seen, whole-two}

-- a lone entry beside what is hidden and something
fork-kept : (b : Bool) (s : Shape) → b ≡ false → (if b then failed hides else gives s) ≡ Ok s
fork-kept b s e = rw e refl

-- the digest of nothing, and the keys that may change
module _ (nothing : Digest) (Own : Key → Type 0) where
  -- Something of the tree stays, whatever becomes of these keys.
  abbrev pub Stays : Shape → Type 0
  Stays Empty = ⊥
  Stays (One entry) = Own entry.key → ⊥
  Stays (Fork left right) = Stays left ⊎ Stays right
  Stays (Hidden digest) = bytes_eq digest nothing ≡ false

  -- A tree that is hidden is something, and something stays beside it.
  abbrev pub IsBeside : Shape → Shape → Type 0
  IsBeside Empty other = Unit {0}
  IsBeside (One entry) other = Unit {0}
  IsBeside (Fork left right) other = Unit {0}
  IsBeside (Hidden digest) other = (bytes_eq digest nothing ≡ false) × Stays other

  -- of some keys those with a bit
  abbrev pub On : (Key → Type 0) → ℕ → Bool → Key → Type 0
  On Goes level bit key = Goes key × (bit_of level key ≡ bit)

  -- A tree some levels below the root shows what changes of some keys need.
  abbrev pub IsReady : ℕ → (Key → Type 0) → Shape → Type 0
  IsReady level Goes Empty = Unit {0}
  IsReady level Goes (One entry) = Unit {0}
  IsReady level Goes (Fork left right) = IsReady (suc level) (On Goes level false) left
      × IsReady (suc level) (On Goes level true) right
      × ((key : Key) → On Goes level true key → IsBeside left right)
      × ((key : Key) → On Goes level false key → IsBeside right left)
  IsReady level Goes (Hidden digest) = (key : Key) → Goes key → ⊥

  pub seen-beside : (s other : Shape) → IsSeen (Ok s) → IsBeside s other
  seen-beside Empty other seen = tt
  seen-beside (One e) other seen = tt
  seen-beside (Fork l r) other seen = tt
  seen-beside (Hidden d) other seen = absurd seen

  beside-on : (s before after : Shape) → (Stays before → Stays after) → IsBeside s before → IsBeside s after
  beside-on Empty before after on is = tt
  beside-on (One e) before after on is = tt
  beside-on (Fork l r) before after on is = tt
  beside-on (Hidden d) before after on is = (is.0, on is.1)

  -- where no key is, nothing is needed
  pub ready-none : (level : ℕ) (Goes : Key → Type 0) → ((key : Key) → Goes key → ⊥) → (s : Shape)
      → IsReady level Goes s
  ready-none level Goes none Empty = tt
  ready-none level Goes none (One e) = tt
  ready-none level Goes none (Hidden d) = none
  ready-none level Goes none (Fork l r) = (
    ready-none (suc level) (On Goes level false) (λ key on. none key on.0) l,
    ready-none (suc level) (On Goes level true) (λ key on. none key on.0) r,
    λ key on. absurd (none key on.0),
    λ key on. absurd (none key on.0),
  )

  -- nor where nothing is hidden
  ready-whole : (level : ℕ) (Goes : Key → Type 0) (s : Shape) → IsWhole s → IsReady level Goes s
  ready-whole level Goes Empty whole = tt
  ready-whole level Goes (One e) whole = tt
  ready-whole level Goes (Hidden d) whole = absurd whole
  ready-whole level Goes (Fork l r) whole = (
    ready-whole (suc level) (On Goes level false) l whole.0,
    ready-whole (suc level) (On Goes level true) r whole.1,
    λ key on. seen-beside l r (whole-seen l whole.0),
    λ key on. seen-beside r l (whole-seen r whole.1),
  )

  ready-seen : (level : ℕ) (Goes : Key → Type 0) (key : Key) → Goes key → (s : Shape) → IsReady level Goes s
      → IsSeen (Ok s)
  ready-seen level Goes key here Empty ready = tt
  ready-seen level Goes key here (One e) ready = tt
  ready-seen level Goes key here (Fork l r) ready = tt
  ready-seen level Goes key here (Hidden d) ready = absurd (ready key here)

  ready-known : (level : ℕ) (Goes : Key → Type 0) (key : Key) → Goes key → (s : Shape) → IsReady level Goes s
      → IsOk (known_at level key s)
  ready-known level Goes key here Empty ready = refl
  ready-known level Goes key here (One e) ready = refl
  ready-known level Goes key here (Hidden d) ready = absurd (ready key here)
  ready-known level Goes key here (Fork l r) ready = by_bit
      (λ on. ready-known (suc level) (On Goes level false) key on l ready.0)
      (λ on. ready-known (suc level) (On Goes level true) key on r ready.1) (bit_of level key) refl
    where
      by_bit : (On Goes level false key → IsOk (known_at (suc level) key l))
          → (On Goes level true key → IsOk (known_at (suc level) key r)) → (b : Bool) → bit_of level key ≡ b
          → IsOk (if b then known_at (suc level) key r else known_at (suc level) key l)
      by_bit on_left on_right true bit = on_right (here, bit)
      by_bit on_left on_right false bit = on_left (here, bit)

  -- ---- a change of a tree

  -- The tree becomes one that is ready too, and what stays has stayed.
  record IsChanged (level : ℕ) (Goes : Key → Type 0) (old : Shape) (made : Outcome Shape) : Type 0 where
    new : Shape
    is : made ≡ Ok new
    ready : IsReady level Goes new
    stays : Stays old → Stays new

  module _ (level : ℕ) (Goes : Key → Type 0) where
    empty-left : (s : Shape) → Stays (Fork Empty s) → Stays s
    empty-left s (inl x) = absurd x
    empty-left s (inr y) = y

    empty-right : (s : Shape) → Stays (Fork s Empty) → Stays s
    empty-right s (inl x) = x
    empty-right s (inr y) = absurd y

    forked : (l r : Shape) → rejoined nothing l r ≡ Ok (Fork l r) → IsReady (suc level) (On Goes level false) l
        → IsReady (suc level) (On Goes level true) r → IsBeside l r → IsBeside r l
        → IsChanged level Goes (Fork l r) (rejoined nothing l r)
    forked l r is a b p q = record {
      new = Fork l r;
      is = is;
      ready = (a, b, λ key on. p, λ key on. q);
      stays = λ s. s;
    }

    -- two sides, of which one at most is hidden
    joined : (l r : Shape) → IsReady (suc level) (On Goes level false) l
        → IsReady (suc level) (On Goes level true) r → IsBeside l r → IsBeside r l → IsSeen (Ok l) ⊎ IsSeen (Ok r)
        → IsChanged level Goes (Fork l r) (rejoined nothing l r)
    joined Empty Empty a b p q seen =
        record { new = Empty; is = refl; ready = tt; stays = empty-left Empty }
    joined Empty (One f) a b p q seen =
        record { new = One f; is = refl; ready = tt; stays = empty-left (One f) }
    joined Empty (Fork x y) a b p q seen = forked Empty (Fork x y) refl a b p q
    joined Empty (Hidden d) a b p q seen = absurd q.1
    joined (One e) Empty a b p q seen =
        record { new = One e; is = refl; ready = tt; stays = empty-right (One e) }
    joined (One e) (One f) a b p q seen = forked (One e) (One f) refl a b p q
    joined (One e) (Fork x y) a b p q seen = forked (One e) (Fork x y) refl a b p q
    joined (One e) (Hidden d) a b p q seen = forked (One e) (Hidden d)
        (fork-kept (bytes_eq d nothing) (Fork (One e) (Hidden d)) q.0) a b p q
    joined (Fork v w) Empty a b p q seen = forked (Fork v w) Empty refl a b p q
    joined (Fork v w) (One f) a b p q seen = forked (Fork v w) (One f) refl a b p q
    joined (Fork v w) (Fork x y) a b p q seen = forked (Fork v w) (Fork x y) refl a b p q
    joined (Fork v w) (Hidden d) a b p q seen = forked (Fork v w) (Hidden d) refl a b p q
    joined (Hidden d) Empty a b p q seen = absurd p.1
    joined (Hidden d) (One f) a b p q seen = forked (Hidden d) (One f)
        (fork-kept (bytes_eq d nothing) (Fork (Hidden d) (One f)) p.0) a b p q
    joined (Hidden d) (Fork x y) a b p q seen = forked (Hidden d) (Fork x y) refl a b p q
    joined (Hidden d) (Hidden f) a b p q (inl seen) = absurd seen
    joined (Hidden d) (Hidden f) a b p q (inr seen) = absurd seen

    more-left : (l m r : Shape) → (Stays l → Stays m) → Stays (Fork l r) → Stays (Fork m r)
    more-left l m r on (inl x) = inl (on x)
    more-left l m r on (inr y) = inr y

    more-right : (l r m : Shape) → (Stays r → Stays m) → Stays (Fork l r) → Stays (Fork l m)
    more-right l r m on (inl x) = inl x
    more-right l r m on (inr y) = inr (on y)

  -- a key is removed
  loses : (level : ℕ) (Goes : Key → Type 0) (key : Key) → Goes key → Own key → (s : Shape) → IsReady level Goes s
      → IsChanged level Goes s (losing nothing level key s)
  loses level Goes key here own Empty ready = record { new = Empty; is = refl; ready = tt; stays = λ s. s }
  loses level Goes key here own (One e) ready = by_test (bytes_eq e.key key) refl
    where
      by_test : (b : Bool) → bytes_eq e.key key ≡ b
          → IsChanged level Goes (One e) (gives (if b then Empty else One e))
      by_test true same = record {
        new = Empty;
        is = refl;
        ready = tt;
        stays = λ s. s (subst Own (sym ((bytes_eq-Decides e.key key).0 same)) own);
      }
      by_test false other = record { new = One e; is = refl; ready = tt; stays = λ s. s }
  loses level Goes key here own (Hidden d) ready = absurd (ready key here)
  loses level Goes key here own (Fork l r) ready = by_bit
      (λ on. loses (suc level) (On Goes level false) key on own l ready.0)
      (λ on. loses (suc level) (On Goes level true) key on own r ready.1) (bit_of level key) refl
    where
      by_bit : (On Goes level false key → IsChanged (suc level) (On Goes level false) l
          (losing nothing (suc level) key l))
          → (On Goes level true key → IsChanged (suc level) (On Goes level true) r
          (losing nothing (suc level) key r)) → (b : Bool) → bit_of level key ≡ b
          → IsChanged level Goes (Fork l r) (if b then (losing nothing (suc level) key r >>= λ r. rejoined nothing l r)
          else (losing nothing (suc level) key l >>= λ l. rejoined nothing l r))
      by_bit on_left on_right true bit =
          let below = on_right (here, bit) in
          let seen = subst IsSeen below.is (seen-losing nothing (suc level) key r) in
          let up = joined level Goes l below.new ready.0 below.ready
          (beside-on l r below.new below.stays (ready.2 key (here, bit))) (seen-beside below.new l seen) (inr seen) in
          record {
            new = up.new;
            is = ap (λ o. o >>= λ r. rejoined nothing l r) below.is ∙ up.is;
            ready = up.ready;
            stays = λ s. up.stays (more-right level Goes l r below.new below.stays s);
          }
      by_bit on_left on_right false bit =
          let below = on_left (here, bit) in
          let seen = subst IsSeen below.is (seen-losing nothing (suc level) key l) in
          let up = joined level Goes below.new r below.ready ready.1 (seen-beside below.new r seen)
          (beside-on r l below.new below.stays (ready.3 key (here, bit))) (inl seen) in
          record {
            new = up.new;
            is = ap (λ o. o >>= λ l. rejoined nothing l r) below.is ∙ up.is;
            ready = up.ready;
            stays = λ s. up.stays (more-left level Goes l below.new r below.stays s);
          }

  two-stays : (bits level : ℕ) (x y : Entry) → Stays (One y) → Stays (two_of bits level x y)
  two-stays zero level x y s = inr s
  two-stays (suc bits) level x y s =
      by_bits (two-stays bits (suc level) x y s) (bit_of level x.key) (bit_of level y.key)
    where
      by_bits : Stays (two_of bits (suc level) x y) → (p q : Bool)
          → Stays (if p then (if q then Fork Empty (two_of bits (suc level) x y) else Fork (One y) (One x))
          else (if q then Fork (One x) (One y) else Fork (two_of bits (suc level) x y) Empty))
      by_bits ih true true = inr ih
      by_bits ih true false = inl s
      by_bits ih false true = inr s
      by_bits ih false false = inl ih

  -- a value is put
  gets : (level : ℕ) (Goes : Key → Type 0) (e : Entry) → Goes e.key → Own e.key → (s : Shape) → IsReady level Goes s
      → IsChanged level Goes s (with_value level e s)
  gets level Goes new here own Empty ready =
      record { new = One new; is = refl; ready = tt; stays = λ s. absurd s }
  gets level Goes new here own (One e) ready = by_test (bytes_eq e.key new.key) refl
    where
      by_test : (b : Bool) → bytes_eq e.key new.key ≡ b
          → IsChanged level Goes (One e) (gives (if b then One new else two_of (key_bits - level) level new e))
      by_test true same = record {
        new = One new;
        is = refl;
        ready = tt;
        stays = λ s. absurd (s (subst Own (sym ((bytes_eq-Decides e.key new.key).0 same)) own));
      }
      by_test false other = record {
        new = two_of (key_bits - level) level new e;
        is = refl;
        ready = ready-whole level Goes (two_of (key_bits - level) level new e)
            (whole-two (key_bits - level) level new e);
        stays = two-stays (key_bits - level) level new e;
      }
  gets level Goes new here own (Hidden d) ready = absurd (ready new.key here)
  gets level Goes new here own (Fork l r) ready = by_bit
      (λ on. gets (suc level) (On Goes level false) new on own l ready.0)
      (λ on. gets (suc level) (On Goes level true) new on own r ready.1) (bit_of level new.key) refl
    where
      by_bit : (On Goes level false new.key
          → IsChanged (suc level) (On Goes level false) l (with_value (suc level) new l))
          → (On Goes level true new.key → IsChanged (suc level) (On Goes level true) r (with_value (suc level) new r))
          → (b : Bool) → bit_of level new.key ≡ b
          → IsChanged level Goes (Fork l r) (if b then (with_value (suc level) new r >>= λ r. Ok (Fork l r))
          else (with_value (suc level) new l >>= λ l. Ok (Fork l r)))
      by_bit on_left on_right true bit =
          let below = on_right (here, bit) in
          let seen = ready-seen (suc level) (On Goes level true) new.key (here, bit) below.new below.ready in
          record {
            new = Fork l below.new;
            is = ap (λ o. o >>= λ r. Ok (Fork l r)) below.is;
            ready = (
              ready.0,
              below.ready,
              λ key on. beside-on l r below.new below.stays (ready.2 key on),
              λ key on. seen-beside below.new l seen,
            );
            stays = more-right level Goes l r below.new below.stays;
          }
      by_bit on_left on_right false bit =
          let below = on_left (here, bit) in
          let seen = ready-seen (suc level) (On Goes level false) new.key (here, bit) below.new below.ready in
          record {
            new = Fork below.new r;
            is = ap (λ o. o >>= λ l. Ok (Fork l r)) below.is;
            ready = (
              below.ready,
              ready.1,
              λ key on. seen-beside below.new r seen,
              λ key on. beside-on r l below.new below.stays (ready.3 key on),
            );
            stays = more-left level Goes l below.new r below.stays;
          }

  -- ---- changes of a whole tree

  changes-one : (change : ChangeSeen) → Own (changed_key change) → (s : Shape) → IsReady 0 Own s
      → (new : Shape) × (tree_after nothing change s ≡ Ok new) × IsReady 0 Own new
  changes-one (Puts key value) own s ready =
      let made = gets 0 Own (entry_of key value) own own s ready in (made.new, made.is, made.ready)
  changes-one (Removes key) own s ready = by_known (known_at 0 key s) (ready-known 0 Own key own s ready)
    where
      by_known : (o : Outcome (Option Digest)) → IsOk o
          → (new : Shape) × ((o >>= losing_known nothing key s) ≡ Ok new) × IsReady 0 Own new
      by_known (Ok None) ok = (s, refl, ready)
      by_known (Ok (Some value)) ok =
          let made = loses 0 Own key own own s ready in (made.new, made.is, made.ready)
      by_known (Err error) ok = absurd cc

  -- All changes are of these keys.
  abbrev pub AreOwn : List ChangeSeen → Type 0
  AreOwn [] = Unit {0}
  AreOwn (change ∷ changes) = Own (changed_key change) × AreOwn changes

  pub changes-all : (changes : List ChangeSeen) → AreOwn changes → (s : Shape) → IsReady 0 Own s
      → IsOk (tree_after_all nothing changes s)
  changes-all [] own s ready = refl
  changes-all (change ∷ changes) own s ready =
      let made = changes-one change own.0 s ready in
      subst (λ (o : Outcome Shape). IsOk (o >>= tree_after_all nothing changes)) (sym made.1)
      (changes-all changes own.1 made.0 made.2)

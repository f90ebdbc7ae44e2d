-- Trees without what lies outside from one key to another.
use Rattle.std.proofs.Common.{◌≡◌, ◌<◌, ◌+◌, ◌&&◌, ℕ, suc, Bool, true, false, if◌then◌else◌, List, [], ◌∷◌, length, Ok, arith, refl, ap, sym, ◌∙◌, subst, inl, inr}
use Rattle.ark_base.specs.Outcome.{◌>>=◌}
use Rattle.ark_base.specs.declared.error.Error.{Error}
use Rattle.ark_base.specs.Laws.Steps.{bind_ok, done_injective}
use Rattle.merkle_map.specs.Changes.{known_at}
use Rattle.merkle_map.specs.Map.{Entry, Key, MapHashes, bit_of, has_bit}
use Rattle.merkle_map.specs.Tree.{Shape, Empty, One, Fork, Hidden, StandsAt, way}
use Rattle.merkle_map.specs.Whole.{entries_of}
use Rattle.merkle_map.proofs.Keeping.{store-found}
use Rattle.merkle_map.proofs.NextShown.{goes-on-with, turns-with}
use Rattle.merkle_map.proofs.Pruning.{IsCopy, covers, forks, moved, same}
use Rattle.merkle_map.proofs.Reading.{reads-back}
use Rattle.merkle_map.proofs.Wholes.{root-of-store, whole-shows}
use Rattle.kept_map.specs.Between.{IsBetween, IsTreeBetween, between}
use Rattle.kept_map.specs.KeptMap.{KeepsMap}
use Rattle.kept_map.specs.Many.{IsShownAt, IsWritten, IsWrittenAt}
use Rattle.kept_map.specs.declared.head.Head.{Head}
use Rattle.kept_map.proofs.UnderHeads.{lies-under}

module _ (h : MapHashes) (first last : Key) where
  -- ---- it is a copy

  pub between-copy : (is_out on_first on_last : Bool) (level : ℕ) (bits : List Bool) (tree new : Shape)
      → between h is_out on_first on_last level first last tree ≡ Ok new → IsCopy h level bits tree new
  between-copy true on_first on_last level bits tree new e = covers h level bits tree new e
  between-copy false on_first on_last level bits Empty new e = same h level bits Empty new e
  between-copy false on_first on_last level bits (One entry) new e = same h level bits (One entry) new e
  between-copy false on_first on_last level bits (Hidden digest) new e = same h level bits (Hidden digest) new e
  between-copy false on_first on_last level bits (Fork left right) new e =
      let below = on_first && has_bit true level first in
      let above = on_last && has_bit false level last in
      let l = bind_ok (between h below on_first above (suc level) first last left)
      (λ l. between h above below on_last (suc level) first last right >>= λ r. Ok (Fork l r)) new e in
      let r = bind_ok (between h above below on_last (suc level) first last right) (λ r. Ok (Fork l.0 r)) new l.2 in
      moved (IsCopy h level bits (Fork left right)) (Fork l.0 r.0) new r.2
      (forks h level bits left right l.0 r.0
      (between-copy below on_first above (suc level) (false ∷ bits) left l.0 l.1)
      (between-copy above below on_last (suc level) (true ∷ bits) right r.0 r.1))

  -- ---- and has the same at each key there

  -- The key begins as each of both does on whose way it is.
  pub record IsOnBoth (on_first on_last : Bool) (level : ℕ) (key : Key) : Type 0 where
    pub as_first : on_first ≡ true → way level key ≡ way level first
    pub as_last : on_last ≡ true → way level key ≡ way level last

  on-both : (b on_first on_last to_first to_last : Bool) (level : ℕ) (key : Key) → bit_of level key ≡ b
      → IsOnBoth on_first on_last level key
      → (to_first ≡ true → (on_first ≡ true) × (bit_of level first ≡ b))
      → (to_last ≡ true → (on_last ≡ true) × (bit_of level last ≡ b)) → IsOnBoth to_first to_last (suc level) key
  on-both b on_first on_last to_first to_last level key bit on with_first with_last = record {
    as_first = λ to.
        let w = with_first to in
        ap (λ (c : Bool). c ∷ way level key) (bit ∙ sym w.1) ∙ ap (λ l. bit_of level first ∷ l) (on.as_first w.0);
    as_last = λ to.
        let w = with_last to in
        ap (λ (c : Bool). c ∷ way level key) (bit ∙ sym w.1) ∙ ap (λ l. bit_of level last ∷ l) (on.as_last w.0);
  }

  -- a key there is on no side outside
  not-below : (on_first on_last : Bool) (level : ℕ) (key : Key) → level < 256 → IsBetween first last key
      → IsOnBoth on_first on_last level key → bit_of level key ≡ false
      → (on_first && has_bit true level first) ≡ true → ⊥
  not-below on_first on_last level key inside there on bit turned =
      let w = turns-with true on_first level first turned in
      there (inl (record { level = level; inside = inside; alike = on.as_first w.0; low = bit; high = w.1 }))

  not-above : (on_first on_last : Bool) (level : ℕ) (key : Key) → level < 256 → IsBetween first last key
      → IsOnBoth on_first on_last level key → bit_of level key ≡ true
      → (on_last && has_bit false level last) ≡ true → ⊥
  not-above on_first on_last level key inside there on bit turned =
      let w = turns-with false on_last level last turned in
      there (inr (record { level = level; inside = inside; alike = sym (on.as_last w.0); low = w.1; high = bit }))

  pub between-known : (is_out on_first on_last : Bool) (level : ℕ) (bits : List Bool) (key : Key) (tree new : Shape)
      → length bits ≡ level → StandsAt bits tree → is_out ≡ false → IsBetween first last key
      → IsOnBoth on_first on_last level key
      → between h is_out on_first on_last level first last tree ≡ Ok new → known_at level key new ≡ known_at level key
      tree
  between-known true on_first on_last level bits key tree new long stands out there on e = absurd cc
  between-known false on_first on_last level bits key Empty new long stands out there on e =
      ap (known_at level key) (sym (done_injective {E = Error} Empty new e))
  between-known false on_first on_last level bits key (One entry) new long stands out there on e =
      ap (known_at level key) (sym (done_injective {E = Error} (One entry) new e))
  between-known false on_first on_last level bits key (Hidden digest) new long stands out there on e =
      ap (known_at level key) (sym (done_injective {E = Error} (Hidden digest) new e))
  between-known false on_first on_last level bits key (Fork left right) new long stands out there on e =
      let below = on_first && has_bit true level first in
      let above = on_last && has_bit false level last in
      let inside : level < 256 = omega (arith, stands.0, long) in
      let l = bind_ok (between h below on_first above (suc level) first last left)
      (λ l. between h above below on_last (suc level) first last right >>= λ r. Ok (Fork l r)) new e in
      let r = bind_ok (between h above below on_last (suc level) first last right) (λ r. Ok (Fork l.0 r)) new l.2 in
      ap (known_at level key) (sym (done_injective {E = Error} (Fork l.0 r.0) new r.2))
      ∙ by_bit l.0 r.0 (bit_of level key) refl
      (λ bit off. between-known below on_first above (suc level) (false ∷ bits) key left l.0
      (omega (arith, long)) stands.2 off there
      (on-both false on_first on_last on_first above level key bit on (goes-on-with false on_first level first off)
      (turns-with false on_last level last)) l.1)
      (λ bit off. between-known above below on_last (suc level) (true ∷ bits) key right r.0
      (omega (arith, long)) stands.3 off there
      (on-both true on_first on_last below on_last level key bit on (turns-with true on_first level first)
      (goes-on-with true on_last level last off)) r.1)
      (not-below on_first on_last level key inside there on) (not-above on_first on_last level key inside there on)
    where
      off-by : (t : Bool) → (t ≡ true → ⊥) → t ≡ false
      off-by true never = absurd (never refl)
      off-by false never = refl

      by_bit : (l r : Shape) (b : Bool) → bit_of level key ≡ b
          → (bit_of level key ≡ false → (on_first && has_bit true level first) ≡ false
          → known_at (suc level) key l ≡ known_at (suc level) key left)
          → (bit_of level key ≡ true → (on_last && has_bit false level last) ≡ false
          → known_at (suc level) key r ≡ known_at (suc level) key right)
          → (bit_of level key ≡ false → (on_first && has_bit true level first) ≡ true → ⊥)
          → (bit_of level key ≡ true → (on_last && has_bit false level last) ≡ true → ⊥)
          → known_at level key (Fork l r) ≡ known_at level key (Fork left right)
      by_bit l r true bit on_left on_right no_low no_high =
          ap (λ t. if t then known_at (suc level) key r else known_at (suc level) key l) bit
          ∙ on_right bit (off-by (on_last && has_bit false level last) (no_high bit))
          ∙ ap (λ t. if t then known_at (suc level) key right else known_at (suc level) key left) (sym bit)
      by_bit l r false bit on_left on_right no_low no_high =
          ap (λ t. if t then known_at (suc level) key r else known_at (suc level) key l) bit
          ∙ on_left bit (off-by (on_first && has_bit true level first) (no_low bit))
          ∙ ap (λ t. if t then known_at (suc level) key right else known_at (suc level) key left) (sym bit)

  -- ---- one step

  pub between-fork : (on_first on_last : Bool) (level : ℕ) (low high : Bool)
      → low ≡ (on_first && has_bit true level first) → high ≡ (on_last && has_bit false level last)
      → (left right l r : Shape) → between h low on_first high (level + 1) first last left ≡ Ok l
      → between h high low on_last (level + 1) first last right ≡ Ok r
      → between h false on_first on_last level first last (Fork left right) ≡ Ok (Fork l r)
  between-fork on_first on_last level low high is_low is_high left right l r on_left on_right =
      let next : suc level ≡ level + 1 = omega arith in
      ap (λ b. between h b on_first (on_last && has_bit false level last) (suc level) first last left >>= λ l.
      between h (on_last && has_bit false level last) b on_last (suc level) first last right >>= λ r. Ok (Fork l r))
      (sym is_low)
      ∙ ap (λ a. between h low on_first a (suc level) first last left >>= λ l.
      between h a low on_last (suc level) first last right >>= λ r. Ok (Fork l r)) (sym is_high)
      ∙ ap (λ n. between h low on_first high n first last left >>= λ l.
      between h high low on_last n first last right >>= λ r. Ok (Fork l r)) next
      ∙ ap (λ o. o >>= λ l. between h high low on_last (level + 1) first last right >>= λ r. Ok (Fork l r)) on_left
      ∙ ap (λ o. o >>= λ r. Ok (Fork l r)) on_right

-- ---- under a head

module _ (h : MapHashes) (entries memory : List (List ℕ)) (head : Head) (first last : Key) (bytes : List ℕ)
    (written : IsWrittenAt h entries memory head.top (between h false true true 0 first last) [] bytes)
    (xs : List Entry) (keeps : KeepsMap h entries memory head xs) where
  here : IsWritten (between h false true true 0 first last keeps.tree) [] bytes
  here = written head.entries head.forks keeps.tree (lies-under h entries memory head xs keeps)

  pub tree-between : IsTreeBetween h first last xs bytes
  tree-between = record {
    tree = keeps.tree;
    is = keeps.is;
    shown = here.shown;
    made = here.is;
    written = here.bytes;
  }

  pub shown-between : IsShownAt h (IsBetween first last) xs bytes
  shown-between =
      let tree = keeps.tree in
      let whole = keeps.is.whole in
      let stands = keeps.is.stands in
      let copy = between-copy h first last false true true 0 [] tree here.shown here.is in
      subst (λ xs. IsShownAt h (IsBetween first last) xs bytes) keeps.is.has (record {
        tree = here.shown;
        read = reads-back bytes here.shown (copy.stands stands) here.sized here.bytes;
        root = copy.digest ∙ sym (root-of-store h tree stands whole);
        known = λ key there. between-known h first last false true true 0 [] key tree here.shown refl stands refl there
            (record { as_first = λ on. refl; as_last = λ on. refl }) here.is
            ∙ store-found h tree key stands whole (known_at 0 key tree) refl;
        shows = copy.shows (entries_of tree) (whole-shows h [] 0 tree refl whole stands);
      })

-- Sums of multiples of two elements of a group, digit by digit from the highest on.
use Rattle.std.proofs.Common.{◌≡◌, ℕ, ◌+◌, ◌-◌, ◌*◌, ◌<◌, ◌≤◌, List, length, get_or, drop, if◌then◌else◌, sym, ◌∙◌}
use Rattle.std.proofs.Common.{ap, ap₂, arith, inl, inr, subst}
use Rattle.std.proofs.lemmas.Bool.{cases_lt, lt-ltb, le-ltb}
use Rattle.ark_groups.specs.Group.{Group, IsCommutativeGroup, times}
use Rattle.ark_groups.proofs.Multiples.{right_identity, times-add}
use Rattle.edwards.specs.Curves.{IsComplete}
use Rattle.edwards.specs.Laws.Points.{Point, points, points_laws}
use Rattle.edwards.specs.Cached.{signed_multiple}
use Rattle.edwards.specs.Digits.{added, taken, weighed, IsBlankFrom}
use Rattle.edwards.proofs.SignedDigits.{added-low, added-high, taken-low, taken-high, weighed_more}

module _ {G : Type 0} (g : Group G) (laws : IsCommutativeGroup g) (s t : G) where
  pub swap_inner : (a b c d : G) → g.plus (g.plus a b) (g.plus c d) ≡ g.plus (g.plus a c) (g.plus b d)
  swap_inner a b c d =
      laws.assoc a b (g.plus c d)
      ∙ ap (g.plus a) (sym (laws.assoc b c d) ∙ ap (λ x. g.plus x d) (laws.comm b c) ∙ laws.assoc c b d)
      ∙ sym (laws.assoc a c (g.plus b d))

  taken_off : (x z : G) → x ≡ g.plus (g.plus x z) (g.opposite z)
  taken_off x z =
      sym (right_identity laws x) ∙ ap (g.plus x) (sym (laws.left_opposite z) ∙ laws.comm (g.opposite z) z)
      ∙ sym (laws.assoc x z (g.opposite z))

  pub cancelled : (x y z : G) → g.plus x z ≡ g.plus y z → x ≡ y
  cancelled x y z e = taken_off x z ∙ ap (λ w. g.plus w (g.opposite z)) e ∙ sym (taken_off y z)

  -- m s + n t
  abbrev pub both : ℕ → ℕ → G
  both m n = g.plus (times g m s) (times g n t)

  pub both-add : (m n k l : ℕ) → both (m + k) (n + l) ≡ g.plus (both m n) (both k l)
  both-add m n k l = ap₂ g.plus (times-add laws m k s) (times-add laws n l t) ∙ swap_inner _ _ _ _

  -- an element, and what the digits take away, are what they add
  abbrev pub Reached : List ℕ → List ℕ → ℕ → G → Type 0
  Reached m n i q =
      g.plus q (both (weighed taken (drop i m)) (weighed taken (drop i n)))
      ≡ both (weighed added (drop i m)) (weighed added (drop i n))

  -- an element is the multiple of another by a digit
  abbrev pub IsByDigit : ℕ → G → G → Type 0
  IsByDigit c x e = g.plus e (times g (taken c) x) ≡ times g (added c) x

  pub none_reached : (m n : List ℕ) (i : ℕ) → IsBlankFrom i m → IsBlankFrom i n → Reached m n i g.identity
  none_reached m n i of_m of_n =
      laws.left_identity _ ∙ ap₂ both (of_m.takes ∙ sym of_m.adds) (of_n.takes ∙ sym of_n.adds)

  doubled : (a b c d : ℕ) (q : G) → g.plus q (both a b) ≡ both c d
      → g.plus (g.plus q q) (both (a + a) (b + b)) ≡ both (c + c) (d + d)
  doubled a b c d q e =
      ap (g.plus (g.plus q q)) (both-add a b a b) ∙ swap_inner q q (both a b) (both a b) ∙ ap₂ g.plus e e
      ∙ sym (both-add c d c d)

  -- two elements more, each with what it takes away
  more : (a b c d k l m n : ℕ) (q e f : G) → g.plus q (both a b) ≡ both c d → g.plus e (times g k s) ≡ times g m s
      → g.plus f (times g l t) ≡ times g n t
      → g.plus (g.plus (g.plus q e) f) (both (a + k) (b + l)) ≡ both (c + m) (d + n)
  more a b c d k l m n q e f of_q of_e of_f =
      ap₂ g.plus (laws.assoc q e f) (both-add a b k l) ∙ swap_inner q (g.plus e f) (both a b) (both k l)
      ∙ ap₂ g.plus of_q (swap_inner e f (times g k s) (times g l t) ∙ ap₂ g.plus of_e of_f)
      ∙ sym (both-add c d m n)

  pub next_reached : (m n : List ℕ) (i : ℕ) (q e f : G) → i < length m → i < length n → Reached m n (i + 1) q
      → IsByDigit (get_or m i 0) s e → IsByDigit (get_or n i 0) t f → Reached m n i (g.plus (g.plus (g.plus q q) e) f)
  next_reached m n i q e f in_m in_n before of_e of_f =
      ap (g.plus (g.plus (g.plus (g.plus q q) e) f)) (ap₂ both (at taken m in_m) (at taken n in_n))
      ∙ more (w taken m + w taken m) (w taken n + w taken n) (w added m + w added m) (w added n + w added n)
      (taken (get_or m i 0)) (taken (get_or n i 0)) (added (get_or m i 0)) (added (get_or n i 0)) (g.plus q q) e f
      (doubled (w taken m) (w taken n) (w added m) (w added n) q before) of_e of_f
      ∙ sym (ap₂ both (at added m in_m) (at added n in_n))
    where
      w : (ℕ → ℕ) → List ℕ → ℕ
      w count digits = weighed count (drop (i + 1) digits)

      turn : (c w : ℕ) → c + 2 * w ≡ w + w + c
      turn c w = omega arith

      at : (count : ℕ → ℕ) (digits : List ℕ) → i < length digits
          → weighed count (drop i digits) ≡ w count digits + w count digits + count (get_or digits i 0)
      at count digits below = weighed_more count digits i below ∙ turn (count (get_or digits i 0)) (w count digits)

  pub all_reached : (m n : List ℕ) (i x y : ℕ) (q : G) → i ≡ 0 → x + weighed taken m ≡ weighed added m
      → y + weighed taken n ≡ weighed added n → Reached m n i q → q ≡ both x y
  all_reached m n i x y q first of_m of_n at =
      cancelled q (both x y) (both (weighed taken m) (weighed taken n))
      (whole ∙ ap₂ both (sym of_m) (sym of_n) ∙ both-add x y (weighed taken m) (weighed taken n))
    where
      whole : g.plus q (both (weighed taken m) (weighed taken n)) ≡ both (weighed added m) (weighed added n)
      whole = subst (λ j. Reached m n j q) first at

-- the multiple by a digit
pub by_digit : (p d : ℕ) (k : IsComplete p d) (c : ℕ) (s : Point p d k)
    → (points p d k).plus (signed_multiple p d k c s) (times (points p d k) (taken c) s)
    ≡ times (points p d k) (added c) s
unfolding signed_multiple
by_digit p d k c s =
    elim (cases_lt c 16) [
      | inl l ↦
          ap₂ g.plus (ap (λ b. if b then times g c s else g.opposite (times g (32 - c) s)) (lt-ltb c 16 l))
          (ap (λ n. times g n s) (taken-low c l))
          ∙ right_identity (points_laws p d k) (times g c s) ∙ ap (λ n. times g n s) (sym (added-low c l))
      | inr l ↦
          ap₂ g.plus (ap (λ b. if b then times g c s else g.opposite (times g (32 - c) s)) (le-ltb c 16 l))
          (ap (λ n. times g n s) (taken-high c l))
          ∙ (points_laws p d k).left_opposite (times g (32 - c) s) ∙ ap (λ n. times g n s) (sym (added-high c l))
    ]
  where
    g : Group (Point p d k)
    g = points p d k

-- the multiple by a digit below 16, and by one above
pub multiple_low : (p d : ℕ) (k : IsComplete p d) (c : ℕ) (s : Point p d k) → c < 16
    → times (points p d k) c s ≡ signed_multiple p d k c s
unfolding signed_multiple
multiple_low p d k c s l =
    sym (ap (λ b. if b then times g c s else g.opposite (times g (32 - c) s)) (lt-ltb c 16 l))
  where
    g : Group (Point p d k)
    g = points p d k

pub multiple_high : (p d : ℕ) (k : IsComplete p d) (c : ℕ) (s : Point p d k) → 16 ≤ c
    → (points p d k).opposite (times (points p d k) (32 - c) s) ≡ signed_multiple p d k c s
unfolding signed_multiple
multiple_high p d k c s l =
    sym (ap (λ b. if b then times g c s else g.opposite (times g (32 - c) s)) (le-ltb c 16 l))
  where
    g : Group (Point p d k)
    g = points p d k

-- How many nodes of a level are complete.
use Rattle.std.proofs.Common.{false, IsTrue, ◌≡◌, ℕ, zero, suc, ◌+◌, ◌-◌, ◌*◌, ◌/◌, ◌%◌, ◌^◌, ◌<◌, ◌≤◌, arith, ap, sym, ◌∙◌, inl, inr}
use Rattle.std.proofs.lemmas.Nat.{pow_pos, pow-add, shl-shr, shr-shr, shr_split, shr_high, pow_below, le-div, mod_below}
use Rattle.std.proofs.lemmas.Bool.{cases_lt}
use Rattle.std.proofs.Math.Nat.{pow-suc}
use Rattle.incremental_trees.specs.Incremental.{CarriesTo}

-- half of the count of a level is that of the level above
pub half-up : (size level : ℕ) → size / 2 ^ suc level ≡ size / 2 ^ level / 2
half-up size level = ap (λ n. size / 2 ^ n) (omega arith) ∙ sym (shr-shr size level 1)

-- Below the level up to which a leaf completes nodes the count of complete nodes goes from odd to even.
pub record OddBelow (size level : ℕ) : Type 0 where
  pub pairs : ℕ
  pub before : size / 2 ^ level ≡ 2 * pairs + 1
  pub after : (size + 1) / 2 ^ level ≡ 2 * pairs + 2

-- Below a level on which all leaves and one more stand below complete nodes.
pub odd_below : (size count level : ℕ) → size + 1 ≡ (count + 1) * 2 ^ level → (k j : ℕ) → level ≡ k + suc j
    → OddBelow size k
odd_below size count level complete k j is =
    let half = (count + 1) * 2 ^ j in
    let powers : 2 ^ level ≡ 2 ^ k * (2 * 2 ^ j) =
    ap (λ n. 2 ^ n) is ∙ pow-add 2 k (suc j) ∙ ap (λ n. 2 ^ k * n) (pow-suc 2 j ∙ omega arith) in
    let turned : (count + 1) * 2 ^ level ≡ 2 * half * 2 ^ k = ap (λ n. (count + 1) * n) powers ∙ omega arith in
    let some : 0 < half = omega (arith, pow_pos j, positive count (2 ^ j) (pow_pos j)) in
    let whole : size + 1 ≡ 2 * half * 2 ^ k = complete ∙ turned in
    let low : size ≡ (2 * half - 1) * 2 ^ k + (2 ^ k - 1) =
    lower (2 * half) (2 ^ k) size (omega arith) (pow_pos k) whole in
    record {
      pairs = half - 1;
      before = ap (λ n. n / 2 ^ k) low ∙ shr_high (2 * half - 1) k (2 ^ k - 1) (omega (arith, pow_pos k)) ∙ omega arith;
      after = ap (λ n. n / 2 ^ k) whole ∙ shl-shr (2 * half) k ∙ omega arith;
    }
  where
    positive : (a b : ℕ) → 0 < b → 0 < (a + 1) * b
    positive a b h = omega arith

    lower : (a b s : ℕ) → 0 < a → 0 < b → s + 1 ≡ a * b → s ≡ (a - 1) * b + (b - 1)
    lower zero b s ha hb is = absurd (omega arith)
    lower (suc a) b s ha hb is =
        let less : suc a - 1 ≡ a = omega arith in
        let low : s ≡ a * b + (b - 1) = omega arith in
        low ∙ ap (λ n. n * b + (b - 1)) (sym less)

module _ {size level : ℕ} (carries : CarriesTo size level) where
  abbrev pub count : ℕ
  count = size / 2 ^ level

  pub count-at : (size + 1) / 2 ^ level ≡ count + 1
  count-at = ap (λ n. n / 2 ^ level) carries.complete ∙ shl-shr (count + 1) level

  pub count-below : (k j : ℕ) → level ≡ k + suc j → OddBelow size k
  count-below = odd_below size count level carries.complete

  pub count-above : (k j : ℕ) → k ≡ level + suc j → (size + 1) / 2 ^ k ≡ size / 2 ^ k
  count-above k j is =
      let powers : 2 ^ k ≡ 2 ^ (level + suc j) = ap (λ n. 2 ^ n) is in
      let down : (s : ℕ) → s / 2 ^ k ≡ s / 2 ^ level / 2 / 2 ^ j = λ s. ap (λ n. s / n) powers
      ∙ sym (shr-shr s level (suc j)) ∙ ap (λ n. s / 2 ^ level / 2 ^ n) (omega arith)
      ∙ sym (shr-shr (s / 2 ^ level) 1 j) in
      let same : (size + 1) / 2 ^ level / 2 ≡ count / 2 = ap (λ n. n / 2) count-at ∙ omega (arith, carries.left) in
      down (size + 1) ∙ ap (λ n. n / 2 ^ j) same ∙ sym (down size)

-- a level has a complete node where there are as many leaves as it has below it
pub some_complete : (level size : ℕ) → 2 ^ level ≤ size → 1 ≤ size / 2 ^ level
some_complete level size le = le-div 1 size (2 ^ level) (pow_pos level) (omega arith)

pub complete_inside : (level size count : ℕ) → count ≤ size / 2 ^ level → count * 2 ^ level ≤ size
complete_inside level size count le =
    omega (arith, shr_split size level, times count (size / 2 ^ level) (2 ^ level) le)
  where
    times : (a b c : ℕ) → a ≤ b → a * c ≤ b * c
    times a b c le = grind arith

pub place_outside : (level size : ℕ) → size < (size / 2 ^ level + 1) * 2 ^ level
place_outside level size = omega (arith, shr_split size level, mod_below size (2 ^ level) (pow_pos level))

-- a level up to which all leaves stand below nodes that are complete
pub halved-whole : (size count level : ℕ) → size ≡ count * 2 ^ level → count % 2 ≡ 0
    → size ≡ count / 2 * 2 ^ (level + 1)
halved-whole size count level whole even =
    let up : suc level ≡ level + 1 = omega arith in
    let twice : count ≡ 2 * (count / 2) = omega arith in
    let above : 2 * (count / 2) * 2 ^ level ≡ count / 2 * 2 ^ suc level = rw (pow-suc 2 level) (omega arith) in
    whole ∙ ap (λ n. n * 2 ^ level) twice ∙ above ∙ ap (λ n. count / 2 * 2 ^ n) up

-- a level with a complete node is below the depth of a tree that is not full
pub level_below : (level depth size : ℕ) → 1 * 2 ^ level ≤ size → size < 2 ^ depth → level < depth
level_below level depth size one room = elim (cases_lt level depth) [
  | inl lower ↦ lower
  | inr high ↦ elim (cases_lt depth level) [
    | inl lower ↦ absurd (omega (arith, pow_below depth level lower))
    | inr low ↦
        let same : level ≡ depth = omega arith in
        absurd (omega (arith, ap (λ n. 2 ^ n) same))
  ]
]

untrue : IsTrue false → ⊥
untrue e = cc

-- a tree that is not full, by what the test says
pub room_left : (size limit : ℕ) → (size ≡ limit → IsTrue false) → size ≤ limit → size < limit
room_left size limit apart le = elim (cases_lt size limit) [
  | inl lower ↦ lower
  | inr high ↦ absurd (untrue (apart (omega arith)))
]

pub places_up : (a b level : ℕ) → a ≤ b → a * 2 ^ level ≤ b * 2 ^ level
places_up a b level le = grind arith

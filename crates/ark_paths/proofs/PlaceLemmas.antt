-- Places on the way of an index.
use Rattle.std.proofs.Common.{suc, ◌≡◌, ℕ, ◌+◌, ◌-◌, ◌*◌, ◌/◌, ◌%◌, ◌<◌, ◌≤◌, ◌^◌, Bool, true, false, if◌then◌else◌, List, [], length, get_or, arith, refl, ap, sym, subst, ◌∙◌, pow_pos, inl, inr}
use Rattle.std.proofs.lemmas.Bool.{cases_lt, eqb-true, eqb-false}
use Rattle.std.proofs.lemmas.Nat.{div_below, div-mul-add}
use Rattle.std.proofs.Math.Nat.{pow-succ', pow-le-pow_right, le-mul_of_pos_right}
use Rattle.ark_paths.specs.Index.{bit_at, neighbour}
use Rattle.ark_paths.specs.Pair.{Digest}
use Rattle.ark_paths.specs.Rows.{AreLevels, HoldsIndex}

same_factor : (a b w : ℕ) → 0 < w → a * w ≡ b * w → a ≡ b
same_factor a b w some e = sym (div-mul-add a w 0 some) ∙ ap (λ (n : ℕ). (n + 0) / w) e ∙ div-mul-add b w 0 some

module _ (rows : List (List Digest)) (size : ℕ) (levels : AreLevels size rows) where
  -- a row that is not the last is twice as long as the next
  pub row-twice : (k : ℕ) → suc k < length rows → length (get_or rows k []) ≡ 2 * length (get_or rows (suc k) [])
  row-twice k below =
      let next = length (get_or rows (suc k) []) in
      let w : 0 < 2 ^ suc k = pow_pos (suc k) in
      let twice : next * 2 ^ suc (suc k) ≡ 2 * next * 2 ^ suc k = rw (pow-succ' 2 (suc k)) (grind arith) in
      same_factor (length (get_or rows k [])) (2 * next) (2 ^ suc k) w (levels k (omega arith)
      ∙ sym (levels (suc k) below) ∙ twice)

  pub place-inside : (k index : ℕ) → k < length rows → index < size → index / 2 ^ suc k < length (get_or rows k [])
  place-inside k index below inside = div_below index (2 ^ suc k) (length (get_or rows k [])) (pow_pos (suc k))
      (let level = levels k below in omega arith)

  -- a row's level is one of 64 bits
  pub level-fits : (k index : ℕ) → k < length rows → index < size → size < 2 ^ 64 → suc k < 64
  level-fits k index below inside fits =
      elim (cases_lt (suc k) 64) [
        | inl lt ↦ lt
        | inr ge ↦
            let two : 0 < 2 = omega arith in
            let large : 2 ^ 64 ≤ 2 ^ suc k = pow-le-pow_right two ge in
            let some : 0 < length (get_or rows k []) = let place = place-inside k index below inside in omega arith in
            let whole : 2 ^ suc k ≤ 2 ^ suc k * length (get_or rows k []) = le-mul_of_pos_right (2 ^ suc k) some in
            let level : length (get_or rows k []) * 2 ^ suc k ≡ size = levels k below in
            let swapped : 2 ^ suc k * length (get_or rows k []) ≡ length (get_or rows k []) * 2 ^ suc k = grind arith in
            absurd (omega (arith, large, whole))
      ]

neighbour_by : (b : Bool) (place n : ℕ) → bit_at place 0 ≡ b → place < 2 * n
    → (if b then place - 1 else place + 1) < 2 * n
neighbour_by true place n is below = let odd : (place / 2 ^ 0) % 2 ≡ 1 =
    eqb-true ((place / 2 ^ 0) % 2) 1 is in omega arith
neighbour_by false place n is below = let even : (place / 2 ^ 0) % 2 ≡ 1 → ⊥ =
    eqb-false ((place / 2 ^ 0) % 2) 1 is in omega arith

-- beside a place of an even row stands another
pub neighbour-inside : (place n : ℕ) → place < 2 * n → neighbour place < 2 * n
neighbour-inside place n below = neighbour_by (bit_at place 0) place n refl below

-- beside the way of an index, below a level, stands another digest
pub way-neighbour : (rows : List (List Digest)) (size : ℕ) → AreLevels size rows → (index : ℕ) → index < size
    → (level : ℕ) → 1 ≤ level → level < length rows → neighbour (index / 2 ^ level) < length
    (get_or rows (level - 1) [])
way-neighbour rows size levels index inside level some below =
    let k = level - 1 in
    let is : suc k ≡ level = omega arith in
    let twice : length (get_or rows k []) ≡ 2 * length (get_or rows (suc k) []) =
    row-twice rows size levels k (omega arith) in
    let place : index / 2 ^ suc k < length (get_or rows k []) =
    place-inside rows size levels k index (omega arith) inside in
    let next : neighbour (index / 2 ^ suc k) < 2 * length (get_or rows (suc k) []) =
    neighbour-inside (index / 2 ^ suc k) (length (get_or rows (suc k) [])) (omega arith) in
    subst (λ (n : ℕ). neighbour (index / 2 ^ n) < length (get_or rows k [])) is (omega (arith, twice, next))

module _ (rows : List (List Digest)) (index : ℕ) (holds : HoldsIndex rows index) where
  pub beside-inside : (k : ℕ) → suc k < length rows → neighbour (index / 2 ^ suc k) < length (get_or rows k [])
  beside-inside k below =
      let twice = row-twice rows holds.size holds.levels k below in
      let place = place-inside rows holds.size holds.levels k index (omega arith) holds.inside in
      rw twice (neighbour-inside (index / 2 ^ suc k) (length (get_or rows (suc k) [])) (omega arith))

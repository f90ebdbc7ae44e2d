-- The rows of the base point's multiples are those.
use Rattle.std.proofs.Common.{◌≡◌, ℕ, zero, suc, ◌+◌, ◌-◌, ◌*◌, ◌^◌, ◌<◌, List, get_or, refl, sym, ◌∙◌, ap, arith, pow-suc}
use Rattle.std.proofs.Common.{◌%◌, mul_comm, subst, lit<}
use Rattle.number_facts.specs.Powers.{power_mod}
use Rattle.number_facts.proofs.PowerLaws.{power_right}
use Rattle.ark_groups.specs.Group.{Group, IsCommutativeGroup, times}
use Rattle.ark_groups.proofs.Multiples.{right_identity, times-add, times-plus, times-mul}
use Rattle.edwards.specs.Edwards.{Coordinates, cross, inverse, sum}
use Rattle.edwards.specs.Laws.CurveLaws.{same_coordinates}
use Rattle.edwards.specs.Laws.Points.{Point, points, points_laws, at-times}
use Rattle.ed25519.specs.Edwards25519.{p, d, curve, base_point, IsOnEd25519}
use Rattle.ed25519.specs.Laws.Curve.{ed25519_is_complete}
use Rattle.ed25519.specs.Laws.Base.{base_on_curve}
use Rattle.ed25519.specs.BaseTable.{quick, doubled, prepared_words, entries, multiples_row, rows, four_rows_from, row_unit}

abbrev P : Type 0
P = Point p d ed25519_is_complete

abbrev all : Group P
all = points p d ed25519_is_complete

laws : IsCommutativeGroup all
laws = points_laws p d ed25519_is_complete

abbrev base : P
base = record { at = base_point; on = base_on_curve }

-- inverses are computed as they are defined
computed : (n : ℕ) → power_mod p 255 n (p - 2) ≡ inverse p n
unfolding inverse
computed n = power_right p 255 n (p - 2) (lit< tt)

quick_is : (s t : P) → quick s.at t.at ≡ (all.plus s t).at
quick_is s t =
    same_coordinates (quick s.at t.at) (sum p d s.at t.at)
    (ap (λ n. (s.at.x * t.at.y + s.at.y * t.at.x) * n % p) (computed (1 + cross d s.at t.at)))
    (ap (λ n. (s.at.y * t.at.y + s.at.x * t.at.x) * n % p) (computed (1 + (p - cross d s.at t.at % p))))

doubled_is : (n : ℕ) (s : P) → doubled n s.at ≡ (times all (2 ^ n) s).at
doubled_is zero s = sym (ap (λ (t : P). t.at) (laws.left_identity s))
doubled_is (suc n) s =
    ap (doubled n) (quick_is s s) ∙ doubled_is n (all.plus s s)
    ∙ ap (λ (t : P). t.at) (times-plus laws (2 ^ n) s s ∙ sym (times-add laws (2 ^ n) (2 ^ n) s)
    ∙ ap (λ k. times all k s) (twice (2 ^ n) ∙ sym (pow-suc 2 n)))
  where
    twice : (k : ℕ) → k + k ≡ k * 2
    twice k = omega arith

doubled_more : (m n : ℕ) (a : Coordinates) → doubled n (doubled m a) ≡ doubled (m + n) a
doubled_more zero n a = ap (λ k. doubled k a) (none n)
  where
    none : (n : ℕ) → n ≡ 0 + n
    none n = omega arith
doubled_more (suc m) n a = doubled_more m n (quick a a) ∙ ap (λ k. doubled k a) (next m n)
  where
    next : (m n : ℕ) → suc (m + n) ≡ suc m + n
    next m n = omega arith

unit_is_at : (i : ℕ) → row_unit i ≡ (times all (65536 ^ i) base).at
unfolding row_unit
unit_is_at zero = sym (ap (λ (t : P). t.at) (laws.left_identity base))
unit_is_at (suc i) =
    ap (λ k. doubled k base_point) (next i) ∙ sym (doubled_more (16 * i) 16 base_point)
    ∙ ap (doubled 16) (unit_is_at i) ∙ doubled_is 16 (times all (65536 ^ i) base)
    ∙ ap (λ (t : P). t.at) (sym (times-mul laws 65536 (65536 ^ i) base)
    ∙ ap (λ k. times all k base) (mul_comm 65536 (65536 ^ i) ∙ sym (pow-suc 65536 i)))
  where
    next : (i : ℕ) → 16 * suc i ≡ 16 * i + 16
    next i = omega arith

entries_at : (n j : ℕ) (s t : P) (e : List (List ℕ)) → j < n
    → get_or (entries n s.at t.at) j e ≡ prepared_words (all.plus s (times all j t)).at
entries_at zero j s t e below = absurd (omega (arith, below))
entries_at (suc n) zero s t e below = sym (ap (λ (q : P). prepared_words q.at) (right_identity laws s))
entries_at (suc n) (suc j) s t e below =
    ap (λ a. get_or (entries n a t.at) j e) (quick_is s t)
    ∙ entries_at n j (all.plus s t) t e (omega (arith, below))
    ∙ ap (λ (q : P). prepared_words q.at) (laws.assoc s t (times all j t)
    ∙ ap (λ q. all.plus s q) (laws.comm t (times all j t)))

-- the entry at j is the multiple by j + 1
pub entry_at : (j : ℕ) (b : Coordinates) → IsOnEd25519 b → j < 15 → (e : List (List ℕ))
    → get_or (multiples_row b) j e ≡ prepared_words (times curve (j + 1) b)
unfolding multiples_row
entry_at j b on below e =
    let s : P = record { at = b; on = on } in
    entries_at 15 j s s e below
    ∙ ap (λ (q : P). prepared_words q.at) (laws.comm s (times all j s))
    ∙ ap prepared_words (at-times p d ed25519_is_complete (suc j) s)
    ∙ ap (λ k. prepared_words (times curve k b)) (next j)
  where
    next : (j : ℕ) → suc j ≡ j + 1
    next j = omega arith

rows_at : (n j : ℕ) (a : Coordinates) (e : List (List (List ℕ))) → j < n
    → get_or (rows n a) j e ≡ multiples_row (doubled (16 * j) a)
rows_at zero j a e below = absurd (omega (arith, below))
rows_at (suc n) zero a e below = refl
rows_at (suc n) (suc j) a e below =
    rows_at n j (doubled 16 a) e (omega (arith, below)) ∙ ap multiples_row (doubled_more 16 (16 * j) a
    ∙ ap (λ k. doubled k a) (next j))
  where
    next : (j : ℕ) → 16 + 16 * j ≡ 16 * suc j
    next j = omega arith

-- the row at j of four is that of its unit
pub row_from : (n j i : ℕ) (e : List (List (List ℕ))) → j < 4 → n + 16 * j ≡ 16 * i
    → get_or (four_rows_from n) j e ≡ multiples_row (row_unit i)
unfolding four_rows_from row_unit
row_from n j i e below is =
    rows_at 4 j (doubled n base_point) e below
    ∙ ap multiples_row (doubled_more n (16 * j) base_point ∙ ap (λ k. doubled k base_point) is)

-- a multiple of a unit is a multiple of the base point
pub unit_times : (m i : ℕ) → times curve m (row_unit i) ≡ times curve (m * 65536 ^ i) base_point
unit_times m i =
    ap (times curve m) (unit_is_at i) ∙ sym (at-times p d ed25519_is_complete m (times all (65536 ^ i) base))
    ∙ ap (λ (t : P). t.at) (sym (times-mul laws m (65536 ^ i) base))
    ∙ at-times p d ed25519_is_complete (m * 65536 ^ i) base

pub unit_on : (i : ℕ) → IsOnEd25519 (row_unit i)
unit_on i = subst IsOnEd25519 (sym (unit_is_at i)) ((times all (65536 ^ i) base).on)

-- What the test of a signature shows.
use Rattle.std.proofs.Common.{◌≡◌, ℕ, ◌+◌, ◌-◌, ◌*◌, ◌%◌, ◌^◌, ◌<◌, List, ◌++◌, length, take, drop, refl, sym, ◌∙◌, ap}
use Rattle.std.proofs.Common.{ap₂, subst, arith, mod-eq_of_lt, ⊎_elim}
use Rattle.std.proofs.lemmas.List.{length-append}
use Rattle.std.proofs.Math.Seq.{take-append_seam, drop-append_seam}
use Rattle.ark_base.specs.Digits.{number_of_bytes, bytes_of_number}
use Rattle.ark_base.specs.Laws.Digits.{length-bytes_of_number, number_of_bytes-bytes_of_number}
use Rattle.ark_groups.specs.Group.{Group, IsCommutativeGroup, times}
use Rattle.ark_groups.proofs.Multiples.{times-plus, times-identity, right_identity}
use Rattle.edwards.specs.Edwards.{Coordinates, sum, negative}
use Rattle.edwards.specs.Laws.CurveLaws.{same_coordinates}
use Rattle.edwards.specs.Laws.Points.{Point, points, points_laws, same_point, at-times}
use Rattle.ed25519.specs.Edwards25519.{p, d, order, curve, base_point, IsOnEd25519}
use Rattle.ed25519.specs.Laws.Curve.{ed25519_is_complete}
use Rattle.ed25519.specs.Laws.Base.{base_on_curve}
use Rattle.ed25519.specs.Spelling.{spelling}
use Rattle.ed25519.specs.Signatures.{challenge, IsSignature}
use Rattle.ed25519.proofs.PointLaws.{IsRatio, ratio_of, one_square, same_or_opposite}
use Rattle.ed25519.proofs.PointBytes.{length-spelling, number_spelled}

-- ---- the points

abbrev pub P : Type 0
P = Point p d ed25519_is_complete

abbrev pub G : Group P
G = points p d ed25519_is_complete

pub laws : IsCommutativeGroup G
laws = points_laws p d ed25519_is_complete

abbrev pub base : P
base = record { at = base_point; on = base_on_curve }

-- what is taken away and added again
added_back : (k : ℕ) (x a : P) → G.plus (G.plus x (times G k (G.opposite a))) (times G k a) ≡ x
added_back k x a =
    laws.assoc x (times G k (G.opposite a)) (times G k a)
    ∙ ap (G.plus x) (sym (times-plus laws k (G.opposite a) a) ∙ ap (times G k) (laws.left_opposite a)
    ∙ times-identity laws k) ∙ right_identity laws x

taken_back : (k : ℕ) (r a : P) → G.plus (G.plus r (times G k a)) (times G k (G.opposite a)) ≡ r
taken_back k r a =
    laws.assoc r (times G k a) (times G k (G.opposite a))
    ∙ ap (G.plus r) (laws.comm (times G k a) (times G k (G.opposite a)) ∙ sym (times-plus laws k (G.opposite a) a)
    ∙ ap (times G k) (laws.left_opposite a) ∙ times-identity laws k) ∙ right_identity laws r

pub at : (n : ℕ) (a : P) → (times G n a).at ≡ times curve n a.at
at = at-times p d ed25519_is_complete

-- S B - k A, where A is a point
abbrev pub left_over : ℕ → ℕ → Coordinates → Coordinates
left_over s k a = sum p d (times curve s base_point) (times curve k (negative p a))

left_over_at : (s k : ℕ) (a : P) → (G.plus (times G s base) (times G k (G.opposite a))).at ≡ left_over s k a.at
left_over_at s k a = ap₂ (sum p d) (at s base) (at k (G.opposite a))

pub left_over_on : (s k : ℕ) (a : Coordinates) → IsOnEd25519 a → IsOnEd25519 (left_over s k a)
left_over_on s k a on =
    let one : P = record { at = a; on = on } in
    subst IsOnEd25519 (left_over_at s k one) ((G.plus (times G s base) (times G k (G.opposite one))).on)

-- it satisfies the equation, and it alone
pub equation_holds : (s k : ℕ) (a : Coordinates) → IsOnEd25519 a
    → times curve s base_point ≡ sum p d (left_over s k a) (times curve k a)
equation_holds s k a on =
    let one : P = record { at = a; on = on } in
    sym (at s base) ∙ ap (λ (t : P). t.at) (sym (added_back k (times G s base) one))
    ∙ ap₂ (sum p d) (left_over_at s k one) (at k one)

pub equation_alone : (s k : ℕ) (a r : Coordinates) → IsOnEd25519 a → IsOnEd25519 r
    → times curve s base_point ≡ sum p d r (times curve k a) → left_over s k a ≡ r
equation_alone s k a r on_a on_r e =
    let one : P = record { at = a; on = on_a } in
    let first : P = record { at = r; on = on_r } in
    let same : times G s base ≡ G.plus first (times G k one) =
    same_point p d ed25519_is_complete _ _ (at s base ∙ e ∙ ap (sum p d r) (sym (at k one))) in
    sym (left_over_at s k one) ∙ ap (λ (t : P). (G.plus t (times G k (G.opposite one))).at) same
    ∙ ap (λ (t : P). t.at) (taken_back k first one)

-- ---- the bytes

-- no two points have the same bytes
pub spelled_alone : (a b : Coordinates) → IsOnEd25519 a → IsOnEd25519 b → spelling a ≡ spelling b → a ≡ b
spelled_alone a b on_a on_b e =
    let number = sym (number_spelled a on_a) ∙ ap number_of_bytes e ∙ number_spelled b on_b in
    let same_y : a.y ≡ b.y = y_is a.x a.y b.x b.y on_a.y_below on_b.y_below number in
    let parity : a.x % 2 ≡ b.x % 2 = x_is a.x a.y b.x b.y on_a.y_below on_b.y_below number in
    let yy : ℕ = a.y * a.y % p in
    let u : ℕ = (yy + (p - 1)) % p in
    let product : ℕ = yy * d % p in
    let v : ℕ = (product + 1) % p in
    let it : IsRatio a.y u v = record {
      yy = yy;
      product = product;
      is_yy = refl;
      is_u = refl;
      is_product = refl;
      is_v = refl;
    } in
    let squares : a.x * a.x % p ≡ b.x * b.x % p =
    one_square a.y u v it a b.x on_a refl (ratio_of a.y u v it b on_b (sym same_y)) in
    same_coordinates a b
    (⊎_elim {C = a.x ≡ b.x} (λ h. h) (λ h. turned a.x b.x on_a.x_below on_b.x_below h parity)
    (same_or_opposite a.x b.x on_a.x_below on_b.x_below squares)) same_y
  where
    y_is : (x y x' y' : ℕ) → y < p → y' < p → y + 2 ^ 255 * (x % 2) ≡ y' + 2 ^ 255 * (x' % 2) → y ≡ y'
    y_is x y x' y' l l' e = omega (arith, l, l', e)

    x_is : (x y x' y' : ℕ) → y < p → y' < p → y + 2 ^ 255 * (x % 2) ≡ y' + 2 ^ 255 * (x' % 2) → x % 2 ≡ x' % 2
    x_is x y x' y' l l' e = omega (arith, l, l', e)

    turned : (x r : ℕ) → x < p → r < p → x ≡ (p - r) % p → x % 2 ≡ r % 2 → x ≡ r
    turned x r l l' e k = omega (arith, l, l', e, k)

-- a signature is 64 bytes
pub signature_long : (key message signature : List ℕ) → IsSignature key message signature → length signature ≡ 64
signature_long key message signature s =
    ap length s.signature_is ∙ length-append (spelling s.first) (bytes_of_number 32 s.scalar)
    ∙ ap₂ (λ m n. m + n) (length-spelling s.first) (length-bytes_of_number 32 s.scalar)

module _ (key message signature first last : List ℕ) (is_first : first ≡ take 32 signature)
    (is_last : last ≡ drop 32 signature) where
  pub first_of : (s : IsSignature key message signature) → first ≡ spelling s.first
  first_of s =
      is_first ∙ ap (take 32) s.signature_is
      ∙ ap (λ n. take n (spelling s.first ++ bytes_of_number 32 s.scalar)) (sym (length-spelling s.first))
      ∙ take-append_seam (spelling s.first) (bytes_of_number 32 s.scalar)

  pub last_of : (s : IsSignature key message signature) → last ≡ bytes_of_number 32 s.scalar
  last_of s =
      is_last ∙ ap (drop 32) s.signature_is
      ∙ ap (λ n. drop n (spelling s.first ++ bytes_of_number 32 s.scalar)) (sym (length-spelling s.first))
      ∙ drop-append_seam (spelling s.first) (bytes_of_number 32 s.scalar)

  -- the scalar that is read, modulo the order
  pub scalar_of : (s : IsSignature key message signature) (n : ℕ) → n ≡ number_of_bytes last % order → n ≡ s.scalar
  unfolding order
  scalar_of s n is =
      is ∙ ap (λ t. number_of_bytes t % order) (last_of s)
      ∙ ap (λ t. t % order) (number_of_bytes-bytes_of_number 32 s.scalar (fits s.scalar s.scalar_below))
      ∙ mod-eq_of_lt s.scalar_below
    where
      fits : (n : ℕ) → n < order → n < 256 ^ 32
      fits n l = omega (arith, l)

  -- what passes the tests is a signature
  pub is_signature : (a : Coordinates) (s k : ℕ) → IsOnEd25519 a → key ≡ spelling a → s < order
      → last ≡ bytes_of_number 32 s → k ≡ challenge first key message → first ≡ spelling (left_over s k a)
      → signature ≡ first ++ last → IsSignature key message signature
  is_signature a s k on key_is below last_is is_k first_is whole = record {
    public = a;
    public_on = on;
    key_is = key_is;
    first = left_over s k a;
    first_on = left_over_on s k a on;
    scalar = s;
    scalar_below = below;
    signature_is = whole ∙ ap₂ (λ t u. t ++ u) first_is last_is;
    equation = equation_holds s k a on ∙ ap (λ n. sum p d (left_over s k a) (times curve n a))
        (is_k ∙ ap (λ t. challenge t key message) first_is);
  }

  -- and each signature passes the last
  pub passes : (q : IsSignature key message signature) (a : Coordinates) (s k : ℕ) → IsOnEd25519 a → key ≡ spelling a
      → s ≡ number_of_bytes last % order → k ≡ challenge first key message → spelling (left_over s k a) ≡ first
  passes q a s k on key_is is_s is_k =
      let same : q.public ≡ a = spelled_alone q.public a q.public_on on (sym q.key_is ∙ key_is) in
      let first_is : first ≡ spelling q.first = first_of q in
      ap spelling (ap₂ (λ n t. left_over n k t) (scalar_of q s is_s) (sym same)
      ∙ ap (λ n. left_over q.scalar n q.public) (is_k ∙ ap (λ t. challenge t key message) first_is)
      ∙ equation_alone q.scalar (challenge (spelling q.first) key message) q.public q.first q.public_on q.first_on
      q.equation) ∙ sym first_is

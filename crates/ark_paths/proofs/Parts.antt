-- Parts of a list of leaf digests.
use Rattle.std.proofs.Common.{suc, ◌≡◌, ℕ, ◌+◌, ◌*◌, ◌<◌, ◌^◌, List, [], length, take, drop, get_or, arith, refl, ap, ◌∙◌}
use Rattle.std.proofs.lemmas.List.{take-take, drop-drop, drop-take, get_or-take, get_or-drop, take_all}
use Rattle.std.proofs.Math.Nat.{pow-succ'}
use Rattle.ark_paths.specs.Pair.{Digest}
use Rattle.ark_paths.specs.Rows.{part}

-- the left half of a part
pub part-left : (k q : ℕ) (digests : List Digest) → take (2 ^ suc k) (part (suc k) q digests) ≡ part k (2 * q) digests
part-left k q digests =
    let twice : 2 ^ suc (suc k) ≡ 2 * 2 ^ suc k = pow-succ' 2 (suc k) in
    let at : q * 2 ^ suc (suc k) ≡ 2 * q * 2 ^ suc k = rw twice (grind arith) in
    take-take (2 ^ suc k) (2 ^ suc (suc k)) (drop (q * 2 ^ suc (suc k)) digests) (omega arith)
    ∙ ap (λ (n : ℕ). take (2 ^ suc k) (drop n digests)) at

pub part-right : (k q : ℕ) (digests : List Digest) → drop (2 ^ suc k) (part (suc k) q digests)
    ≡ part k (2 * q + 1) digests
part-right k q digests =
    let twice : 2 ^ suc (suc k) ≡ 2 ^ suc k + 2 ^ suc k = omega (arith, pow-succ' 2 (suc k)) in
    let at : q * 2 ^ suc (suc k) + 2 ^ suc k ≡ (2 * q + 1) * 2 ^ suc k = rw twice (grind arith) in
    ap (λ (n : ℕ). drop (2 ^ suc k) (take n (drop (q * 2 ^ suc (suc k)) digests))) twice
    ∙ drop-take (2 ^ suc k) (2 ^ suc k) (drop (q * 2 ^ suc (suc k)) digests)
    ∙ ap (take (2 ^ suc k)) (drop-drop (2 ^ suc k) (q * 2 ^ suc (suc k)) digests ∙ ap (λ (n : ℕ). drop n digests) at)

pub get_or-part : (q i : ℕ) (digests : List Digest) → i < 2 → get_or (part 0 q digests) i [] ≡ get_or digests
    (2 * q + i) []
get_or-part q i digests below =
    let at : q * 2 + i ≡ 2 * q + i = omega arith in
    get_or-take 2 (drop (q * 2) digests) i [] below ∙ get_or-drop (q * 2) digests i []
    ∙ ap (λ (n : ℕ). get_or digests n []) at

pub part-whole : (m : ℕ) (digests : List Digest) → length digests ≡ 2 ^ suc m → part m 0 digests ≡ digests
part-whole m digests size = let z : 0 * 2 ^ suc m ≡ 0 = omega arith in rw z (take_all (2 ^ suc m) digests (omega arith))

-- the digests number 2 i and 2 i + 1
abbrev pub pair_in : List Digest → ℕ → Digest × Digest
pair_in digests i = (get_or digests (2 * i) [], get_or digests (2 * i + 1) [])

-- the two leaf digests of a part
pub part-pair : (q : ℕ) (digests : List Digest) → pair_in (part 0 q digests) 0 ≡ pair_in digests q
part-pair q digests =
    let even : 2 * q + 0 ≡ 2 * q = omega arith in
    rw (get_or-part q 0 digests (omega arith), get_or-part q 1 digests (omega arith), even) refl

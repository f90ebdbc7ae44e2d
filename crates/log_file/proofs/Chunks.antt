-- Digests of 32 bytes that stand one behind the other.
use Rattle.std.proofs.Common.{zero, suc, ◌≡◌, ℕ, ◌+◌, ◌*◌, ◌/◌, ◌≤◌, List, [], ◌∷◌, ◌++◌, length, take, drop, refl, ap, arith}
use Rattle.std.specs.List.{flat_map, AllByRecursion}
use Rattle.std.specs.Simd.{first_chunks}
use Rattle.std.proofs.lemmas.List.{length-append, length-drop, length-take-le, take-take, take-append-le, drop-append-le, drop-take, take_at, drop_at}
use Rattle.ark_base.specs.Digits.{itself, AreBytes}

step : (k : ℕ) → 32 * suc k ≡ 32 + 32 * k
step k = omega arith

-- the first chunks are those of the first bytes
pub chunks-take : (k : ℕ) (xs : List ℕ) → first_chunks 32 k (take (32 * k) xs) ≡ first_chunks 32 k xs
chunks-take zero xs = refl
chunks-take (suc k) xs =
    rw (step k, take-take 32 (32 + 32 * k) xs (omega arith), drop-take 32 (32 * k) xs)
    (ap (λ more. take 32 xs ∷ more) (chunks-take k (drop 32 xs)))

-- chunks that were laid one behind the other
pub chunks-flat : (chunks : List (List ℕ)) → AllByRecursion (AreBytes 32) chunks
    → first_chunks 32 (length chunks) (flat_map itself chunks) ≡ chunks
chunks-flat [] all = refl
chunks-flat (chunk ∷ chunks) all = rw (
  take_at chunk (flat_map itself chunks) 32 all.0.0,
  drop_at chunk (flat_map itself chunks) 32 all.0.0,
) (ap (λ more. chunk ∷ more) (chunks-flat chunks all.1))

pub length-flat : (chunks : List (List ℕ)) → AllByRecursion (AreBytes 32) chunks → length (flat_map itself chunks)
    ≡ 32 * length chunks
length-flat [] all = refl
length-flat (chunk ∷ chunks) all =
    omega (arith, length-append chunk (flat_map itself chunks), all.0.0, length-flat chunks all.1)

-- chunks behind others
pub chunks-append : (k m : ℕ) (xs ys : List ℕ) → length xs ≡ 32 * k → first_chunks 32 (k + m) (xs ++ ys)
    ≡ first_chunks 32 k xs ++ first_chunks 32 m ys
chunks-append zero m [] ys long = rw (add_zero m) refl
  where
    add_zero : (m : ℕ) → 0 + m ≡ m
    add_zero m = omega arith
chunks-append zero m (x ∷ xs) ys long = absurd (omega arith)
chunks-append (suc k) m xs ys long =
    let more : suc k + m ≡ suc (k + m) = omega arith in
    rw (
      more,
      take-append-le 32 xs ys (omega (arith, step k, long)),
      drop-append-le 32 xs ys (omega (
        arith,
        step k,
        long,
      )),
    ) (ap (λ rest. take 32 xs ∷ rest) (chunks-append k m (drop 32 xs) ys (omega (
      arith,
      step k,
      long,
      length-drop 32 xs,
    ))))

-- the chunks of a part
pub chunks-part : (k n : ℕ) (xs : List ℕ) → n ≡ 32 * k → 32 * k ≤ length xs
    → first_chunks 32 (length (take n xs) / 32) (take n xs) ≡ first_chunks 32 k xs
chunks-part k n xs is inside =
    let long : length (take (32 * k) xs) ≡ 32 * k = length-take-le (32 * k) xs inside in
    let count : length (take (32 * k) xs) / 32 ≡ k = omega (arith, long) in
    rw (is, count) (chunks-take k xs)

-- Logarithms to base two.
use Rattle.std.proofs.Common.{zero, suc, ◌≡◌, ℕ, ◌*◌, ◌/◌, ◌<◌, ◌≤◌, ◌^◌, true, false, ltb, List, length, refl, ap, ◌∙◌, arith, pow_pos}
use Rattle.std.proofs.lemmas.Bool.{le-ltb, lt-ltb}
use Rattle.std.proofs.Math.Nat.{pow-succ'}
use Rattle.ark_paths.specs.Index.{halvings, log2}
use Rattle.ark_paths.specs.Pair.{Digest}
use Rattle.ark_paths.specs.Root.{upper_levels}

halvings-between : (most k n : ℕ) → k ≤ most → 2 ^ k ≤ n → n < 2 * 2 ^ k → halvings most n ≡ k
halvings-between zero k n le low high = omega arith
halvings-between (suc most) zero n le low high = let small : ltb n 2 ≡ true = lt-ltb _ _ (omega arith) in rw small refl
halvings-between (suc most) (suc k) n le low high =
    let twice : 2 ^ suc k ≡ 2 * 2 ^ k = pow-succ' 2 k in
    let some : 0 < 2 ^ k = pow_pos k in
    let large : ltb n 2 ≡ false = le-ltb _ _ (omega arith) in
    rw large (ap suc (halvings-between most k (n / 2) (omega arith) (omega arith) (omega arith)))

below_power : (m : ℕ) → m ≤ 2 ^ m
below_power zero = omega arith
below_power (suc m) = let twice : 2 ^ suc m ≡ 2 * 2 ^ m = pow-succ' 2 m in let some : 0 < 2 ^ m =
    pow_pos m in let more = below_power m in omega arith

pub log2-between : (k n : ℕ) → 2 ^ k ≤ n → n < 2 * 2 ^ k → log2 n ≡ k
unfolding log2
log2-between k n low high = halvings-between n k n (omega (arith, low, below_power k)) low high

pub log2-pow : (m : ℕ) → log2 (2 ^ m) ≡ m
log2-pow m = let some : 0 < 2 ^ m = pow_pos m in log2-between m (2 ^ m) (omega arith) (omega arith)

pub upper_levels-is : (m : ℕ) (digests : List Digest) → length digests ≡ 2 ^ suc m → upper_levels digests ≡ m
upper_levels-is m digests size = let e : log2 (length digests) ≡ suc m = ap log2 size ∙ log2-pow (suc m) in omega arith

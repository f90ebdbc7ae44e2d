-- Powers of two above one.
use Rattle.std.proofs.Common.{zero, suc, ◌≡◌, ℕ, ◌*◌, ◌%◌, ◌<◌, ◌≤◌, ◌^◌, nat_eq, ◌∙◌, ap, arith}
use Rattle.std.specs.Bool.{Decides}
use Rattle.std.proofs.lemmas.Bool.{eqb-true, eq-eqb}
use Rattle.std.proofs.Math.Nat.{mod-eq_of_lt}
use Rattle.ark_paths.specs.Index.{IsTreeSize, log2}
use Rattle.ark_paths.proofs.Logs.{log2-between, log2-pow}

by_exponent : (n j : ℕ) → 1 < n → n ≡ 2 ^ j → IsTreeSize n
by_exponent n zero some is = absurd (omega arith)
by_exponent n (suc m) some is = (m, is)

-- n is a power of two exactly where it is that of its logarithm
pub power_decided : (n : ℕ) → 1 < n → Decides (nat_eq n (2 ^ log2 n)) (IsTreeSize n)
power_decided n some = (
  λ same. by_exponent n (log2 n) some (eqb-true n (2 ^ log2 n) same),
  λ size. let log : log2 n ≡ suc size.0 =
      ap log2 size.1 ∙ log2-pow (suc size.0) in rw log (eq-eqb n (2 ^ suc size.0) size.1),
)

-- the same, with the power as it is computed
pub power_shifted : (n k : ℕ) → n < 2 ^ 64 → 2 ^ k ≤ n → n < 2 * 2 ^ k → 1 * 2 ^ k % 2 ^ 64 ≡ 2 ^ log2 n
power_shifted n k fits low high =
    let one : 1 * 2 ^ k ≡ 2 ^ k = omega arith in
    let below : 2 ^ k < 2 ^ 64 = omega (arith, low, fits) in
    rw (one, log2-between k n low high) (mod-eq_of_lt below)

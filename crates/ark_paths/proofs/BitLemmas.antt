-- Bits of numbers.
use Rattle.std.proofs.Common.{◌≡◌, ℕ, ◌<◌, ◌≤◌, ◌^◌, false, arith}
use Rattle.std.proofs.Math.Nat.{div-eq_of_lt, pow-le-pow_right}
use Rattle.ark_paths.specs.Index.{bit_at}

-- past 64 bits there are none
pub bit_at-past : (n bit : ℕ) → n < 2 ^ 64 → 64 ≤ bit → bit_at n bit ≡ false
bit_at-past n bit small far =
    let two : 0 < 2 = omega arith in
    let more : 2 ^ 64 ≤ 2 ^ bit = pow-le-pow_right two far in
    let below : n < 2 ^ bit = omega (arith, more, small) in
    rw (div-eq_of_lt below)

-- The levels where an old log is complete.
use Rattle.std.proofs.Common.{zero, suc, ◌≡◌, ℕ, ◌/◌, ◌%◌, ◌<◌, ◌≤◌, ◌^◌, List, Result, Option, arith, sym, ◌∙◌}
use Rattle.merkle_log.specs.Walk.{from_seed, both_roots}
use Rattle.merkle_log.proofs.Tests.{fewer}
use Rattle.merkle_log.proofs.Agree.{both_roots-odd, both_roots-even}

-- From here, with some levels left, both roots are this.
pub record Raised {D E : Type 0} (hash : D → D → Result D E) (i s : ℕ) (old : D) (path : List D)
    (answer : Result (Option (D × D)) E) : Type 0 where
  pub levels : ℕ
  pub high : s < 2 ^ levels
  pub inside : i ≤ s
  pub is : both_roots hash levels i s old path ≡ answer

module _ {D E : Type 0} {hash : D → D → Result D E} {i s : ℕ} {old : D} {path : List D}
    {answer : Result (Option (D × D)) E} (raised : Raised hash i s old path answer) where
  pub raised-odd : i % 2 ≡ 1 → Raised hash (i / 2) (s / 2) old path answer
  raised-odd odd =
      let up = fewer (λ k. both_roots hash k i s old path ≡ answer)
      (λ k. both_roots hash k (i / 2) (s / 2) old path ≡ answer) raised.levels (omega (arith, raised.inside))
      raised.high raised.is (λ k high is. sym (both_roots-odd hash k i s old path odd) ∙ is) in
      record { levels = up.levels; high = up.high; inside = omega (arith, raised.inside); is = up.at }

  pub record Seeded : Type 0 where
    pub levels : ℕ
    pub high : s < 2 ^ levels
    pub is : answer ≡ from_seed hash levels i s old path

  pub raised-even : i % 2 ≡ 0 → Seeded
  raised-even even = go raised.levels raised.high raised.is
    where
      go : (k : ℕ) → s < 2 ^ k → both_roots hash k i s old path ≡ answer → Seeded
      go zero high is = record { levels = zero; high = high; is = sym is }
      go (suc k) high is = record {
        levels = suc k;
        high = high;
        is = sym is ∙ both_roots-even hash k i s old
            path even;
      }

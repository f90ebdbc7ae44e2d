-- How many digests a path has.
use Rattle.std.proofs.Common.{zero, suc, ◌≡◌, ℕ, ◌+◌, ◌/◌, ◌%◌, ◌<◌, ◌≤◌, ◌^◌, true, false, ◌==◌, if◌then◌else◌, arith, refl, ap, sym, ◌∙◌}
use Rattle.std.proofs.lemmas.Bool.{eq-eqb, ne_eqb}
use Rattle.merkle_log.specs.Walk.{has_beside, used_below}
use Rattle.merkle_log.specs.Received.{length_from}
use Rattle.merkle_log.proofs.Tests.{fewer, twice, if_odd, if_even}
use Rattle.merkle_log.proofs.Sound.{beside-none}

-- a level with a digest beside, and one without
used-beside : (k i s : ℕ) → has_beside i s ≡ true → used_below (suc k) i s ≡ suc (used_below k (i / 2) (s / 2))
used-beside k i s beside = rw (beside) refl

used-alone : (k i s : ℕ) → has_beside i s ≡ false → used_below (suc k) i s ≡ used_below k (i / 2) (s / 2)
used-alone k i s alone = rw (alone) refl

-- the last row
pub used-none : (k i s : ℕ) → i ≡ 0 → s ≡ 0 → used_below k i s ≡ 0
used-none zero i s e f = refl
used-none (suc k) i s e f = used-alone k i s (beside-none i s (omega arith) (omega arith))
    ∙ used-none k (i / 2) (s / 2) (omega arith) (omega arith)

-- as many for every count of levels that reaches the root
pub used-same : (k j i s : ℕ) → s < 2 ^ k → s < 2 ^ j → i ≤ s → used_below k i s ≡ used_below j i s
used-same zero j i s high low inside = sym (used-none j i s (omega arith) (omega arith))
used-same (suc k) zero i s high low inside = used-none (suc k) i s (omega arith) (omega arith)
used-same (suc k) (suc j) i s high low inside =
    let two = twice k in
    let again = twice j in
    ap (λ n. if has_beside i s then suc n else n)
    (used-same k j (i / 2) (s / 2) (omega arith) (omega arith) (omega arith))

-- So many digests were counted, and with some levels left there are so many in all.
pub record Counts (i s used total : ℕ) : Type 0 where
  pub levels : ℕ
  pub high : s < 2 ^ levels
  pub inside : i ≤ s
  pub is : used + used_below levels i s ≡ total

module _ {i s used total : ℕ} (at : Counts i s used total) where
  -- with more digests counted at this level
  counted : 0 < s → (more : ℕ) → ((k : ℕ) → used_below (suc k) i s ≡ more + used_below k (i / 2) (s / 2))
      → Counts (i / 2) (s / 2) (used + more) total
  counted some more step =
      let up = fewer (λ k. used + used_below k i s ≡ total) (λ k. used + more + used_below k (i / 2) (s / 2) ≡ total)
      at.levels some at.high at.is (λ k high is. omega (arith, is, step k)) in
      record { levels = up.levels; high = up.high; inside = omega (arith, at.inside); is = up.at }

  pub counts-right : 0 < s → has_beside i s ≡ true → Counts (i / 2) (s / 2) (used + 1) total
  counts-right some beside = counted some 1 (λ k. omega (arith, used-beside k i s beside))

  pub counts-alone : 0 < s → has_beside i s ≡ false → Counts (i / 2) (s / 2) used total
  counts-alone some alone =
      let e : used + 0 ≡ used = omega arith in
      rw (← e) (counted some 0 (λ k. omega (arith, used-alone k i s alone)))

  pub counts-end : s ≡ 0 → used ≡ total
  counts-end top = omega (arith, at.is, used-none at.levels i s (omega (arith, at.inside)) top)

-- From here, with some levels left, a consistency proof has so many digests.
pub record Leads (i s total : ℕ) : Type 0 where
  pub levels : ℕ
  pub high : s < 2 ^ levels
  pub inside : i < s
  pub is : length_from levels i s ≡ total

module _ {i s total : ℕ} (at : Leads i s total) where
  pub leads-odd : i % 2 ≡ 1 → Leads (i / 2) (s / 2) total
  leads-odd odd =
      let up = fewer (λ k. length_from k i s ≡ total) (λ k. length_from k (i / 2) (s / 2) ≡ total) at.levels
      (omega (arith, at.inside)) at.high at.is (λ k high is. sym (if_odd i _ _ odd) ∙ is) in
      record { levels = up.levels; high = up.high; inside = omega (arith, at.inside); is = up.at }

  pub leads-even : i % 2 ≡ 0 → (seed rest : ℕ) → (if i == 0 then 0 else 1) ≡ seed → ((k : ℕ) → s < 2 ^ k → rest
      ≡ used_below k i s) → seed + rest ≡ total
  leads-even even seed rest seed_is rest_is = go at.levels at.high at.inside at.is
    where
      go : (k : ℕ) → s < 2 ^ k → i < s → length_from k i s ≡ total → seed + rest ≡ total
      go zero high inside is = absurd (omega arith)
      go (suc k) high inside is = omega (arith, sym (if_even i _ _ even) ∙ is, seed_is, rest_is (suc k) high)

  -- the old list is one whole tree
  pub leads-first : i ≡ 0 → (rest : ℕ) → ((k : ℕ) → s < 2 ^ k → rest ≡ used_below k i s) → rest ≡ total
  leads-first first rest rest_is =
      let all = leads-even (omega arith) 0 rest (rw (eq-eqb i 0 first) refl) rest_is in omega arith

  -- the path begins with a digest of both lists
  pub leads-later : i % 2 ≡ 0 → 0 < i → (rest : ℕ) → ((k : ℕ) → s < 2 ^ k → rest ≡ used_below k i s) → 1 + rest ≡ total
  leads-later even some rest rest_is =
      leads-even even 1 rest (rw (ne_eqb i 0 (λ none. omega arith)) refl) rest_is

-- A consistency proof that is made level by level.
use Rattle.std.proofs.Common.{zero, suc, ◌≡◌, ℕ, ◌+◌, ◌-◌, ◌/◌, ◌%◌, ◌<◌, ◌≤◌, ◌^◌, true, List, [], ◌∷◌, ◌++◌, length, take, get_or, Ok, Err, arith, refl, ap, subst, sym, ◌∙◌, inl, inr}
use Rattle.std.proofs.lemmas.Bool.{cases_lt, ne_eqb}
use Rattle.std.proofs.lemmas.List.{length-take-le}
use Rattle.ark_base.specs.declared.error.Error.{Error}
use Rattle.ark_base.specs.Outcome.{Outcome, ◌>>=◌}
use Rattle.merkle_log.specs.Trees.{path, subproof}
use Rattle.merkle_log.specs.Walk.{joined}
use Rattle.ark_paths.specs.Pair.{Digest}
use Rattle.merkle_log.specs.Log.{NodeHash, inclusion_path, consistency_path}
use Rattle.merkle_log.specs.Stored.{IsStored}
use Rattle.merkle_log.specs.Edge.{last_raised, all_of, path_behind, row_with, path_with, seed_digests}
use Rattle.merkle_log.proofs.RowsUp.{row_up}
use Rattle.merkle_log.proofs.Tests.{twice, fewer}
use Rattle.merkle_log.proofs.SubproofRows.{seed, seed-more, subproof-up, subproof-odd}
use Rattle.merkle_log.proofs.Verdicts.{pow_above}
use Rattle.merkle_log.proofs.Lasts.{Node, node_rows, length-row_with, raised, raised-err, whole_front}
use Rattle.merkle_log.proofs.Going.{row_with-own, all_of-behind, long, above_with, path-refused}

-- From an index of a row with a last value on, with some levels left, the proof is this.
pub record Seeding (hash : NodeHash) (rows : ℕ → List Digest) (empty : Digest) (level i s : ℕ) (x : Node)
    (answer : Outcome (List Digest)) : Type 0 where
  pub levels : ℕ
  pub high : s < 2 ^ levels
  pub within : s ≤ length (rows level)
  pub inside : i < s
  pub is : all_of (subproof (joined hash) (Ok empty) levels (i + 1) (row_with (rows level) s x) true) ≡ answer

pub behind-none : (o : Outcome (List Digest)) → (o >>= path_behind []) ≡ o
behind-none (Ok ds) = refl
behind-none (Err e) = refl

module _ {hash : NodeHash} {rows : ℕ → List Digest} (empty : Digest) (stored : IsStored hash rows) where
  -- the proof of such a row, some levels up
  abbrev proof : ℕ → ℕ → ℕ → ℕ → Node → List Node
  proof k level i s x = subproof (joined hash) (Ok empty) k (i + 1) (row_with (rows level) s x) true

  pub seeding-up : {level i s : ℕ} {x : Node} {answer : Outcome (List Digest)} → Seeding hash rows empty level i s x
      answer → i % 2 ≡ 1 → Seeding hash rows empty (suc level) (i / 2) (s / 2) (raised hash (rows level) s x) answer
  seeding-up {level} {i} {s} {x} {answer} at odd =
      let half : (i + 1) / 2 ≡ i / 2 + 1 = omega arith in
      let n = length-row_with (rows level) s x at.within in
      let under : i < s = at.inside in
      let up = fewer (λ k. all_of (proof k level i s x) ≡ answer)
      (λ k. all_of (proof k (suc level) (i / 2) (s / 2) (raised hash (rows level) s x)) ≡ answer) at.levels
      (omega arith) at.high at.is (λ k high is. ap (λ l. all_of (subproof (joined hash) (Ok empty) k
      (i / 2 + 1) l true))
      (sym (above_with empty stored level s x at.within))
      ∙ ap (λ m. all_of (subproof (joined hash) (Ok empty) k m (row_up (joined hash) (row_with (rows level) s x)) true))
      (sym half)
      ∙ ap all_of (sym (subproof-up (joined hash) (Ok empty) k (i + 1) (row_with (rows level) s x) true (omega arith)
      (omega arith) (omega arith) (omega arith))) ∙ is) in
      record {
        levels = up.levels;
        high = up.high;
        within = long empty stored level s at.within;
        inside = omega arith;
        is = up.at;
      }

  seed-there : (row : List Digest) (i s : ℕ) (x : Node) → s ≤ length row → i < s → seed (Ok empty) true (i + 1)
      (row_with row s x) ≡ node_rows (seed_digests row i)
  seed-there row zero s x le under = refl
  seed-there row (suc j) s x le under =
      let one : suc j + 1 - 1 ≡ suc j = omega arith in
      rw (ne_eqb (suc j) 0 (λ none. omega arith)) (seed-more (Ok empty) true (suc j + 1) (row_with row s x)
      (omega arith)
      ∙ ap (λ n. get_or (row_with row s x) n (Ok empty) ∷ []) one ∙ ap (λ z. z ∷ []) (row_with-own row s x (Ok empty)
      (suc j) le under))

  -- at an even index
  seeded : (k level i s : ℕ) (x : Node) → s < 2 ^ k → s ≤ length (rows level) → i < s → i % 2 ≡ 0
      → all_of (subproof (joined hash) (Ok empty) k (i + 1) (row_with (rows level) s x) true)
      ≡ (all_of (path (joined hash) (Ok empty) k i (row_with (rows level) s x)) >>= path_behind
      (seed_digests (rows level) i))
  seeded k level i s x high le under even =
      let n = length-row_with (rows level) s x le in
      let one : i + 1 - 1 ≡ i = omega arith in
      ap all_of (subproof-odd (joined hash) (Ok empty) k (i + 1) (row_with (rows level) s x) true (omega arith)
      (omega arith) (inl (omega arith)) (omega arith))
      ∙ ap (λ n. all_of (seed (Ok empty) true (i + 1) (row_with (rows level) s x) ++ path (joined hash) (Ok empty) k n
      (row_with (rows level) s x))) one
      ∙ ap (λ l. all_of (l ++ path (joined hash) (Ok empty) k i (row_with (rows level) s x))) (seed-there (rows level) i
      s x le under)
      ∙ sym (behind-none (all_of (node_rows (seed_digests (rows level) i) ++ path (joined hash) (Ok empty) k i
      (row_with (rows level) s x))))
      ∙ all_of-behind [] (seed_digests (rows level) i) (path (joined hash) (Ok empty) k i (row_with (rows level) s x))

  -- What is left is the path of the index, behind the digest there.
  pub record Seeded (level i s : ℕ) (last : Digest) (answer : Outcome (List Digest)) : Type 0 where
    pub levels : ℕ
    pub high : s < 2 ^ levels
    pub is : answer ≡ path_with hash empty levels (rows level) i s last (seed_digests (rows level) i)

  pub seeding-even : {level i s : ℕ} {last : Digest} {answer : Outcome (List Digest)} → Seeding hash rows empty level i
      s (Ok last) answer → i % 2 ≡ 0 → Seeded level i s last answer
  seeding-even {level} {i} {s} {last} at even = record {
    levels = at.levels;
    high = at.high;
    is = sym at.is
        ∙ seeded at.levels level i s (Ok last) at.high at.within at.inside even;
  }

  stopped : {level i s : ℕ} {e : Error} {answer : Outcome (List Digest)} → Seeding hash rows empty level i s (Err e)
      answer → i % 2 ≡ 0 → answer ≡ Err e
  stopped {level} {i} {s} {e} at even =
      sym at.is ∙ seeded at.levels level i s (Err e) at.high at.within at.inside even
      ∙ ap (λ o. o >>= path_behind (seed_digests (rows level) i))
      (path-refused empty stored at.levels level i s e at.high
      at.within at.inside)

  -- a refusal of the last value
  pub seeding-refused : (k : ℕ) {level i s : ℕ} {e : Error} {answer : Outcome (List Digest)} → s < 2 ^ k → Seeding hash
      rows empty level i s (Err e) answer → answer ≡ Err e
  seeding-refused zero {level} {i} {s} {e} high at = let under = at.inside in absurd (omega arith)
  seeding-refused (suc k) {level} {i} {s} {e} {answer} high at = elim (cases_lt (i % 2) 1) [
    | inl even ↦ stopped at (omega arith)
    | inr odd ↦
        let two = twice k in
        seeding-refused k (omega arith) (subst (λ y. Seeding hash rows empty (suc level) (i / 2) (s / 2) y answer)
        (raised-err hash (rows level) s e) (seeding-up at (omega arith)))
  ]

  pub seeding-next : {level i s : ℕ} {last : Digest} {answer : Outcome (List Digest)} → Seeding hash rows empty level i
      s (Ok last) answer → i % 2 ≡ 1 → (next : ℕ) → next ≡ level + 1 → (y : Node) → last_raised hash (rows level) s last
      ≡ y → Seeding hash rows empty next (i / 2) (s / 2) y answer
  seeding-next {level} {i} {s} {last} {answer} at odd next is y raised_is =
      let e : suc level ≡ next = omega arith in
      rw (← e, ← raised_is) (seeding-up at odd)

  pub seeding-first : (old_size size : ℕ) (last : Digest) → 0 < old_size → old_size < size → size ≤ length (rows 0)
      → last ≡ get_or (rows 0) (size - 1) []
      → Seeding hash rows empty 0 (old_size - 1) (size - 1) (Ok last) (all_of (consistency_path hash empty old_size
      (take size (rows 0))))
  seeding-first old_size size last some more le is =
      let high = pow_above size in
      let one : old_size - 1 + 1 ≡ old_size = omega arith in
      record {
        levels = size;
        high = omega arith;
        within = omega arith;
        inside = omega arith;
        is = ap (λ l. all_of (subproof (joined hash) (Ok empty) size (old_size - 1 + 1) l true))
            (whole_front (rows 0) size last (omega arith) le is)
            ∙ ap (λ m. all_of (subproof (joined hash) (Ok empty) size m (node_rows (take size (rows 0))) true)) one
            ∙ ap (λ n. all_of (subproof (joined hash) (Ok empty) n old_size (node_rows (take size (rows 0))) true))
            (sym (length-take-le size (rows 0) le));
      }

  -- an inclusion path
  pub path-first : (index size : ℕ) (last : Digest) → 0 < size → size ≤ length (rows 0) → last ≡ get_or (rows 0)
      (size - 1) [] → (sofar : List Digest) → sofar ≡ []
      → path_with hash empty size (rows 0) index (size - 1) last sofar ≡ all_of (inclusion_path hash empty index
      (take size (rows 0)))
  path-first index size last some le is sofar none =
      ap (path_with hash empty size (rows 0) index (size - 1) last) none
      ∙ behind-none (all_of (path (joined hash) (Ok empty) size index (row_with (rows 0) (size - 1) (Ok last))))
      ∙ ap (λ l. all_of (path (joined hash) (Ok empty) size index l)) (whole_front (rows 0) size last some le is)
      ∙ ap (λ n. all_of (path (joined hash) (Ok empty) n index (node_rows (take size (rows 0)))))
      (sym (length-take-le size (rows 0) le))

-- Digests of which a hash refuses no pair.
use Rattle.std.proofs.Common.{zero, suc, ◌≡◌, ℕ, ◌+◌, ◌-◌, ◌%◌, ◌<◌, ◌≤◌, List, [], ◌∷◌, ◌++◌, length, take, get_or, Bool, true, Ok, Err, sym, ap, subst, ◌∙◌, arith}
use Rattle.std.proofs.lemmas.List.{length-append, length-take-le}
use Rattle.ark_base.specs.declared.error.Error.{Error}
use Rattle.ark_base.specs.Laws.Steps.{done_injective}
use Rattle.ark_paths.specs.Pair.{Digest}
use Rattle.merkle_log.specs.Append.{RefusesCarry}
use Rattle.merkle_log.specs.Kept.{RefusesAppend, front}
use Rattle.merkle_log.specs.Log.{NodeHash}
use Rattle.merkle_log.specs.Stored.{IsStored, row_at, row_pairs}
use Rattle.merkle_log.proofs.Lasts.{pairs_parts}

-- The hash of two digests that pass a test is a digest that does.
pub record IsClosed (hash : NodeHash) (test : Digest → Bool) : Type 0 where
  pub hashed : (left right : Digest) → test left ≡ true → test right ≡ true
      → (digest : Digest) × (hash left right ≡ Ok digest) × (test digest ≡ true)

-- All of these pass it.
abbrev pub Pass : (Digest → Bool) → List Digest → Type 0
Pass test [] = Unit {0}
Pass test (x ∷ xs) = (test x ≡ true) × Pass test xs

pub pass-at : (test : Digest → Bool) (xs : List Digest) (i : ℕ) → Pass test xs → i < length xs
    → test (get_or xs i []) ≡ true
pass-at test [] i all below = absurd (omega arith)
pass-at test (x ∷ xs) zero all below = all.0
pass-at test (x ∷ xs) (suc i) all below = pass-at test xs i all.1 (omega arith)

pub pass-append : (test : Digest → Bool) (xs ys : List Digest) → Pass test xs → Pass test ys → Pass test (xs ++ ys)
pass-append test [] ys first second = second
pass-append test (x ∷ xs) ys first second = (first.0, pass-append test xs ys first.1 second)

pub pass-take : (test : Digest → Bool) (n : ℕ) (xs : List Digest) → Pass test xs → Pass test (take n xs)
pass-take test zero xs all = tt
pass-take test (suc n) [] all = tt
pass-take test (suc n) (x ∷ xs) all = (all.0, pass-take test n xs all.1)

module _ {hash : NodeHash} {test : Digest → Bool} (closed : IsClosed hash test) where
  pass-pairs : (row next : List Digest) → row_pairs hash row ≡ Ok next → Pass test row → Pass test next
  pass-pairs [] next is all = subst (Pass test) (done_injective {E = Error} [] next is) tt
  pass-pairs (a ∷ []) next is all = subst (Pass test) (done_injective {E = Error} [] next is) tt
  pass-pairs (a ∷ b ∷ row) next is all =
      let p = pairs_parts hash a b row next is in
      let made = closed.hashed a b all.0 all.1.0 in
      let same : made.0 ≡ p.0 = done_injective {E = Error} made.0 p.0 (sym made.1 ∙ p.2) in
      subst (Pass test) p.4 (rw (same) at made.2, pass-pairs row p.1 p.3 all.1.1)

  pass-rows : (rows : ℕ → List Digest) → IsStored hash rows → Pass test (rows 0) → (level : ℕ) → Pass test (rows level)
  pass-rows rows stored first zero = first
  pass-rows rows stored first (suc level) =
      pass-pairs (rows level) (rows (suc level)) (stored.pairs level) (pass-rows rows stored first level)

  -- the last digest of a row with an odd number of them
  pass-last : (row : List Digest) → Pass test row → length row % 2 ≡ 1 → test (get_or row (length row - 1) []) ≡ true
  pass-last row all odd = pass-at test row (length row - 1) all (omega (arith, odd))

  no-carry : (rows : ℕ → List Digest) (digest : Digest) (error : Error) → ((level : ℕ) → Pass test (rows level))
      → test digest ≡ true → RefusesCarry hash rows digest error → ⊥
  no-carry rows digest error all own carry = ends (closed.hashed _ _ (last carry.level (omega arith))
      (made carry.level (omega arith)))
    where
      last : (k : ℕ) → k ≤ carry.level → test (get_or (rows k) (length (rows k) - 1) []) ≡ true
      last k le = pass-last (rows k) (all k) (carry.odd k le)

      made : (k : ℕ) → k ≤ carry.level → test (get_or carry.made k []) ≡ true
      made zero le = ap test carry.first ∙ own
      made (suc k) le =
          let up = closed.hashed _ _ (last k (omega arith)) (made k (omega arith)) in
          let same : up.0 ≡ get_or carry.made (suc k) [] =
          done_injective {E = Error} up.0 (get_or carry.made (suc k) []) (sym up.1 ∙ carry.hashed k (omega arith)) in
          sym (ap test same) ∙ up.2

      different : (digest : Digest) → Ok digest ≡ Err error → ⊥
      different digest is = cc

      ends : (digest : Digest) × (hash (get_or (rows carry.level) (length (rows carry.level) - 1) [])
          (get_or carry.made carry.level []) ≡ Ok digest) × (test digest ≡ true) → ⊥
      ends up = different up.0 (sym up.1 ∙ carry.refused)

  -- Nothing is refused where digests that pass are appended to a list of those that do.
  pub no-refusal : (leaves digests : List Digest) (error : Error) → Pass test leaves → Pass test digests
      → RefusesAppend hash leaves digests error → ⊥
  no-refusal leaves digests error front_pass more_pass refuses =
      let own = pass-at test digests refuses.place more_pass refuses.inside in
      let list = leaves ++ take refuses.place digests in
      let count : length list ≡ length leaves + refuses.place = omega (
        arith,
        length-append leaves (take refuses.place digests),
        length-take-le refuses.place digests (omega (arith, refuses.inside)),
      ) in
      let all = pass-append test leaves (take refuses.place digests) front_pass
      (pass-take test refuses.place digests more_pass) in
      no-carry (row_at (front (length leaves + refuses.place) refuses.before)) (get_or digests refuses.place []) error
      (subst (λ n. (level : ℕ) → Pass test (row_at (front n refuses.before) level)) count
      (pass-rows (row_at (front (length list) refuses.before)) refuses.keeps.hashed
      (subst (Pass test) (sym refuses.keeps.lowest) all)))
      own refuses.refused

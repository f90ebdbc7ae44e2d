-- What a log's list is with the digests that were read.
use Rattle.std.proofs.Common.{zero, suc, ◌≡◌, ℕ, ◌+◌, ◌-◌, ◌*◌, ◌/◌, ◌%◌, ◌<◌, ◌^◌, ◌==◌, Bool, true, false, List, [], length, get_or, arith, refl, ap, sym, ◌∙◌, inl, inr}
use Rattle.std.proofs.lemmas.Bool.{cases_lt}
use Rattle.std.proofs.lemmas.Bool.Decides.{nat_tests}
use Rattle.std.proofs.lemmas.List.{ext_get_or}
use Rattle.std.proofs.lemmas.List.FromFn.{length-map-range_with_len, get_or-map-range_with_len}
use Rattle.ark_paths.specs.Pair.{Digest}
use Rattle.merkle_log.specs.Asked.{IsPeak}
use Rattle.merkle_log.specs.Stored.{position, stored_count, row_at}
use Rattle.merkle_log.specs.Walk.{index_up}
use Rattle.merkle_log.proofs.Positions.{place-within, position-within, row_of-at, up-times}
use Rattle.merkle_log.proofs.Tests.{mul-twice, odd_test, even_test}
use Rattle.log_store.specs.Overlay.{overlaid, overlay}

-- Above a level with an odd number of places fewer leaves are complete.
up-falls : (l m n : ℕ) → l < m → index_up l n % 2 ≡ 1 → index_up m n * 2 ^ m < index_up l n * 2 ^ l
up-falls l zero n less odd = absurd (omega arith)
up-falls zero (suc m) n less odd =
    omega (arith, up-times m (n / 2), mul-twice m (index_up m (n / 2)))
up-falls (suc l) (suc m) n less odd =
    omega (
      arith,
      up-falls l m (n / 2) (omega arith) odd,
      mul-twice l (index_up l (n / 2)),
      mul-twice m
          (index_up m (n / 2)),
    )

-- So its last digest stands before.
positions-fall : (l m n a b : ℕ) → l < m → IsPeak n l a → IsPeak n m b → position m b < position l a
positions-fall l m n a b less low high =
    let fall = up-falls l m n less low.0 in
    let e : index_up l n * 2 ^ l ≡ (a + 1) * 2 ^ l = ap (λ k. k * 2 ^ l) low.1 in
    let f : index_up m n * 2 ^ m ≡ (b + 1) * 2 ^ m = ap (λ k. k * 2 ^ m) high.1 in
    omega (arith, position-within m b ((a + 1) * 2 ^ l - 1) (omega arith))

module _ (size : ℕ) (peaks digests : List Digest) where
  -- a peak that was read
  over-peak : (levels level place : ℕ) → level < levels → IsPeak size level place
      → overlaid size peaks digests levels (position level place) ≡ get_or peaks level []
  over-peak zero level place less peak = absurd (omega arith)
  over-peak (suc top) level place less peak = elim (cases_lt level top) [
    | inl below ↦ go below (over-peak top level place below peak) (index_up top size % 2) refl
    | inr here ↦
        let e : top ≡ level = omega arith in
        let last : index_up level size - 1 ≡ place = omega (arith, peak.1) in
        rw (e, odd_test (index_up level size) peak.0, last, same_test (position level place)) refl
  ]
    where
      same_test : (n : ℕ) → (n == n) ≡ true
      same_test n = grind (arith, nat_tests)

      other_test : (a b : ℕ) → a < b → (a == b) ≡ false
      other_test a b less = grind (arith, nat_tests)

      go : level < top → overlaid size peaks digests top (position level place) ≡ get_or peaks level []
          → (bit : ℕ) → index_up top size % 2 ≡ bit
          → overlaid size peaks digests (suc top) (position level place) ≡ get_or peaks level []
      go below so zero is = rw (even_test (index_up top size) is) so
      go below so (suc bit) is =
          let odd : index_up top size % 2 ≡ 1 = omega (arith, is) in
          let fall = positions-fall level top size place (index_up top size - 1) below peak (odd, omega (arith, odd))
          in
          rw (
            odd_test (index_up top size) odd,
            other_test (position top (index_up top size - 1)) (position level place)
                fall,
          ) so

  -- where the peaks are the list's own, everything is
  over-own : ((level place : ℕ) → IsPeak size level place → get_or peaks level [] ≡ get_or digests (position level
      place)
      []) → (levels at : ℕ) → overlaid size peaks digests levels at ≡ get_or digests at []
  over-own own zero at = refl
  over-own own (suc level) at =
      go (over-own own level at) (index_up level size % 2) refl (position level (index_up level size - 1) == at) refl
    where
      is-place : (a b : ℕ) → (a == b) ≡ true → a ≡ b
      is-place a b is = grind (arith, nat_tests)

      go : overlaid size peaks digests level at ≡ get_or digests at [] → (bit : ℕ) → index_up level size % 2 ≡ bit
          → (here : Bool) → (position level (index_up level size - 1) == at) ≡ here
          → overlaid size peaks digests (suc level) at ≡ get_or digests at []
      go so zero is here test = rw (even_test (index_up level size) is) so
      go so (suc bit) is false test =
          let odd : index_up level size % 2 ≡ 1 = omega (arith, is) in
          rw (odd_test (index_up level size) odd, test) so
      go so (suc bit) is true test =
          let odd : index_up level size % 2 ≡ 1 = omega (arith, is) in
          let e = is-place (position level (index_up level size - 1)) at test in
          rw (odd_test (index_up level size) odd, test)
          (own level (index_up level size - 1) (odd, omega (arith, odd)) ∙ ap (λ n. get_or digests n []) e)

  pub overlay-long : length (overlay size peaks digests).digests ≡ stored_count size
  overlay-long = length-map-range_with_len (overlaid size peaks digests 64) 0 (stored_count size)

  overlay-at : (at : ℕ) → at < stored_count size → get_or (overlay size peaks digests).digests at []
      ≡ overlaid size peaks digests 64 at
  overlay-at at below = get_or-map-range_with_len (overlaid size peaks digests 64) 0 (stored_count size) at at [] below
      (omega arith)

  -- Each peak that was read stands in its place.
  pub overlay-peak : (level place : ℕ) → level < 64 → IsPeak size level place
      → get_or peaks level [] ≡ get_or (row_at (overlay size peaks digests) level) place []
  overlay-peak level place less peak =
      let below : place < index_up level size = omega (arith, peak.1) in
      sym (row_of-at (overlay size peaks digests) level place below
      ∙ overlay-at (position level place) (position-within level place size (place-within level place size below))
      ∙ over-peak 64 level place less peak)

  -- Where the peaks are the list's own, the list is.
  pub overlay-own : length digests ≡ stored_count size
      → ((level place : ℕ) → IsPeak size level place → get_or peaks level [] ≡ get_or digests (position level place)
      [])
      → (overlay size peaks digests).digests ≡ digests
  overlay-own long own = ext_get_or [] (overlay size peaks digests).digests digests (overlay-long ∙ sym long)
      (λ at below. overlay-at at (omega (arith, overlay-long)) ∙ over-own own 64 at)

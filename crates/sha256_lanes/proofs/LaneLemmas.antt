-- What holds in each lane, and the words of the padding block.
use Rattle.std.proofs.Common.{◌≡◌, ℕ, zero, suc, ◌<◌, ◌≤◌, ◌+◌, ◌-◌, List, [], ◌∷◌, length, map, slice_index, slice_index_or, slice_set, arith, refl, ap, ap₂, sym, ◌∙◌, inl, inr}
use Rattle.std.proofs.lemmas.Bool.{cases_lt}
use Rattle.std.proofs.lemmas.List.{get_or-set_same, get_or-set_other, get_or_default}
use Rattle.std.proofs.lemmas.Simd.{get_or-zip2}
use Rattle.std.specs.Simd.Lanes.{zip2}
use Rattle.sha2.specs.Sha256.{add32, first_words, round_constants, schedule}
use Rattle.sha2.proofs.Schedule256.{length-schedule}
use Rattle.sha256_lanes.specs.declared.constants.TheConstants.{PADDED}
use Rattle.sha256_lanes.specs.Lanes.{pad, pad_schedule}

-- what holds of the items before place k, and of what is written there
pub each_more : {A : Type 0} (P : ℕ → A → Type 0) (xs : List A) (k : ℕ) (x d : A) → k < length xs
    → ((j : ℕ) → j < k → P j (slice_index_or xs j d)) → P k x
    → (j : ℕ) → j < k + 1 → P j (slice_index_or (slice_set xs k x) j d)
each_more P xs k x d inside before here j lt = elim (cases_lt j k) [
  | inl a ↦ rw (get_or-set_other xs k j x d (omega arith)) (before j a)
  | inr b ↦
      let e : k ≡ j = omega arith in
      rw (← e, get_or-set_same xs k x d inside) here
]

-- what holds of an item holds of it, whatever is named for a place that has none
pub at_any : {A : Type 0} (P : A → Type 0) (xs : List A) (k : ℕ) (d e : A) → k < length xs → P (slice_index_or xs k d)
    → P (slice_index_or xs k e)
at_any P xs k d e inside so = rw (get_or_default xs k e d inside) so

-- the digests of the states are those of the items, lane by lane
pub lanes_done : {A : Type 0} (g : List ℕ → List ℕ) (f : A → List ℕ) (states : List (List ℕ)) (xs : List A)
    → length states ≡ length xs
    → ((d : A) (j : ℕ) → j < length xs → g (slice_index_or states j []) ≡ f (slice_index_or xs j d))
    → map g states ≡ map f xs
lanes_done g f [] [] size so = refl
lanes_done g f [] (x ∷ xs) size so = absurd (omega arith)
lanes_done g f (s ∷ states) [] size so = absurd (omega arith)
lanes_done g f (s ∷ states) (x ∷ xs) size so =
    ap₂ (λ y ys. y ∷ ys) (so x 0 (omega arith))
    (lanes_done g f states xs (omega arith) (λ d j lt. so d (suc j) (omega arith)))

-- the constants of the padding block's rounds, with its words added
padded_sums : zip2 add32 round_constants pad_schedule ≡ PADDED
unfolding schedule first_words
padded_sums = refl

pub padded_sum : (t : ℕ) → t < 64 → slice_index PADDED t ≡ add32 (slice_index round_constants t)
    (slice_index pad_schedule t)
padded_sum t lt =
    ap (λ sums. slice_index sums t) (sym padded_sums) ∙ get_or-zip2 add32 round_constants pad_schedule t 0 0 0 lt
    (omega (arith, length-schedule pad 48))

-- what holds of each of the four lanes
pub below_four : (P : ℕ → Type 0) → P 0 → P 1 → P 2 → P 3 → (j : ℕ) → j < 4 → P j
below_four P p0 p1 p2 p3 zero h = p0
below_four P p0 p1 p2 p3 (suc zero) h = p1
below_four P p0 p1 p2 p3 (suc (suc zero)) h = p2
below_four P p0 p1 p2 p3 (suc (suc (suc zero))) h = p3
below_four P p0 p1 p2 p3 (suc (suc (suc (suc n)))) h = absurd (omega arith)

back : (n k : ℕ) → n ≤ k → n + (k - n) ≡ k
back n k le = omega arith

-- what holds of each of the sixteen words of a block
module _ (P : ℕ → Type 0) (p0 : P 0) (p1 : P 1) (p2 : P 2) (p3 : P 3) (p4 : P 4) (p5 : P 5) (p6 : P 6) (p7 : P 7)
  where
    pub below_sixteen : P 8 → P 9 → P 10 → P 11 → P 12 → P 13 → P 14 → P 15 → (k : ℕ) → k < 16 → P k
    below_sixteen p8 p9 p10 p11 p12 p13 p14 p15 k lt =
        elim (cases_lt k 4) [
          | inl a ↦ below_four P p0 p1 p2 p3 k a
          | inr a ↦ elim (cases_lt k 8) [
            | inl b ↦ rw (← back 4 k a) (below_four (λ i. P (4 + i)) p4 p5 p6 p7 (k - 4) (omega arith))
            | inr b ↦ elim (cases_lt k 12) [
              | inl c ↦ rw (← back 8 k b) (below_four (λ i. P (8 + i)) p8 p9 p10 p11 (k - 8) (omega arith))
              | inr c ↦ rw (← back 12 k c) (below_four (λ i. P (12 + i)) p12 p13 p14 p15 (k - 12) (omega arith))
            ]
          ]
        ]

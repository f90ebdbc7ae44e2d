-- Tables in their bytes.
use Rattle.std.proofs.Common.{◌≡◌, ◌⊎◌, inl, inr, ℕ, suc, ◌+◌, ◌*◌, ◌<◌, Bool, true, false, true≢false, not, List, [], ◌∷◌, ◌++◌, length, take, drop, get_or, refl, sym, ap, subst, ◌∙◌, arith}
use Rattle.std.specs.Str.{bytes_eq}
use Rattle.std.proofs.lemmas.List.{length-append, take-append-drop}
use Rattle.std.proofs.lemmas.Slice.Eq.{bytes_eq-Decides}
use Rattle.ark_base.specs.declared.error.Error.{Error}
use Rattle.ark_sponge.proofs.TableRows.{take-front, drop-front}
use Rattle.circom.specs.Frame.{BeginsWith, IsCutTable, IsDamagedTable, IsFrame, IsFrameFault, check_sum, table_count, table_end, with_sum}

pub they_differ : (unequal : Bool) (xs ys : List ℕ) → unequal ≡ not (bytes_eq xs ys) → unequal ≡ true → xs ≡ ys → ⊥
they_differ unequal xs ys is told same =
    true≢false (sym told ∙ is ∙ ap not ((bytes_eq-Decides xs ys).1 same))

pub they_agree : (unequal : Bool) (xs ys : List ℕ) → unequal ≡ not (bytes_eq xs ys) → unequal ≡ false → xs ≡ ys
they_agree unequal xs ys is told = (bytes_eq-Decides xs ys).0 (turned (bytes_eq xs ys) (sym is ∙ told))
  where
    turned : (b : Bool) → not b ≡ false → b ≡ true
    turned true e = refl
    turned false e = absurd (true≢false e)

pub length-check_sum : (bytes : List ℕ) → length (check_sum bytes) ≡ 8
length-check_sum bytes = refl

-- ---- a body, and its check sum behind it

pub length-behind : (first n : ℕ) (xs : List ℕ) → length xs ≡ n → length (first ∷ xs) ≡ 1 + n
length-behind first n xs long = omega (arith, long)

module _ (end : ℕ) (body bytes : List ℕ) (long : length body ≡ end) (is : bytes ≡ with_sum body) where
  pub summed-long : length bytes ≡ end + 8
  summed-long = omega (arith, ap length is, length-append body (check_sum body), long, length-check_sum body)

  summed-front : take end bytes ≡ body
  summed-front = ap (take end) is ∙ take-front end body (check_sum body) (sym long)

  pub summed-behind : drop end bytes ≡ check_sum (take end bytes)
  summed-behind =
      ap (drop end) is ∙ drop-front end body (check_sum body) (sym long) ∙ ap check_sum (sym summed-front)

-- bytes with so many more behind their first
one_more : (n : ℕ) (bytes : List ℕ) → 0 < length bytes → take (1 + n) bytes ≡ get_or bytes 0 0 ∷ take n (drop 1 bytes)
one_more n [] some = absurd (omega (arith, some))
one_more n (byte ∷ bytes) some = ap (λ m. take m (byte ∷ bytes)) {x = 1 + n} {y = suc n} (omega arith)

-- bytes with a frame are the count of inputs, the elements and the check sum
pub frame-spelled : (inputs : ℕ) (bytes : List ℕ) → IsFrame inputs bytes
    → bytes ≡ with_sum (inputs ∷ take (32 * table_count inputs) (drop 1 bytes))
frame-spelled inputs bytes frame =
    let end = table_end inputs in
    let some : 0 < length bytes = omega (arith, frame.long) in
    let front : take end bytes ≡ inputs ∷ take (32 * table_count inputs) (drop 1 bytes) =
    one_more (32 * table_count inputs) bytes some
    ∙ ap (λ n. n ∷ take (32 * table_count inputs) (drop 1 bytes)) frame.first in
    sym (take-append-drop end bytes) ∙ ap (λ t. take end bytes ++ t) frame.sum ∙ ap with_sum front

-- ---- a frame has no fault

module _ (inputs : ℕ) (bytes : List ℕ) (frame : IsFrame inputs bytes) where
  same-long : (other : ℕ) → BeginsWith other bytes → length bytes ≡ table_end other + 8
  same-long other begins = frame.long ∙ ap (λ n. table_end n + 8) (sym frame.first ∙ begins.1)

  not-below : (m n : ℕ) → m ≡ n → m < n → ⊥
  not-below m n same below = omega (arith, same, below)

  not-cut : IsCutTable bytes → ⊥
  not-cut cut = elim cut [
    | inl none ↦ omega (arith, none, frame.long)
    | inr short ↦ not-below (length bytes) (table_end short.0 + 8) (same-long short.0 short.1) short.2
  ]

  not-outside : (get_or bytes 0 0 < 1) ⊎ (16 < get_or bytes 0 0) → ⊥
  not-outside outside = elim outside [
    | inl none ↦ omega (arith, none, frame.first, frame.some)
    | inr past ↦ omega (arith, past, frame.first, frame.few)
  ]

  not-damaged : IsDamagedTable bytes → ⊥
  not-damaged damaged = elim damaged [
    | inl other ↦ not-outside other.1
    | inr rest ↦ elim rest [
      | inl long ↦ not-below (table_end long.0 + 8) (length bytes) (sym (same-long long.0 long.1)) long.2
      | inr unlike ↦ unlike.3 (subst (λ n. drop (table_end n) bytes ≡ check_sum (take (table_end n) bytes))
          (sym frame.first ∙ unlike.1.1) frame.sum)
    ]
  ]

  pub no-fault : (error : Error) → IsFrameFault bytes error → ⊥
  no-fault error fault = elim fault [
    | inl cut ↦ not-cut cut.0
    | inr damaged ↦ not-damaged damaged.0
  ]

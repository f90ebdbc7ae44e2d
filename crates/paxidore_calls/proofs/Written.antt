-- What is written of sponges, and the lengths of what they give.
use Rattle.std.proofs.Common.{◌≡◌, ◌⊎◌, ℕ, ◌-◌, ◌*◌, ◌/◌, ◌%◌, ◌<◌, ◌≤◌, List, ◌++◌, length, drop, map, Bool, ℤ, pos, Option, Some, None, Result, Ok, Err, IfOk, IfSome, IsSome, refl, sym, ap, ◌∙◌, inl, inr, arith}
use Rattle.std.proofs.lemmas.List.{length-map}
use Rattle.std.proofs.lemmas.List.FromFn.{length-map-range_with_len}
use Rattle.std.proofs.lemmas.Nat.{div-add-mod'}
use Rattle.std.specs.Int.{div_ceil}
use Rattle.ark_base.specs.Digits.{flag}
use Rattle.ark_base.specs.Spelling.{word}
use Rattle.ark_sponge.specs.ConfigBytes.{parameters_spelling}
use Rattle.ark_sponge.specs.Mode.{mode_index}
use Rattle.ark_sponge.specs.Permutation.{Parameters}
use Rattle.ark_sponge.specs.Sponge.{Sponge, squeezed_numbers}
use Rattle.ark_sponge.specs.Squeezing.{bytes_squeezed}
use Rattle.paxidore_calls.proofs.Answering.{refusal-no}
use Rattle.paxidore_calls.specs.Answer.{CallGivesBy, Hands, refusal_code}
use Rattle.paxidore_calls.specs.declared.refused.Refused.{Refused}
use Rattle.paxidore_calls.specs.declared.refused.Refused.TheVariants.{Memory}
use Rattle.paxidore_calls.proofs.Numbers.{length-elements, length-first}
use Rattle.paxidore_calls.specs.Transcript.{FieldSize, element_length, elements_bytes, is_squeezing, sponge_state_bytes}

-- the bytes of a sponge's state are those of its elements, its index, and whether it squeezes
pub state-written : (f : FieldSize) (s : Sponge) (elements bytes after : List ℕ) (next : ℕ × Bool)
    → elements ≡ s.state → elements_bytes f elements ≡ bytes → next.0 ≡ mode_index s.mode
    → next.1 ≡ is_squeezing s.mode → after ≡ bytes ++ (word next.0 ++ flag next.1) → sponge_state_bytes f s ≡ after
state-written f s elements bytes after next same written index squeezes is =
    rw (is, ← written, same, index, squeezes) refl

-- so many bytes are given as are asked for
pub length-given : (p bits : ℕ) (sbox : ℕ → ℕ → ℕ) (s after : Sponge) (n : ℕ) (bytes : List ℕ) → 9 ≤ bits
    → bytes_squeezed p bits sbox s n ≡ (bytes, after) → length bytes ≡ n
length-given p bits sbox s after n bytes wide is =
    let size = (bits - 1) / 8 in
    let numbers = squeezed_numbers p sbox s (div_ceil n size) in
    let some : 0 < size = omega (arith, wide) in
    ap (λ (x : List ℕ × Sponge). length x.0) (sym is)
    ∙ length-first n size numbers some (length-map-range_with_len _ _ (div_ceil n size))

-- so many bytes of whole elements
pub length-whole : {F : Type 0} (f : FieldSize) (value : F → ℕ) (xs : List F) (count : ℕ) (bytes : List ℕ)
    → elements_bytes f (map value xs) ≡ bytes → length xs ≡ count / element_length f → count % element_length f ≡ 0
    → length bytes ≡ count
length-whole f value xs count bytes is many whole =
    let width = element_length f in
    let product : length (map value xs) * width ≡ count / width * width =
    ap (λ (k : ℕ). k * width) (length-map xs value ∙ many) in
    ap length (sym is) ∙ length-elements width (map value xs) ∙ omega (arith, product, whole, div-add-mod' count width)

-- ---- ready parameters

-- what is said of ready parameters is said of their bytes
pub ready-spelled : {W : Type 0} (items : W → List ℕ) (bits : ℕ) (R : Parameters → Type 0) (P : List ℕ → Type 0)
    (found : Option Parameters) (result : Result W Refused)
    → IfOk result (λ bytes. IfSome found (λ c. items bytes ≡ parameters_spelling bits c))
    → IfOk result (λ bytes. IsSome found) → IfSome found R
    → ((c : Parameters) → R c → (bytes : List ℕ) → bytes ≡ parameters_spelling bits c → P bytes)
    → IfOk result (λ bytes. P (items bytes))
ready-spelled items bits R P (Some c) (Ok bytes) spelled some ready make = make c ready (items bytes) spelled
ready-spelled items bits R P None (Ok bytes) spelled some ready make = absurd cc
ready-spelled items bits R P found (Err refused) spelled some ready make = tt

-- a result as an outcome, its value seen as bytes
abbrev pub seen : {W : Type 0} → (W → List ℕ) → Result W Refused → Result (List ℕ) Refused
seen items (Ok value) = Ok (items value)
seen items (Err refused) = Err refused

pub gives-itself : {W : Type 0} (items : W → List ℕ) (result : Result W Refused) → CallGivesBy items (seen items result)
    result
gives-itself items (Ok value) = refl
gives-itself items (Err refused) = inr refl

no-refusal : (refused : Refused) → refusal_code refused ≡ pos 0 → ⊥
no-refusal refused zero = refusal-no refused (rw zero refl)

-- a call that answers 0 has handed over bytes of which this is said
pub handed : {W : Type 0} (items : W → List ℕ) (P : List ℕ → Type 0) (result : Result W Refused)
    (before after : List ℕ) (count count' : ℕ) (code : ℤ) → IfOk result (λ value. P (items value))
    → Hands (seen items result) before after count count' code → code ≡ pos 0
    → (bytes : List ℕ) × P bytes × (after ≡ bytes ++ drop (length bytes) before) × (count' ≡ length bytes)
handed items P (Ok value) before after count count' code said hands zero =
    (items value, said, hands.written zero, hands.counted zero)
handed items P (Err refused) before after count count' code said hands zero = by_code hands.right_code
  where
    by_code : (code ≡ refusal_code refused) ⊎ (code ≡ refusal_code Memory)
        → (bytes : List ℕ) × P bytes × (after ≡ bytes ++ drop (length bytes) before) × (count' ≡ length bytes)
    by_code (inl is) = absurd (no-refusal refused (sym is ∙ zero))
    by_code (inr is) = absurd (no-refusal Memory (sym is ∙ zero))

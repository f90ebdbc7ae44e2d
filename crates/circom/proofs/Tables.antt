-- Tables that bytes spell.
use Rattle.std.proofs.Common.{◌≡◌, ◌⊎◌, inl, inr, Ok, Err, ℕ, ◌+◌, ◌-◌, ◌*◌, ◌/◌, ◌<◌, ◌≤◌, List, ◌∷◌, All, length, length-drop, take, drop, get_or, sym, subst, ap, ap₂, ◌∙◌, arith}
use Rattle.std.proofs.lemmas.List.{length-take-le}
use Rattle.ark_base.specs.declared.error.Error.{Error}
use Rattle.ark_base.specs.declared.error.Error.TheVariants.{OutOfMemory}
use Rattle.ark_sponge.proofs.TableRows.{take-front}
use Rattle.ark_base.specs.Outcome.{Outcome}
use Rattle.ark_sponge.specs.declared.poseidon.table.shape.TableShape.{TableShape}
use Rattle.ark_sponge.specs.Permutation.{Parameters}
use Rattle.ark_sponge.specs.Table.{IsShortOf, IsTable, ShortParts, parts_in, shape_of}
use Rattle.circom.specs.Elements.{form_bytes}
use Rattle.circom.specs.Frame.{IsFrame, check_sum, shape_for, table_count, table_end, with_sum}
use Rattle.circom.specs.Hash.{AreCircom, IsTableOf, SpellsTable, modulus}
use Rattle.circom.proofs.Frames.{frame-spelled, length-behind, summed-behind, summed-long}
use Rattle.circom.proofs.Reading.{length-form_bytes}

-- one outcome has one value
pub ok_same : (outcome : Outcome (List ℕ)) (xs ys : List ℕ) → outcome ≡ Ok xs → outcome ≡ Ok ys → xs ≡ ys
ok_same outcome xs ys is_xs is_ys = cc

-- where something is read, only memory is refused
pub only_memory : (xs : List ℕ) (outcome : Outcome (List ℕ)) (error : Error) → outcome ≡ Ok xs
    → ((error ≡ OutOfMemory) ⊎ (outcome ≡ Err error)) → error ≡ OutOfMemory
only_memory xs outcome error is (inl memory) = memory
only_memory xs outcome error is (inr refused) = absurd cc

module _ (inputs : ℕ) (c : Parameters) (bytes : List ℕ) (spells : SpellsTable inputs c bytes) where
  pub first_is : get_or bytes 0 0 ≡ inputs
  first_is = ap (λ t. get_or t 0 0) spells.spelled

  body-long : length (inputs ∷ form_bytes modulus spells.numbers) ≡ table_end inputs
  body-long =
      length-behind inputs (32 * table_count inputs) (form_bytes modulus spells.numbers)
      (length-form_bytes modulus spells.numbers ∙ ap (λ n. 32 * n) spells.count)

  -- what is spelled has a frame
  pub framed : IsFrame inputs bytes
  framed = record {
    some = spells.some;
    few = spells.few;
    first = first_is;
    long = summed-long (table_end inputs) (inputs ∷ form_bytes modulus spells.numbers) bytes body-long spells.spelled;
    sum = summed-behind (table_end inputs) (inputs ∷ form_bytes modulus spells.numbers) bytes body-long spells.spelled;
  }

  pub rest_is : (rest part : List ℕ) → rest ≡ drop 1 bytes → part ≡ take (32 * table_count inputs) rest
      → part ≡ form_bytes modulus spells.numbers
  rest_is rest part is_rest is_part =
      let body = form_bytes modulus spells.numbers in
      let long : 32 * table_count inputs ≡ length body =
      sym (length-form_bytes modulus spells.numbers ∙ ap (λ n. 32 * n) spells.count) in
      is_part ∙ ap (take (32 * table_count inputs)) (is_rest ∙ ap (drop 1) spells.spelled)
      ∙ take-front (32 * table_count inputs) body (check_sum (inputs ∷ body)) long

  shape_is : shape_of c ≡ shape_for inputs
  shape_is =
      let circom = spells.circom in
      let width : c.rate + c.capacity ≡ inputs + 1 = omega (arith, circom.rate, circom.capacity) in
      let full = circom.full_rounds in
      λ i. record {
        alpha = circom.alpha i;
        width = width i;
        before = ap (λ n. n / 2) full i;
        behind = ap (λ n. n - n / 2) full i;
      }

  pub table_is : (shape : TableShape) (parts : ShortParts) (numbers : List ℕ) → numbers ≡ spells.numbers
      → shape ≡ shape_for inputs → parts ≡ parts_in shape numbers
      → IsTableOf c (record { inputs = inputs; parts = parts })
  table_is shape parts numbers same is_shape is_parts = record {
    rate = spells.circom.rate;
    capacity = spells.circom.capacity;
    short = subst (IsShortOf modulus c) (sym (is_parts ∙ ap₂ parts_in (is_shape ∙ sym shape_is) same))
        spells.table.short;
  }

-- bytes that are made of the parameters, the numbers of their table and the check sum
pub made_is : (inputs : ℕ) (c : Parameters) (numbers bytes : List ℕ) → 1 ≤ inputs → inputs ≤ 16 → AreCircom inputs c
    → length numbers ≡ table_count inputs → All (λ x. x < modulus) numbers → IsTable modulus c numbers
    → bytes ≡ with_sum (inputs ∷ form_bytes modulus numbers) → SpellsTable inputs c bytes
made_is inputs c numbers bytes some few circom count below table spelled = record {
  some = some;
  few = few;
  circom = circom;
  numbers = numbers;
  count = count;
  below = below;
  table = table;
  spelled = spelled;
}

-- ---- what is read of bytes with a frame

within : (n len : ℕ) → len ≡ 1 + 32 * n + 8 → 32 * n ≤ len - 1
within n len is = omega (arith, is)

times_same : (m n : ℕ) → 32 * m ≡ 32 * n → m ≡ n
times_same m n same = omega (arith, same)

pub at_least : (first behind all : ℕ) → all ≡ first + behind → first ≤ all
at_least first behind all is = omega (arith, is)

module _ (inputs count : ℕ) (bytes rest part numbers : List ℕ) (frame : IsFrame inputs bytes)
    (is_count : count ≡ table_count inputs) (is_rest : rest ≡ drop 1 bytes) (is_part : part ≡ take (32 * count) rest)
  where
    pub part-is : part ≡ take (32 * table_count inputs) (drop 1 bytes)
    part-is = is_part ∙ ap₂ (λ n t. take (32 * n) t) is_count is_rest

    pub part-long : length part ≡ 32 * table_count inputs
    part-long =
        let n = table_count inputs in
        let room : 32 * n ≤ length (drop 1 bytes) =
        subst (λ k. 32 * n ≤ k) (sym (length-drop 1 bytes)) (within n (length bytes) frame.long) in
        ap length part-is ∙ length-take-le (32 * n) (drop 1 bytes) room

    pub numbers-long : part ≡ form_bytes modulus numbers → length numbers ≡ table_count inputs
    numbers-long kept = times_same (length numbers) (table_count inputs)
        (sym (length-form_bytes modulus numbers) ∙ ap length (sym kept) ∙ part-long)

    pub numbers-spelled : part ≡ form_bytes modulus numbers → bytes ≡ with_sum (inputs ∷ form_bytes modulus numbers)
    numbers-spelled kept = frame-spelled inputs bytes frame ∙ ap (λ t. with_sum (inputs ∷ t)) (sym part-is ∙ kept)

use Rattle.std.proofs.Common.{◌≡◌, ℕ, ◌+◌, ◌-◌, ◌*◌, ◌<◌, ◌≤◌, ◌^◌, ◌∙◌, List, [], length, take, drop, sym, ap, lit<, arith, length-drop}
use Rattle.std.proofs.Math.Nat.{pow-le-pow_right}
use Rattle.std.proofs.lemmas.List.{drop-drop, length-take-le, drop_all}
use Rattle.ark_base.specs.Digits.{number_of_bytes}
use Rattle.ark_base.specs.Reading.{IsBytes}
use Rattle.ark_base.specs.Laws.Steps.{IsBytes-drop, IsBytes-take}
use Rattle.ark_groups.specs.Group.{Group, IsCommutativeGroup}
use Rattle.ark_groups.proofs.Multiples.{right_identity}
use Rattle.ark_groups.specs.Bits.{bits_of_number}
use Rattle.ark_pedersen.specs.Pedersen.{bits_of_bytes, window_bits, lists_in, concatenation, pedersen_sum}
use Rattle.ark_pedersen.proofs.BitSums.{pedersen_sum-word, number_of_bytes-below}
use Rattle.ark_pedersen.proofs.PedersenSums.{pedersen_sum-none}
use Rattle.ark_pedersen.proofs.sums.add_bytes.Goals as goal

-- the bytes that are read next
abbrev next : List ℕ → ℕ → ℕ → List ℕ
next input start n = take (start + n - start) (drop start input)

next_is : (input : List ℕ) (start n : ℕ) → next input start n ≡ take n (drop start input)
next_is input start n = let k : start + n - start ≡ n = omega arith in ap (λ (m : ℕ). take m (drop start input)) k

-- they are a word of digits that the elements behind hold
word_below : (bytes : List ℕ) (first start n all : ℕ) → IsBytes bytes → start + n ≤ length bytes → first + 8 * length
    bytes ≤ all → number_of_bytes (next bytes start n) < 2 ^ (all - (first + 8 * start))
word_below bytes first start n all fits within room =
    let front = take n (drop start bytes) in
    let len : length front ≡ n = length-take-le n (drop start bytes) (omega (arith, length-drop start bytes)) in
    let below = number_of_bytes-below front (IsBytes-take n (drop start bytes) (IsBytes-drop start bytes fits)) in
    let more : 2 ^ (8 * length front) ≤ 2 ^ (all - (first + 8 * start)) = pow-le-pow_right (lit< tt) (omega arith) in
    rw (next_is bytes start n) (omega arith)

-- and what is added of them, and what is still to be added, are what was to be added
module _ {G : Type 0} {g : Group G} (laws : IsCommutativeGroup g) (all : List G) (bytes : List ℕ) (sum new : G) where
  step : (first start n number : ℕ)
      → IsBytes bytes
      → start + n ≤ length bytes
      → n ≤ 8
      → number ≡ number_of_bytes (next bytes start n)
      → new ≡ g.plus sum (pedersen_sum g (drop (first + 8 * start) all) (bits_of_number 64 number))
      → g.plus new (pedersen_sum g (drop (first + 8 * (start + n)) all) (bits_of_bytes (drop (start + n) bytes))) ≡
      g.plus sum (pedersen_sum g (drop (first + 8 * start) all) (bits_of_bytes (drop start bytes)))
  step first start n number fits within short is added =
      let xs = drop (first + 8 * start) all in
      let rest = drop start bytes in
      let word : number ≡ number_of_bytes (take n rest) = is ∙ ap number_of_bytes (next_is bytes start n) in
      let here : G = pedersen_sum g xs (bits_of_number 64 (number_of_bytes (take n rest))) in
      let elements : drop (first + 8 * (start + n)) all ≡ drop (8 * n) xs =
      (let k : first + 8 * (start + n) ≡ first + 8 * start + 8 * n = omega arith in ap (λ (m : ℕ). drop m all) k)
      ∙ sym (drop-drop (8 * n) (first + 8 * start) all) in
      let behind : drop (start + n) bytes ≡ drop n rest = sym (drop-drop n start bytes) in
      ap (λ (x : G). g.plus x (pedersen_sum g (drop (first + 8 * (start + n)) all)
      (bits_of_bytes (drop (start + n) bytes))))
      (added ∙ ap (λ (m : ℕ). g.plus sum (pedersen_sum g xs (bits_of_number 64 m))) word)
      ∙ ap (λ (ys : List G). g.plus (g.plus sum here) (pedersen_sum g ys (bits_of_bytes (drop (start + n) bytes))))
      elements
      ∙ ap (λ (t : List ℕ). g.plus (g.plus sum here) (pedersen_sum g (drop (8 * n) xs) (bits_of_bytes t))) behind
      ∙ laws.assoc _ _ _
      ∙ ap (g.plus sum) (sym (pedersen_sum-word laws xs rest n (IsBytes-drop start bytes fits)
      (omega (arith, length-drop start bytes)) short))

pub add_word-sum-requires-clause-fits : goal.add_word-sum-requires-clause-fits
add_word-sum-requires-clause-fits g c =
    let fits : IsBytes c.args.bytes.now = λ i. omega (arith, c.type_inv.bytes i) in
    rw c.number_of-word.ensures (word_below c.args.bytes.now c.args.first c.loop-start.start c.min.result
    (window_bits g.W.Window) fits (omega (arith, c.min.ensures)) c.requires.fits)

pub loop-start-preserved : goal.loop-start-preserved
loop-start-preserved g c =
    let all = concatenation (lists_in c.args.generators.now) in
    let total = g.C.AdditiveGroup.total in
    let fits : IsBytes c.args.bytes.now = λ i. omega (arith, c.type_inv.bytes i) in (
      step g.met.C.AdditiveGroup.laws all c.args.bytes.now (total c.loop-start.sum)
          (total c.add_word-sum.result) c.args.first
          c.loop-start.start c.min.result c.number_of-word.result fits (omega (arith, c.min.ensures))
          (omega (arith, c.min.ensures)) c.number_of-word.ensures c.add_word-sum.ensures
          ∙ c.loop-start.invariant.0,
      omega (arith, c.min.ensures),
    )

pub returns : goal.returns
returns g c =
    let group = g.C.AdditiveGroup.group in
    let sum = g.C.AdditiveGroup.total c.loop-start.sum in
    let xs = drop (c.args.first + 8 * c.loop-start.start) (concatenation (lists_in c.args.generators.now)) in
    let none : drop c.loop-start.start c.args.bytes.now ≡ [] =
    drop_all c.loop-start.start c.args.bytes.now (omega arith) in
    sym (right_identity g.met.C.AdditiveGroup.laws sum)
    ∙ ap (group.plus sum) (sym (ap (λ (t : List ℕ). pedersen_sum group xs (bits_of_bytes t)) none
    ∙ pedersen_sum-none g.met.C.AdditiveGroup.laws xs))
    ∙ c.loop-start.invariant.0

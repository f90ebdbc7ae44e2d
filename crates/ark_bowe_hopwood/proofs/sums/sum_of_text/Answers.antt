use Rattle.std.proofs.Common.{◌≡◌, ℕ, ◌+◌, ◌-◌, ◌*◌, ◌++◌, min, List, take, drop, sym, ap, ◌∙◌, arith}
use Rattle.std.proofs.lemmas.List.{drop-drop}
use Rattle.ark_base.specs.Digits.{number_of_bytes}
use Rattle.ark_base.specs.Reading.{IsBytes}
use Rattle.ark_base.specs.Laws.Steps.{IsBytes-drop}
use Rattle.ark_groups.specs.Group.{Group, IsCommutativeGroup}
use Rattle.ark_groups.specs.Bits.{bits_of_number}
use Rattle.ark_pedersen.specs.Pedersen.{lists_in, concatenation}
use Rattle.ark_pedersen.proofs.ByteLists.{IsBytes-append}
use Rattle.ark_bowe_hopwood.specs.BoweHopwood.{chunks_of, digits_sum}
use Rattle.ark_bowe_hopwood.proofs.Chunks.{digits_sum-done}
use Rattle.ark_bowe_hopwood.proofs.Words.{digits_sum-part, three_bytes, three_bytes-below}
use Rattle.ark_bowe_hopwood.proofs.sums.sum_of_text.Goals as goal

-- the chunks of three bytes are added
step : {G : Type 0} {g : Group G} (laws : IsCommutativeGroup g) (all : List G) (text : List ℕ) (sum new : G)
    (i m count number : ℕ) → IsBytes text → count ≡ min (m - 8 * i) 8 → number ≡ number_of_bytes
    (take 3 (drop (3 * i) text))
    → new ≡ g.plus sum (digits_sum g (drop (8 * i) all) (chunks_of (bits_of_number (3 * count) number)))
    → g.plus new (digits_sum g (drop (8 * (i + 1)) all) (chunks_of (bits_of_number (3 * (m - 8 * (i + 1)))
    (number_of_bytes (drop (3 * (i + 1)) text))))) ≡ g.plus sum (digits_sum g (drop (8 * i) all)
    (chunks_of (bits_of_number (3 * (m - 8 * i)) (number_of_bytes (drop (3 * i) text)))))
step {G} {g} laws all text sum new i m count number fits few is added =
    let t = drop (3 * i) text in
    let xs = drop (8 * i) all in
    let elements : drop (8 * (i + 1)) all ≡ drop 8 xs = (let k : 8 * (i + 1) ≡ 8 * i + 8 = omega arith in
    ap (λ (n : ℕ). drop n all) k) ∙ sym (drop-drop 8 (8 * i) all) in
    let behind : drop (3 * (i + 1)) text ≡ drop 3 t = (let k : 3 * (i + 1) ≡ 3 * i + 3 = omega arith in
    ap (λ (n : ℕ). drop n text) k) ∙ sym (drop-drop 3 (3 * i) text) in
    let left : m - 8 * (i + 1) ≡ m - 8 * i - 8 = omega arith in
    let low : ℕ = number_of_bytes (take 3 t) in
    let high : ℕ = number_of_bytes (drop 3 t) in
    let part = digits_sum-part laws xs 8 (m - 8 * i) low high (three_bytes-below t (IsBytes-drop (3 * i) text fits)) in
    ap (λ (s : G). g.plus s (digits_sum g (drop (8 * (i + 1)) all) (chunks_of (bits_of_number (3 * (m - 8 * (i + 1)))
    (number_of_bytes (drop (3 * (i + 1)) text)))))) (added
    ∙ ap (λ (n : ℕ). g.plus sum (digits_sum g xs (chunks_of (bits_of_number (3 * count) n)))) is
    ∙ ap (λ (n : ℕ). g.plus sum (digits_sum g xs (chunks_of (bits_of_number (3 * n) low)))) few)
    ∙ laws.assoc _ _ _
    ∙ ap (g.plus sum) (
    ap (λ (ys : List G). g.plus (digits_sum g xs (chunks_of (bits_of_number (3 * min (m - 8 * i) 8) low)))
    (digits_sum g ys (chunks_of (bits_of_number (3 * (m - 8 * (i + 1)))
    (number_of_bytes (drop (3 * (i + 1)) text)))))) elements
    ∙ ap (λ (n : ℕ). g.plus (digits_sum g xs (chunks_of (bits_of_number (3 * min (m - 8 * i) 8) low)))
    (digits_sum g (drop 8 xs) (chunks_of (bits_of_number (3 * n) (number_of_bytes (drop (3 * (i + 1)) text)))))) left
    ∙ ap (λ (u : List ℕ). g.plus (digits_sum g xs (chunks_of (bits_of_number (3 * min (m - 8 * i) 8) low)))
    (digits_sum g (drop 8 xs) (chunks_of (bits_of_number (3 * (m - 8 * i - 8)) (number_of_bytes u))))) behind
    ∙ sym part
    ∙ sym (ap (λ (n : ℕ). digits_sum g xs (chunks_of (bits_of_number (3 * (m - 8 * i)) n))) (three_bytes t)))

pub loop-group-init : goal.loop-group-init
loop-group-init g c = rw (c.to_sum-sum.ensures, c.zero.ensures) (g.met.G.AdditiveGroup.laws.left_identity _)

pub loop-group-preserved : goal.loop-group-preserved
loop-group-preserved g c =
    let group = g.G.AdditiveGroup.group in
    let all = concatenation (lists_in c.args.generators.now) in
    let text = c.args.left.now ++ c.args.right.now in
    let i = c.loop-group.group in
    let fits : IsBytes text = IsBytes-append c.args.left.now c.args.right.now (λ k. omega (arith, c.type_inv.left k))
    (λ k. omega (arith, c.type_inv.right k)) in
    let count : 8 * i + c.min.result - 8 * i ≡ c.min.result = omega arith in
    let sum = g.G.AdditiveGroup.total c.loop-group.sum in
    step g.met.G.AdditiveGroup.laws all text sum (g.G.AdditiveGroup.total c.add_chunks-sum.result) i c.args.chunks
    c.min.result
    c.number_at.result fits c.min.ensures c.number_at.ensures
    (c.add_chunks-sum.ensures ∙ ap (λ (n : ℕ). group.plus sum (digits_sum group (drop (8 * i) all)
    (chunks_of (bits_of_number (3 * n) c.number_at.result)))) count)
    ∙ c.loop-group.invariant

pub returns : goal.returns
returns g c =
    let none : 3 * (c.args.chunks - 8 * c.loop-group.group) ≡ 0 =
    omega (arith, c.loop-group-test.false, c.div_ceil-group-end.ensures) in
    let all : c.args.chunks - 0 ≡ c.args.chunks = omega arith in
    c.from_sum.ensures
    ∙ digits_sum-done g.met.G.AdditiveGroup.laws _ (g.G.AdditiveGroup.total c.loop-group.sum) _ (3 *
    (c.args.chunks - 8 * c.loop-group.group)) _ none
    c.loop-group.invariant
    ∙ ap (λ (n : ℕ). digits_sum g.G.AdditiveGroup.group (concatenation (lists_in c.args.generators.now))
    (chunks_of (bits_of_number (3 * n) (number_of_bytes (c.args.left.now ++ c.args.right.now))))) all

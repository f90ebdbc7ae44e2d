use Rattle.std.proofs.Common.{◌≡◌, ℕ, suc, ◌+◌, ◌-◌, ◌/◌, ◌%◌, ◌<◌, ◌≤◌, Bool, eqb, List, [], ◌∷◌, ◌++◌, length, get_or, take, sym, ap, ◌∙◌, append_assoc, arith}
use Rattle.std.proofs.lemmas.List.{append-nil, take_more, flat_map_more}
use Rattle.ark_groups.specs.Bits.{bits_of_number}
use Rattle.ark_pedersen.specs.Pedersen.{bits_of_bytes}
use Rattle.ark_pedersen.proofs.bits.bytes_to_bits.Goals as goal

-- one bit more
step : (front new whole : List Bool) (count i rest : ℕ) → i + 1 ≤ count → new ≡ front ++ eqb (rest % 2) 1 ∷ []
    → front ++ bits_of_number (count - i) rest ≡ whole → new ++ bits_of_number (count - (i + 1)) (rest / 2) ≡ whole
unfolding bits_of_number
step front new whole count i rest more put so_far =
    let one : count - i ≡ suc (count - (i + 1)) = omega arith in
    ap (λ (t : List Bool). t ++ bits_of_number (count - (i + 1)) (rest / 2)) put
    ∙ append_assoc front (eqb (rest % 2) 1 ∷ []) _
    ∙ ap (λ (n : ℕ). front ++ bits_of_number n rest) (sym one)
    ∙ so_far

-- all bits of a byte
all : (front whole : List Bool) (count i rest : ℕ) → count ≤ i → front ++ bits_of_number (count - i) rest ≡ whole
    → front ≡ whole
unfolding bits_of_number
all front whole count i rest done so_far =
    let none : count - i ≡ 0 = omega arith in
    sym (ap (λ (n : ℕ). front ++ bits_of_number n rest) none ∙ append-nil front) ∙ so_far

-- one byte more
byte_more : (bytes : List ℕ) (i : ℕ) → i < length bytes → bits_of_bytes (take i bytes) ++ bits_of_number 8
    (get_or bytes i 0) ≡ bits_of_bytes (take (i + 1) bytes)
byte_more bytes i within = flat_map_more (bits_of_number 8) [] (take i bytes) (get_or bytes i 0)
    ∙ sym (ap bits_of_bytes (take_more bytes i 0 within))

pub loop-preserved : goal.loop-preserved
loop-preserved c = step c.loop.bits.items c.push.new.self.items _ 8 c.loop.counter c.loop.rest (omega arith)
    c.in_ok-push.ensures.items c.loop.invariant

pub loop-byte-preserved : goal.loop-byte-preserved
loop-byte-preserved c =
    let bytes = c.args.bytes.now in
    let i = c.loop-byte.byte-index in
    all c.loop.bits.items _ 8 c.loop.counter c.loop.rest (omega arith) c.loop.invariant
    ∙ ap (λ (t : List Bool). t ++ bits_of_number 8 (get_or bytes i 0)) c.loop-byte.invariant
    ∙ byte_more bytes i (omega arith)

use Rattle.std.proofs.Common.{◌≡◌, ℕ, ◌+◌, ◌-◌, ◌/◌, ◌%◌, ◌^◌, List, ◌++◌, length, drop, refl, sym, ◌∙◌, arith}
use Rattle.std.proofs.Common.{length-append}
use Rattle.std.proofs.Math.Seq.{drop-append-add}
use Rattle.ark_schemes.specs.Blake2s.{first_state}
use Rattle.ark_schemes.specs.Hashers.{bytes_before_last}
use Rattle.ark_schemes.proofs.Pieces.{len_of, hasher_of-behind}
use Rattle.ark_schemes.proofs.prf.blake2s.hasher.Hasher.update.Goals as goal

pub returns-then-input-used : goal.returns-then-input-used
returns-then-input-used c = λ salt personalization text fits held.
    c.append.ensures salt personalization text fits
    (rw (len_of salt personalization text c.args.self.now held) at c.used-used.ensures.count) held

pub returns-else-input-used : goal.returns-else-input-used
returns-else-input-used c = λ salt personalization text fits held.
    let input : List ℕ = c.args.input.now in
    let len = len_of salt personalization text c.args.self.now held in
    let used : c.used-used.result ≡ length text - bytes_before_last (length text) =
    rw len at c.used-used.ensures.count in
    let start = c.complete-start.result in
    let count = c.complete-start.new.self.len + start in
    let taken : start ≡ (64 - c.used-used.result) % 64 = c.complete-start.ensures.start in
    let whole : ℕ = (length text + (64 - c.used-used.result) % 64) / 64 in
    let before : count % 2 ^ 64 ≡ length text + start = omega (arith, c.complete-start.ensures.len) in
    let rest : c.rest_of-rest.result.now ≡ drop (count % 2 ^ 64) (text ++ input) =
    c.rest_of-rest.ensures ∙ sym (rw before (drop-append-add text input start)) in
    let state =
    c.compress_front-taken.ensures.state (first_state salt personalization) (text ++ input) whole
    (omega (arith, length-append text input)) (omega arith) rest
    (c.complete-start.ensures.state salt personalization text fits used held) in
    hasher_of-behind salt personalization text input _ start c.compress_front-taken.result (omega arith) (omega arith)
    (c.compress_front-taken.ensures.taken ∙ rw c.rest_of-rest.ensures refl) state
    (c.refill.ensures ∙ rw (c.rest_of.ensures, c.rest_of-rest.ensures) refl)
    (omega (arith, c.complete-start.ensures.len))

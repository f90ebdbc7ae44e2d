-- Texts of a label: no text is that of another role, of other windows or of another place.
use Rattle.std.proofs.Common.{◌≡◌, ℕ, zero, suc, ◌+◌, ◌*◌, ◌^◌, ◌<◌, length, sym, ap, ◌∙◌, arith}
use Rattle.ark_base.specs.Digits.{number_of_bytes}
use Rattle.ark_base.specs.Laws.Digits.{length-bytes_of_number, number_of_bytes-bytes_of_number}
use Rattle.ark_schemes.specs.GroupHash.{text_of, for_segments}

-- three numbers in one, each of its own digits
parts : (role bits place role2 bits2 place2 : ℕ) → bits < 2 ^ 64 → bits2 < 2 ^ 64 → place < 2 ^ 64 → place2 < 2 ^ 64
    → 2 ^ 128 * role + 2 ^ 64 * bits + place ≡ 2 ^ 128 * role2 + 2 ^ 64 * bits2 + place2
    → (role ≡ role2) × (bits ≡ bits2) × (place ≡ place2)
parts role bits place role2 bits2 place2 b b2 p p2 same =
    let high : 2 ^ 64 * role + bits ≡ 2 ^ 64 * role2 + bits2 = omega (arith, p, p2, same) in
    let roles : role ≡ role2 = omega (arith, b, b2, high) in
    let windows : bits ≡ bits2 = omega (arith, roles, high) in
    (roles, windows, omega (arith, same, high))

below : (role bits place : ℕ) → role < 256 → bits < 2 ^ 64 → place < 2 ^ 64
    → 2 ^ 128 * role + 2 ^ 64 * bits + place < 256 ^ 17
below role bits place r b p = omega (arith, r, b, p)

pub texts_apart : (role bits place role2 bits2 place2 : ℕ) → 0 < role → role < 256 → 0 < role2 → role2 < 256
    → bits < 2 ^ 64 → bits2 < 2 ^ 64 → place < 2 ^ 64 → place2 < 2 ^ 64
    → text_of role bits place ≡ text_of role2 bits2 place2 → (role ≡ role2) × (bits ≡ bits2) × (place ≡ place2)
texts_apart zero bits place role2 bits2 place2 some r some2 r2 b b2 p p2 same = absurd (omega (arith, some))
texts_apart (suc role) bits place zero bits2 place2 some r some2 r2 b b2 p p2 same = absurd (omega (arith, some2))
texts_apart (suc role) bits place (suc role2) bits2 place2 some r some2 r2 b b2 p p2 same =
    parts (suc role) bits place (suc role2) bits2 place2 b b2 p p2
    (sym (number_of_bytes-bytes_of_number 17 (2 ^ 128 * suc role + 2 ^ 64 * bits + place)
    (below (suc role) bits place r b p))
    ∙ ap number_of_bytes same
    ∙ number_of_bytes-bytes_of_number 17 (2 ^ 128 * suc role2 + 2 ^ 64 * bits2 + place2)
    (below (suc role2) bits2 place2 r2 b2 p2))

pub no_place_text : (role bits place bits2 place2 : ℕ) → 0 < role
    → text_of role bits place ≡ text_of for_segments bits2 place2 → ⊥
no_place_text zero bits place bits2 place2 some same = absurd (omega (arith, some))
no_place_text (suc role) bits place bits2 place2 some same =
    let long : 17 ≡ 4 =
    sym (length-bytes_of_number 17 (2 ^ 128 * suc role + 2 ^ 64 * bits + place)) ∙ ap length same
    ∙ length-bytes_of_number 4 place2 in
    absurd (omega (arith, long))

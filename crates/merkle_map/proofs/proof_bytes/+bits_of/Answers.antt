use Rattle.std.proofs.Common.{◌^◌, ◌-◌, ◌+◌, ◌%◌, ◌*◌, ◌<◌, ◌≡◌, map, sym, ◌∙◌, ap, arith, rules}
use Rattle.merkle_map.specs.ProofBytes.{is_given, number_of}
use Rattle.merkle_map.proofs.Masks.{number-small}
use Rattle.merkle_map.proofs.ProofReading.{number-none, number-nil, number-given, number-other, fits-sum}
use Rattle.merkle_map.proofs.proof_bytes.+bits_of.Goals as goal

pub returns-then-count-eq0 : goal.returns-then-count-eq0
returns-then-count-eq0 t c =
    sym (number-none c.args.count (map (is_given c.args.nothing.now) c.args.siblings.now) (search rules))

pub returns-then-is_empty : goal.returns-then-is_empty
returns-then-is_empty t c =
    sym (number-nil (is_given c.args.nothing.now) c.args.count c.args.siblings.now (search rules))

pub returns-then-is_given : goal.returns-then-is_given
returns-then-is_given t c =
    let f = is_given c.args.nothing.now in
    number-given f c.args.count c.args.siblings.now _ (search rules) (search rules) c.bits_of-below.result
    (c.bits_of-below.ensures ∙ ap (λ l. number_of (c.args.count - 1) (map f l)) c.behind.ensures) c.requires
    (sym c.is_given.ensures ∙ c.if-is_given.true)

pub returns-else-is_given : goal.returns-else-is_given
returns-else-is_given t c =
    let f = is_given c.args.nothing.now in
    number-other f c.args.count c.args.siblings.now _ (search rules) (search rules) c.bits_of-below.result
    (c.bits_of-below.ensures ∙ ap (λ l. number_of (c.args.count - 1) (map f l)) c.behind.ensures)
    (sym c.is_given.ensures ∙ c.if-is_given.false)

pub overflow_add-result : goal.overflow_add-result
overflow_add-result t c =
    let some : 0 < c.args.count = search rules in
    let f = is_given c.args.nothing.now in
    let small : number_of (c.args.count - 1) (map f c.behind.result.now) < 2 ^ (c.args.count - 1) =
    number-small (c.args.count - 1) (map f c.behind.result.now) in
    let same : c.bits_of-below.result ≡ number_of (c.args.count - 1) (map f c.behind.result.now) =
    c.bits_of-below.ensures in
    let fits : 1 * 2 ^ (c.args.count - 1) % 256 + c.bits_of-below.result < 256 =
    fits-sum c.args.count c.bits_of-below.result some c.requires (omega (arith, small, same)) in
    search rules

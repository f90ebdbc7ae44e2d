use Rattle.std.proofs.Common.{◌≡◌, false, ap, sym, ◌∙◌, subst}
use Rattle.std.specs.Str.{bytes_eq}
use Rattle.merkle_map.specs.Order.{IsKeyBelow}
use Rattle.kept_map.specs.KeptMap.{entry_in}
use Rattle.kept_map.proofs.Differs.{apart-falling, apart-rising, other-below}
use Rattle.kept_map.proofs.differ.entries_apart.Goals as goal

pub returns-then-is_key_below : goal.returns-then-is_key_below
returns-then-is_key_below c =
    let e = entry_in c.args.entries.now c.args.older in
    let f = entry_in c.args.entries.now c.args.newer in
    let differ : bytes_eq e.key f.key ≡ false =
    ap (λ k. bytes_eq k f.key) (sym c.own_key-a.ensures.own) ∙ ap (bytes_eq c.own_key-a.result) (sym
    c.own_key-b.ensures.own)
    ∙ sym c.are_same_keys.ensures ∙ c.if-are_same_keys.false in
    let below : IsKeyBelow e.key f.key =
    subst (λ k. IsKeyBelow k f.key) c.own_key-a.ensures.own
    (subst (IsKeyBelow c.own_key-a.result) c.own_key-b.ensures.own (c.is_key_below.ensures.below
    c.if-is_key_below.true)) in
    (λ no. no, λ no. no, c.requires.older, c.requires.newer, apart-rising e f differ below)

pub returns : goal.returns
returns c =
    let e = entry_in c.args.entries.now c.args.older in
    let f = entry_in c.args.entries.now c.args.newer in
    let differ : bytes_eq c.own_key-a.result c.own_key-b.result ≡ false =
    sym c.are_same_keys.ensures ∙ c.if-are_same_keys.false in
    let own : bytes_eq e.key f.key ≡ false =
    ap (λ k. bytes_eq k f.key) (sym c.own_key-a.ensures.own) ∙ ap (bytes_eq c.own_key-a.result) (sym
    c.own_key-b.ensures.own)
    ∙ differ in
    let below : IsKeyBelow f.key e.key =
    subst (λ k. IsKeyBelow k e.key) c.own_key-b.ensures.own
    (subst (IsKeyBelow c.own_key-b.result) c.own_key-a.ensures.own
    (other-below c.own_key-a.result c.own_key-b.result c.own_key-a.ensures.key c.own_key-b.ensures.key differ
    (c.is_key_below.ensures.above c.if-is_key_below.false))) in
    (λ no. no, λ no. no, c.requires.newer, c.requires.older, apart-falling e f own below)

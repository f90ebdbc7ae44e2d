use Rattle.std.proofs.Common.{rules, not, ◌≡◌, refl, arith, ap, sym, ◌∙◌}
use Rattle.std.specs.Str.{bytes_eq}
use Rattle.merkle_map.specs.Map.{bit_of}
use Rattle.merkle_map.specs.Tree.{Empty, IsKey, way}
use Rattle.merkle_map.proofs.Keys.{bits_left}
use Rattle.kept_map.specs.KeptMap.{entry_in}
use Rattle.kept_map.proofs.Frames.{take-before}
use Rattle.kept_map.proofs.Made.{one-lies, kept, parted, together, two-apart, two-together, turned}
use Rattle.kept_map.proofs.put.+apart.Goals as goal

pub returns-then-level-ge256-clause-sound : goal.returns-then-level-ge256-clause-sound
returns-then-level-ge256-clause-sound t c = λ differ alike.
    let own : IsKey c.key_at-key.result = (search rules, search rules) in
    let other : IsKey c.key_at-other_key.result = (search rules, search rules) in
    let below = bits_left c.args.level c.key_at-key.result c.key_at-other_key.result own other c.requires.within
    (ap (way c.args.level) c.key_at-key.ensures ∙ alike ∙ ap (way c.args.level) (sym c.key_at-other_key.ensures))
    (ap (bytes_eq c.key_at-other_key.result) c.key_at-key.ensures
    ∙ ap (λ k. bytes_eq k (entry_in c.args.entries.now c.args.own).key) c.key_at-other_key.ensures
    ∙ differ) in omega (arith, below)

pub returns-then-is_right-bit_of-clause-made : goal.returns-then-is_right-bit_of-clause-made
returns-then-is_right-bit_of-clause-made t c = λ h.
    let bit = c.bit_of-is_right.result in
    let x = entry_in c.args.entries.now c.args.own in
    let y = entry_in c.args.entries.now c.args.other in
    let here : bit_of c.args.level x.key ≡ bit = ap (bit_of c.args.level) (sym c.key_at-key.ensures)
    ∙ sym c.bit_of-is_right.ensures in
    let there : bit_of c.args.level y.key ≡ not bit = ap (bit_of c.args.level) (sym c.key_at-other_key.ensures)
    ∙ sym c.bit_of.ensures ∙ turned bit c.bit_of.result c.if-is_right-bit_of.true in
    parted h c.args.entries.now c.push_sides.new.forks c.args.count.now c.push_sides.new.count c.push_sides.result
    c.push_sides.ensures.count bit x y _ (two-apart c.args.level x y (omega arith) bit here there)
    (c.push_sides.ensures.lies h c.args.entries.now _ _
    (one-lies h c.args.entries.now c.args.forks.now c.args.count.now _ c.args.own c.number_of_entry-own.ensures
    c.requires.own)
    (one-lies h c.args.entries.now c.args.forks.now c.args.count.now _ c.args.other c.number_of_entry-other.ensures
    c.requires.other))

pub returns-clause-before : goal.returns-clause-before
returns-clause-before t c = take-before c.args.count.now c.apart.new.count c.args.forks.now c.apart.new.forks
    c.push_sides-2.new.forks c.apart.ensures.more c.apart.ensures.before c.push_sides-2.ensures.before

pub returns-clause-made : goal.returns-clause-made
returns-clause-made t c = λ h.
    let bit = c.bit_of-is_right.result in
    let x = entry_in c.args.entries.now c.args.own in
    let y = entry_in c.args.entries.now c.args.other in
    let here : bit_of c.args.level x.key ≡ bit = ap (bit_of c.args.level) (sym c.key_at-key.ensures)
    ∙ sym c.bit_of-is_right.ensures in
    let there : bit_of c.args.level y.key ≡ bit = ap (bit_of c.args.level) (sym c.key_at-other_key.ensures)
    ∙ sym c.bit_of.ensures ∙ kept bit c.bit_of.result c.if-is_right-bit_of.false in
    let made = c.in_ok-below.ensures.made h in
    together h c.args.entries.now c.apart.new.forks c.push_sides-2.new.forks c.args.count.now c.apart.new.count
    c.push_sides-2.new.count c.push_sides-2.result c.in_ok-below.below _ made c.push_sides-2.ensures.count bit _
    (two-together c.args.level x y (omega arith) bit here there)
    (c.push_sides-2.ensures.lies h c.args.entries.now made.tree Empty made.lies refl)

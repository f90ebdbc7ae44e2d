use Rattle.std.proofs.Common.{◌≡◌, ◌+◌, ◌*◌, true, false, take, refl, ap, sym, ◌∙◌, subst}
use Rattle.merkle_map.specs.Map.{has_bit}
use Rattle.merkle_map.specs.Tree.{Empty}
use Rattle.kept_map.specs.Differ.{half_shape}
use Rattle.kept_map.specs.KeptMap.{LaidAt, entry_in}
use Rattle.kept_map.specs.Parts.{part_number}
use Rattle.kept_map.proofs.Climbing.{lies-one}
use Rattle.kept_map.proofs.differ.half_of.Goals as goal

pub returns-then-turns : goal.returns-then-turns
returns-then-turns c = λ h first count tree lies inside.
    let entries = c.args.entries.now in
    let k = c.in-Entry.place in
    let is : c.args.number ≡ 2 * k + 1 = sym c.requires.number ∙ ap part_number c.in-Entry.is in
    let one = lies-one h entries c.args.forks.now first count c.args.number k tree is lies in
    let has : has_bit c.args.bit c.args.level (entry_in entries k).key ≡ true =
    ap (has_bit c.args.bit c.args.level) (sym c.key_at.ensures) ∙ sym c.turns.ensures ∙ c.if-turns.true in
    let own : half_shape c.args.bit c.args.level tree ≡ tree =
    ap (half_shape c.args.bit c.args.level) one ∙ (rw has refl) ∙ sym one in
    (count, inside, subst (LaidAt h (take first entries) c.args.forks.now count c.args.number) (sym own) lies)

pub returns-else-turns : goal.returns-else-turns
returns-else-turns c = λ h first count tree lies inside.
    let entries = c.args.entries.now in
    let k = c.in-Entry.place in
    let is : c.args.number ≡ 2 * k + 1 = sym c.requires.number ∙ ap part_number c.in-Entry.is in
    let one = lies-one h entries c.args.forks.now first count c.args.number k tree is lies in
    let has : has_bit c.args.bit c.args.level (entry_in entries k).key ≡ false =
    ap (has_bit c.args.bit c.args.level) (sym c.key_at.ensures) ∙ sym c.turns.ensures ∙ c.if-turns.false in
    let none : half_shape c.args.bit c.args.level tree ≡ Empty = ap (half_shape c.args.bit c.args.level) one ∙ (rw has
    refl) in
    (count, inside, subst (LaidAt h (take first entries) c.args.forks.now count 0) (sym none) refl)

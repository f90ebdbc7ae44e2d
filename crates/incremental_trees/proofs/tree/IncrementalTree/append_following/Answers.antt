use Rattle.std.proofs.Common.{◌≡◌, ◌<◌, ◌-◌, ◌^◌, List, length, map, ap, sym, ◌∙◌, arith, inl, inr}
use Rattle.std.proofs.lemmas.List.{length-map, map-set}
use Rattle.ark_paths.specs.Pair.{Digest}
use Rattle.incremental_trees.specs.Incremental.{AreFilled}
use Rattle.incremental_trees.proofs.Halves.{room_left}
use Rattle.incremental_trees.proofs.Carrying.{holds-more}
use Rattle.incremental_trees.proofs.tree.IncrementalTree.append_following.Goals as goal

pub returns-in-Ok-clause-appended : goal.returns-in-Ok-clause-appended
returns-in-Ok-clause-appended g c =
    let numbers = g.D.Numbered.numbers in
    let inside = c.self.inside in
    let view = c.self.view_is in
    let room : inside.size < 2 ^ inside.depth = room_left inside.size (2 ^ inside.depth)
    (λ same. c.if-is_full.ensures.1 (sym (ap (λ t. t.size) view) ∙ same ∙ ap (λ t. 2 ^ t.depth) view))
    c.self.invariant.fits in
    let value = c.deref.ensures.value in
    let long : length c.deref.result.now - 1 ≡ inside.depth = omega (arith, ap length value, c.self.invariant.filled) in
    let level : c.in-Ok.level < length (map numbers inside.filled.items) =
    omega (arith, length-map inside.filled.items numbers, ap length value, c.in-Ok.ensures.level) in
    rw (← view) (λ leaves holds. holds-more (numbers c.args.leaf) (numbers c.in-Ok.node) c.in-Ok.level _ holds room
    level c.in-Ok.ensures.place
    (λ (empty : Digest) (other : List Digest) (size_is : length other ≡ inside.size)
    (filled : AreFilled (g.T.LevelHasher.nodes inside.hasher) empty other inside.depth
    (map numbers inside.filled.items)).
    c.in-Ok.ensures.node empty other size_is (rw (long, value) filled))
    (map-set numbers inside.filled.items c.in-Ok.level c.in-Ok.node))

pub returns-in-Ok-clause-completed : goal.returns-in-Ok-clause-completed
returns-in-Ok-clause-completed g c =
    let inside = c.self.inside in
    let value = c.deref.ensures.value in
    let long : length c.deref.result.now - 1 ≡ inside.depth = omega (arith, ap length value, c.self.invariant.filled) in
    rw (← c.self.view_is)
    (λ leaves holds. c.in-Ok.ensures.made _ leaves holds.size_is (rw (long, value) holds.filled))

pub returns-in-Err-clause-refused : goal.returns-in-Err-clause-refused
returns-in-Err-clause-refused g c =
    let inside = c.self.inside in
    let view = c.self.view_is in
    let room : inside.size < 2 ^ inside.depth = room_left inside.size (2 ^ inside.depth)
    (λ same. c.if-is_full.ensures.1 (sym (ap (λ t. t.size) view) ∙ same ∙ ap (λ t. 2 ^ t.depth) view))
    c.self.invariant.fits in
    let value = c.deref.ensures.value in
    let long : length c.deref.result.now - 1 ≡ inside.depth = omega (arith, ap length value, c.self.invariant.filled) in
    rw (← view) (
      room,
      elim c.in-Err.ensures.refused [
        | inl memory ↦ inl memory
        | inr refused ↦ inr (λ leaves holds. refused _ leaves holds.size_is (rw (long, value) holds.filled))
      ],
    )

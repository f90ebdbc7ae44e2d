use Rattle.std.proofs.Common.{◌+◌, ◌-◌, ◌/◌, ◌^◌, get_or, length, refl, ap, ◌∙◌, arith}
use Rattle.kept_tree.proofs.Besides.{has_levels, level-small}
use Rattle.kept_tree.proofs.LevelPlaces.{place-some, waits-all, waits-apart, waits-hashed, waits-inside, waits-more, waits-none, waits-same}
use Rattle.kept_tree.proofs.many.hash_level.Goals.{then-count-eq0, then-count-eq-RUN, else-count-eq-RUN, else-count-eq0+else-run-count}
use Rattle.kept_tree.proofs.many.hash_level.Goals as goal

pub overflow_shr-place : goal.overflow_shr-place
overflow_shr-place g c =
    level-small (has_levels (length c.args.memory.now) c.requires.size) c.requires.high (omega (arith, c.well_formed))

pub overflow_sub-place : goal.overflow_sub-place
overflow_sub-place g c =
    let tree = has_levels (length c.args.memory.now) c.requires.size in
    rw tree.half (place-some tree (c.requires.indexes c.indexes.index-index 0 c.indexes-test.true) c.requires.high)

pub indexes-init : goal.indexes-init
indexes-init g c =
    waits-none g.H.ArrayHash.node_hash c.args.memory.now (has_levels (length c.args.memory.now) c.requires.size)
    c.requires.high c.args.indexes.now (λ j below. c.requires.indexes j 0 below) _ refl

pub hash_places-requires-2-clause-inside : goal.hash_places-requires-2-clause-inside
hash_places-requires-2-clause-inside g c =
    waits-inside g.H.ArrayHash.node_hash c.args.memory.now (has_levels (length c.args.memory.now) c.requires.size)
    c.requires.high c.args.indexes.now (λ j below. c.requires.indexes j 0 below) c.indexes.memory c.indexes.index-index
    c.indexes.run c.indexes.count (omega arith) c.indexes.invariant c.requires.low

pub hash_places-requires-2-clause-apart : goal.hash_places-requires-2-clause-apart
hash_places-requires-2-clause-apart g c =
    waits-apart g.H.ArrayHash.node_hash c.args.memory.now (has_levels (length c.args.memory.now) c.requires.size)
    c.requires.high c.args.indexes.now (λ j below. c.requires.indexes j 0 below) c.indexes.memory c.indexes.index-index
    c.indexes.run c.indexes.count (omega arith) c.indexes.invariant

pub returns : goal.returns
returns g c =
    waits-all g.H.ArrayHash.node_hash c.args.memory.now (has_levels (length c.args.memory.now) c.requires.size)
    c.requires.high c.args.indexes.now (λ j below. c.requires.indexes j 0 below) c.hash_places-2.new.memory
    c.indexes.index-index c.indexes.run (omega arith)
    (waits-hashed g.H.ArrayHash.node_hash c.args.memory.now (has_levels (length c.args.memory.now) c.requires.size)
    c.requires.high c.args.indexes.now (λ j below. c.requires.indexes j 0 below) c.indexes.memory
    c.hash_places-2.new.memory c.indexes.index-index c.indexes.run c.indexes.count (omega arith)
    c.indexes.invariant c.hash_places-2.ensures)

pub hash_places-requires-clause-inside : goal.hash_places-requires-clause-inside
hash_places-requires-clause-inside g c =
    waits-inside g.H.ArrayHash.node_hash c.args.memory.now (has_levels (length c.args.memory.now) c.requires.size)
    c.requires.high c.args.indexes.now (λ j below. c.requires.indexes j 0 below) c.indexes.memory c.indexes.index-index
    c.indexes.run c.indexes.count (omega (arith, c.indexes-test.true)) c.indexes.invariant c.requires.low

pub hash_places-requires-clause-apart : goal.hash_places-requires-clause-apart
hash_places-requires-clause-apart g c =
    waits-apart g.H.ArrayHash.node_hash c.args.memory.now (has_levels (length c.args.memory.now) c.requires.size)
    c.requires.high c.args.indexes.now (λ j below. c.requires.indexes j 0 below) c.indexes.memory c.indexes.index-index
    c.indexes.run c.indexes.count (omega (arith, c.indexes-test.true)) c.indexes.invariant

pub indexes-preserved : goal.indexes-preserved
indexes-preserved g c =
    let tree = has_levels (length c.args.memory.now) c.requires.size in
    elim c.if-count-eq0.branch [
      | then-count-eq0 w ↦ rw (w.memory-is, w.run-is, w.count-is) (elim w.if-count-eq-RUN.branch [
        | then-count-eq-RUN v ↦ rw (v.memory-is, v.count-is, tree.half) (waits-more g.H.ArrayHash.node_hash
            c.args.memory.now tree c.requires.high c.args.indexes.now (λ j below. c.requires.indexes j 0 below)
            v.hash_places.new.memory c.indexes.index-index c.indexes.run 0 (waits-hashed g.H.ArrayHash.node_hash
            c.args.memory.now tree c.requires.high c.args.indexes.now (λ j below. c.requires.indexes j 0 below)
            c.indexes.memory v.hash_places.new.memory c.indexes.index-index c.indexes.run c.indexes.count (omega
            (arith, c.indexes-test.true)) c.indexes.invariant v.hash_places.ensures) (omega arith))
        | else-count-eq-RUN v ↦ rw (v.memory-is, v.count-is, tree.half) (waits-more g.H.ArrayHash.node_hash
            c.args.memory.now tree c.requires.high c.args.indexes.now (λ j below. c.requires.indexes j 0 below)
            c.indexes.memory c.indexes.index-index c.indexes.run c.indexes.count c.indexes.invariant (omega
            (arith, c.indexes.invariant.within, v.if-count-eq-RUN.false)))
      ])
      | else-count-eq0+else-run-count w ↦ rw (w.memory-is, w.run-is, w.count-is) (waits-same g.H.ArrayHash.node_hash
          c.args.memory.now tree c.requires.high c.args.indexes.now (λ j below. c.requires.indexes j 0 below)
          c.indexes.memory c.indexes.index-index c.indexes.run c.indexes.count c.indexes.invariant
          (omega (arith, w.if-count-eq0.false))
          (w.if-run-count.false
          ∙ ap (λ n. (n + get_or c.args.indexes.now c.indexes.index-index 0) / 2 ^ c.args.level - 1) tree.half))
    ]

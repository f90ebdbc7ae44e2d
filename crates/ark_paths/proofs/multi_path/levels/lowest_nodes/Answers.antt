use Rattle.std.proofs.Common.{◌≡◌, ◌<◌, ℕ, suc, length, map, get_or, arith, ap, sym, ◌∙◌}
use Rattle.std.proofs.lemmas.List.{length-map}
use Rattle.std.proofs.lemmas.Simd.{map-map}
use Rattle.ark_base.specs.Laws.Steps.{done_injective}
use Rattle.ark_crh.specs.Ahead.{lent_couple, lent_couples, of_couple}
use Rattle.ark_paths.specs.Rows.{digests_of}
use Rattle.ark_paths.proofs.NodeClimbs.{all-root-below}
use Rattle.ark_paths.proofs.NodePaths.{nodes-alone}
use Rattle.ark_paths.proofs.ListOutcomes.{length-each}
use Rattle.ark_paths.proofs.multi_path.levels.lowest_nodes.Goals as goal

pub returns-clause-many : goal.returns-clause-many
returns-clause-many g c =
    let numbers = g.L.Numbered.numbers in
    let couples = c.in_ok-joined.joined.couples.items in
    sym (length-map c.in_ok-digests.digests.items g.D.Numbered.numbers)
    ∙ length-each (of_couple (g.T.TreeHasher.hashes c.args.hasher.now).pair.bottom) (lent_couples numbers couples) _
    (rw c.deref.ensures.value at c.in_ok-digests.ensures)
    ∙ length-map couples (lent_couple numbers) ∙ c.in_ok-joined.ensures.many

pub returns-clause-nodes : goal.returns-clause-nodes
returns-clause-nodes g c = λ above suffixes paths.
    let numbers = g.L.Numbered.numbers in
    let h = (g.T.TreeHasher.hashes c.args.hasher.now).pair in
    let own = c.in_ok-nodes.nodes in
    let couples = c.in_ok-joined.joined.couples.items in
    let many : length own.firsts.items ≡ length c.args.indexes.now =
    c.in_ok-nodes.ensures.many ∙ c.requires.digests in
    let alone : (g : ℕ) → g < length c.args.indexes.now → get_or own.firsts.items g 0 ≡ g =
    λ g below. c.in_ok-nodes.ensures.firsts g (omega (arith, below, c.requires.digests)) in
    let j = c.in_ok-joined.ensures.joined above (nodes-alone above c.args.prefixes.now suffixes
    (length c.args.indexes.now) c.args.len (suc c.args.len) own.firsts.items paths many alone) in
    let seen : map numbers c.args.siblings.now ≡ map (λ x. numbers x.now) c.in_ok-beside.beside.items =
    ap (map numbers) (done_injective c.args.siblings.now _ c.in_ok-beside.ensures)
    ∙ map-map numbers (λ x. x.now) c.in_ok-beside.beside.items in (
      j.0,
      λ root climbs. rw (seen, ← c.in_ok-nodes.ensures.digests)
          (all-root-below h root above c.args.indexes.now c.args.len c.in_ok-joined.joined.firsts.items
          (lent_couples numbers couples) (digests_of g.D.Numbered.numbers c.in_ok-digests.digests) own.firsts.items
          (digests_of numbers own.digests) _ (length c.args.indexes.now)
          (λ g below. j.1 g (omega (arith, below, many))) alone paths.long c.in_ok-joined.ensures.inside
          (length-map couples (lent_couple numbers) ∙ c.in_ok-joined.ensures.many)
          (rw c.deref.ensures.value at c.in_ok-digests.ensures) climbs),
    )

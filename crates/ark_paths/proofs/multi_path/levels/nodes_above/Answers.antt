use Rattle.std.proofs.Common.{◌≡◌, ◌-◌, suc, length, get_or, arith, sym, ◌∙◌, add-one}
use Rattle.std.proofs.lemmas.List.{length-map}
use Rattle.ark_crh.specs.Ahead.{lent_couple, lent_couples, of_couple}
use Rattle.ark_paths.specs.Rows.{digests_of}
use Rattle.ark_paths.proofs.NodeClimbs.{all-climb-below}
use Rattle.ark_paths.proofs.ListOutcomes.{length-each}
use Rattle.ark_paths.proofs.multi_path.levels.nodes_above.Goals as goal

pub returns-clause-many : goal.returns-clause-many
returns-clause-many g c =
    let numbers = g.D.Numbered.numbers in
    let couples = c.in_ok-joined.joined.couples.items in
    sym (length-map c.in_ok-digests.digests.items numbers)
    ∙ length-each (of_couple (g.T.TreeHasher.hashes c.args.hasher.now).pair.upper) (lent_couples numbers couples) _
    (rw c.deref-2.ensures.value at c.in_ok-digests.ensures)
    ∙ length-map couples (lent_couple numbers) ∙ c.in_ok-joined.ensures.many

pub returns-clause-nodes : goal.returns-clause-nodes
returns-clause-nodes g c = λ above paths apart.
    let numbers = g.D.Numbered.numbers in
    let h = (g.T.TreeHasher.hashes c.args.hasher.now).pair in
    let firsts = c.args.nodes.now.firsts.items in
    let couples = c.in_ok-joined.joined.couples.items in
    let depth = c.args.len - c.args.row - 1 in
    let here : c.args.len - c.args.row ≡ suc depth = omega (arith, c.requires.row) in
    let next : c.args.len - suc c.args.row ≡ depth = omega arith in
    let now = rw here at apart in
    let found = rw c.deref.ensures.value at c.in_ok-beside.ensures.beside in
    let beside = found above (length c.args.indexes.now) c.args.len paths c.requires.inside now in
    let j = rw (add-one c.args.row) at (c.in_ok-joined.ensures.joined above now) in
    rw (here, next) (
      j.0,
      λ root climbs.
          all-climb-below h root above c.args.indexes.now c.args.row depth c.in_ok-joined.joined.firsts.items
          (lent_couples numbers couples) (digests_of numbers c.in_ok-digests.digests) firsts
          (digests_of numbers c.args.nodes.now.digests) _ j.1 beside
          (λ g below. omega (arith, paths.long (get_or firsts g 0) (c.requires.inside g below), here))
          (length-map couples (lent_couple numbers) ∙ c.in_ok-joined.ensures.many)
          (rw c.deref-2.ensures.value at c.in_ok-digests.ensures) climbs,
    )

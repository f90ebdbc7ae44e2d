use Rattle.std.proofs.Common.{◌≡◌, ◌-◌, [], length, map, take, get_or, refl, arith, ap, sym, ◌∙◌, rules, add-one}
use Rattle.std.proofs.lemmas.List.{get_or-map, length-map, length-take-le}
use Rattle.std.proofs.lemmas.Slice.Eq.{bytes_eq-Decides}
use Rattle.ark_paths.specs.Nodes.{paths_after}
use Rattle.ark_paths.specs.MultiPath.{listed_way}
use Rattle.ark_paths.specs.Pair.{digest_eq}
use Rattle.ark_paths.specs.Rows.{digests_of}
use Rattle.ark_paths.proofs.NodePaths.{all-climb-top, all-root-of, are_paths, first-long, verdict-true}
use Rattle.ark_paths.proofs.ListOutcomes.{length-each}
use Rattle.ark_paths.proofs.multi_path.levels.find_accepted.Goals as goal

pub lowest_nodes-requires-clause-digests : goal.lowest_nodes-requires-clause-digests
lowest_nodes-requires-clause-digests g c =
    let leaf = (g.T.TreeHasher.hashes c.args.hasher.now).leaf in
    let count = length c.args.indexes.now in
    sym (length-map c.in_ok-digests.digests.items g.L.Numbered.numbers)
    ∙ length-each leaf (take count c.args.leaves.now) _ (rw c.part_of.ensures at c.in_ok-digests.ensures)
    ∙ length-take-le count c.args.leaves.now (omega (arith, c.if-leaves-count.false))

pub rows-init : goal.rows-init
rows-init g c =
    let leaf = g.L.Numbered.numbers in
    let inner = g.D.Numbered.numbers in
    let hashes = g.T.TreeHasher.hashes c.args.hasher.now in
    let root = inner c.args.root.now in
    let count = length c.args.indexes.now in
    let seen = map (digests_of inner) c.args.suffixes.now in
    let above = paths_after [] c.args.prefixes.now seen in
    let way = listed_way leaf inner c.args.siblings.now c.args.prefixes.now c.args.suffixes.now c.args.indexes.now in
    let long = c.first_length-len.ensures ∙ first-long inner c.args.suffixes.now in
    let parts = c.have_paths.ensures c.if-not-have_paths.false in
    let paths = are_paths c.args.prefixes.now seen count c.first_length-len.result parts (λ _. sym long) in
    let lowest = c.in_ok-nodes.ensures.nodes above seen paths in
    let whole : c.first_length-len.result - 0 ≡ c.first_length-len.result = omega arith in
    rw whole (record {
      many = c.in_ok-nodes.ensures.many;
      inside = c.in_ok-nodes.ensures.inside;
      apart = lowest.0;
      accepted = λ climbs.
          verdict-true hashes.pair hashes.leaf root way count (rw long at parts)
          (omega (arith, c.if-siblings-count.false, length-map c.args.siblings.now leaf)) c.args.leaves.now
          (digests_of leaf c.in_ok-digests.digests) refl (omega (arith, c.if-count-eq0.false))
          (omega (arith, c.if-leaves-count.false)) (rw c.part_of.ensures at c.in_ok-digests.ensures)
          (all-root-of leaf c.args.siblings.now hashes.pair root above c.args.indexes.now count
          (digests_of leaf c.in_ok-digests.digests)
          (rw c.part_of-2.ensures at (lowest.1 root climbs)));
    })

pub rows-preserved : goal.rows-preserved
rows-preserved g c =
    let inner = g.D.Numbered.numbers in
    let seen = map (digests_of inner) c.args.suffixes.now in
    let long = c.first_length-len.ensures ∙ first-long inner c.args.suffixes.now in
    let paths = are_paths c.args.prefixes.now seen (length c.args.indexes.now) c.first_length-len.result
    (c.have_paths.ensures c.if-not-have_paths.false) (λ _. sym long) in
    let before = c.rows.invariant in
    let next = c.in_ok-nodes-2.ensures.nodes (paths_after [] c.args.prefixes.now seen) paths before.apart in
    rw (add-one c.rows.row) (record {
      many = c.in_ok-nodes-2.ensures.many;
      inside = c.in_ok-nodes-2.ensures.inside;
      apart = next.0;
      accepted = λ climbs. before.accepted (next.1 (inner c.args.root.now) climbs);
    })

pub returns-then-eq : goal.returns-then-eq
returns-then-eq g c =
    let inner = g.D.Numbered.numbers in
    let hashes = g.T.TreeHasher.hashes c.args.hasher.now in
    let top = c.index.result.now in
    let root = c.args.root.now in
    let seen = map (digests_of inner) c.args.suffixes.now in
    let same : digest_eq (inner top) (inner root) ≡ c.eq.result = search rules in
    let is : inner top ≡ inner root = (bytes_eq-Decides (inner top) (inner root)).0 (same ∙ c.if-eq.true) in
    let at : get_or (digests_of inner c.rows.nodes.digests) 0 [] ≡ inner root =
    get_or-map inner c.rows.nodes.digests.items 0 top [] (omega (arith, c.if-len-eq1.true, c.len.ensures))
    ∙ ap inner (sym c.index.ensures) ∙ is in
    c.rows.invariant.accepted (all-climb-top hashes.pair (inner root) (paths_after [] c.args.prefixes.now seen)
    c.args.indexes.now c.rows.row _ c.rows.nodes.firsts.items (digests_of inner c.rows.nodes.digests)
    (omega (arith, c.rows-test.false))
    (omega (arith, c.rows.invariant.many, c.if-len-eq1.true, c.len.ensures)) at)

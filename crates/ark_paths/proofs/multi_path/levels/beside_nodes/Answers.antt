use Rattle.std.proofs.Common.{◌≡◌, ◌∙◌, [], map, get_or, arith, ap, sym}
use Rattle.std.proofs.lemmas.List.{length-append, length-map, get_or-map, map_push}
use Rattle.ark_paths.specs.Rows.{digests_of}
use Rattle.ark_paths.proofs.NodeBeside.{found-more}
use Rattle.ark_paths.proofs.multi_path.levels.beside_nodes.Goals as goal

pub nodes-preserved : goal.nodes-preserved
nodes-preserved g c =
    let numbers = g.D.Numbered.numbers in
    let before = c.nodes.invariant in
    let first = get_or c.args.firsts.now c.nodes.node 0 in
    let suffix = c.index-suffixes-first.result.items in
    let seen = map (digests_of numbers) c.args.suffixes.now in
    let at : get_or seen first [] ≡ map numbers suffix =
    get_or-map (digests_of numbers) c.args.suffixes.now first _ []
    (c.requires.suffixes c.nodes.node c.nodes-test.true) ∙ ap (digests_of numbers) (sym c.index-suffixes-first.is) in
    record {
      many = rw c.in_ok-push.ensures.items (length-append c.nodes.beside.items _ ∙ omega (arith, before.many));
      found = rw (c.in_ok-push.ensures.items, map_push)
          (found-more c.args.prefixes.now seen c.args.depth c.args.firsts.now c.nodes.node _
          (length-map c.nodes.beside.items _ ∙ before.many) c.nodes-test.true before.found _
          (rw at (rw (c.deref.ensures.value, c.as_slice-suffix.ensures.value) at c.in-Some.ensures)));
    }

use Rattle.std.proofs.Common.{◌≡◌, drop, length, true, sym, ap, ◌∙◌, arith}
use Rattle.std.proofs.lemmas.Option.{IfSome_then}
use Rattle.ark_paths.specs.Root.{root}
use Rattle.kept_tree.specs.KeptTree.{alike, is_tree_length, kept_leaves}
use Rattle.kept_tree.proofs.Lengths.{sized-length}
use Rattle.paxidore_calls.specs.Cut.{parts_by}
use Rattle.paxidore_calls.proofs.roots.root_from.Goals as goal

pub returns-clause-root : goal.returns-clause-root
returns-clause-root g c =
    let node = g.H.ArrayHash.node_hash in
    let memory = c.write_last-rest.new.memory in
    let sized : is_tree_length (length memory) ≡ true = sized-length (length memory) c.args.count c.requires.size
    (omega (arith, c.write_last-rest.ensures.long, c.requires.room)) in
    let top = c.kept_root.ensures.tree node (kept_leaves memory) (c.rebuild.ensures.tree sized) in
    IfSome_then (parts_by c.args.bytes.now (drop c.args.first c.args.lengths.now)) c.write_last-rest.ensures.leaves
    (λ xs is. ap (root (alike node)) (sym is) ∙ top)

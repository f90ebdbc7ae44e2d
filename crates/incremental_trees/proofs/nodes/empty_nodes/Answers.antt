use Rattle.std.proofs.Common.{◌≡◌, ◌+◌, ◌++◌, ◌∷◌, [], length, map, get_or, ap, sym, ◌∙◌, arith, inl, inr}
use Rattle.std.proofs.lemmas.List.{length-append, length-map, map-append, get_or_append_left}
use Rattle.std.proofs.lemmas.Result.{err_from_is_err_and}
use Rattle.ark_paths.specs.Rows.{digests_of}
use Rattle.incremental_trees.proofs.LevelNodes.{empties-more, empties-refused}
use Rattle.incremental_trees.proofs.nodes.empty_nodes.Goals as goal

pub returns-in_err-node-clause-refused : goal.returns-in_err-node-clause-refused
returns-in_err-node-clause-refused g c =
    let numbers = g.D.Numbered.numbers in
    let hash = g.T.LevelHasher.nodes c.args.hasher.now in
    let level = c.loop-level.level in
    let lent = ap (λ l. hash level (get_or (map numbers l) level []) (get_or (map numbers l) level []))
    (sym c.deref.ensures.value) in
    let result = err_from_is_err_and c.from_residual-in_err-node.result c.from_residual-in_err-node.ensures.1 in
    rw (result.1, result.2) (elim c.in_err-node.ensures [
      | inl memory ↦ inl memory
      | inr refused ↦ inr (empties-refused hash (numbers c.args.empty) level c.args.depth
          (digests_of numbers c.loop-level.nodes) _ (omega arith) c.loop-level.invariant.made (lent ∙ refused))
    ])

pub loop-level-preserved : goal.loop-level-preserved
loop-level-preserved g c =
    let numbers = g.D.Numbered.numbers in
    let hash = g.T.LevelHasher.nodes c.args.hasher.now in
    let level = c.loop-level.level in
    let old = c.loop-level.nodes.items in
    let long = length-map old numbers in
    let items : c.push-in-loop-level.new.self.items ≡ old ++ (c.in_ok-node.node ∷ []) = c.in_ok-push-2.ensures.items in
    let lists : digests_of numbers c.push-in-loop-level.new.self ≡ map numbers old ++ (numbers c.in_ok-node.node ∷ []) =
    ap (map numbers) items ∙ map-append numbers old (c.in_ok-node.node ∷ []) in
    let lent = ap (λ l. hash level (get_or (map numbers l) level []) (get_or (map numbers l) level []))
    (sym c.deref.ensures.value) in
    record {
      count = ap length items ∙ length-append old (c.in_ok-node.node ∷ [])
          ∙ ap (λ n. n + 1) c.loop-level.invariant.count;
      first = ap (λ l. get_or l 0 []) lists
          ∙ get_or_append_left (map numbers old) (numbers c.in_ok-node.node ∷ []) [] 0
          (omega (arith, long, c.loop-level.invariant.count))
          ∙ c.loop-level.invariant.first;
      made = rw lists (empties-more hash (numbers c.args.empty) level (map numbers old) (numbers c.in_ok-node.node)
          (long ∙ c.loop-level.invariant.count) c.loop-level.invariant.made (lent ∙ c.in_ok-node.ensures));
    }

use Rattle.std.proofs.Common.{◌≡◌, ◌⊎◌, ◌<◌, ◌+◌, ◌/◌, ◌^◌, ◌++◌, ◌∷◌, [], suc, List, length, map, get_or, Ok, Err, subst, ap, sym, ◌∙◌, arith}
use Rattle.std.proofs.lemmas.List.{map-append, get_or_default}
use Rattle.std.proofs.Math.Nat.{div-eq_of_lt}
use Rattle.ark_base.proofs.Refusals.{passed_on}
use Rattle.ark_base.specs.Outcome.{Outcome}
use Rattle.ark_base.specs.declared.error.Error.{Error}
use Rattle.ark_base.specs.declared.error.Error.TheVariants.{OutOfMemory}
use Rattle.ark_paths.specs.Index.{neighbour}
use Rattle.ark_paths.specs.Pair.{Digest}
use Rattle.ark_paths.specs.Rows.{digests_of}
use Rattle.incremental_trees.specs.Incremental.{HoldsLeaves}
use Rattle.incremental_trees.specs.KeptPaths.{IsKeptPath}
use Rattle.incremental_trees.specs.Nodes.{LevelHash, level_hash, node_at, nodes_beside, rising_root}
use Rattle.incremental_trees.proofs.Besides.{beside-more, beside-refused}
use Rattle.incremental_trees.proofs.Rising.{rising-own, length-beside}
use Rattle.incremental_trees.proofs.Padded.{tree-root}
use Rattle.incremental_trees.proofs.Ways.{way-root}
use Rattle.incremental_trees.proofs.kept_path.KeptPath.nodes.Goals as goal

-- an error is that of an outcome, or a lack of memory
abbrev FailsBy : Outcome Digest → Error → Type 0
FailsBy outcome error = (error ≡ OutOfMemory) ⊎ (outcome ≡ Err error)

pub loop-level-preserved : goal.loop-level-preserved
loop-level-preserved g c =
    let numbers = g.D.Numbered.numbers in
    let hash = g.T.LevelHasher.nodes c.args.tree.now.hasher in
    let empty = c.args.tree.now.empty in
    let inside = c.tree.inside in
    let level = c.loop-level.level in
    let old = c.loop-level.nodes.items in
    let node = c.in_ok-node.node in
    let lower : level < inside.depth = omega arith in
    let up : level + 1 ≡ suc level = omega arith in
    let lists : digests_of numbers c.push.new.self ≡ map numbers old ++ (numbers node ∷ []) =
    ap (map numbers) c.in_ok-push.ensures.items ∙ map-append numbers old (node ∷ []) in
    let is : (leaves : List Digest) → HoldsLeaves (g.T.LevelHasher.nodes c.args.tree.now.hasher) leaves c.args.tree.now
    → IsKeptPath (g.T.LevelHasher.nodes c.args.tree.now.hasher) c.args.tree.now.empty leaves c.args.tree.now.depth
    c.args.self.now → node_at (g.T.LevelHasher.nodes c.args.tree.now.hasher) c.args.tree.now.empty leaves level
    (neighbour (c.args.self.now.index / 2 ^ level)) ≡ Ok (numbers node) =
    rw (← c.tree.view_is, ← c.self.view_is) (λ leaves holds own. c.in_ok-node.ensures _ leaves inside.depth
    holds.size_is (omega arith) (rw c.deref.ensures.value holds.empties)
    (rw c.deref-in-loop-level.ensures.value holds.filled)
    (rw c.deref-in-loop-level-2.ensures.value (own.complete level lower))) in
    record {
      made = λ leaves holds own. ap (λ n. nodes_beside hash empty leaves n c.args.self.now.index) up
          ∙ beside-more hash empty leaves c.args.self.now.index level (map numbers old) (numbers node)
          (c.loop-level.invariant.made leaves holds own) (is leaves holds own)
          ∙ ap Ok (sym lists);
    }

pub returns-in_err-node-clause-nodes : goal.returns-in_err-node-clause-nodes
returns-in_err-node-clause-nodes g c =
    let numbers = g.D.Numbered.numbers in
    let hash = g.T.LevelHasher.nodes c.args.tree.now.hasher in
    let empty = c.args.tree.now.empty in
    let inside = c.tree.inside in
    let level = c.loop-level.level in
    let lower : level < inside.depth = omega arith in
    let deep : level < c.args.tree.now.depth = omega (arith, ap (λ t. t.depth) c.tree.view_is) in
    let is : (leaves : List Digest) → HoldsLeaves (g.T.LevelHasher.nodes c.args.tree.now.hasher) leaves c.args.tree.now
    → IsKeptPath (g.T.LevelHasher.nodes c.args.tree.now.hasher) c.args.tree.now.empty leaves c.args.tree.now.depth
    c.args.self.now → FailsBy (node_at (g.T.LevelHasher.nodes c.args.tree.now.hasher) c.args.tree.now.empty leaves level
    (neighbour (c.args.self.now.index / 2 ^ level))) c.in_err-node.field-0.0 =
    rw (← c.tree.view_is, ← c.self.view_is) (λ leaves holds own. c.in_err-node.ensures _ leaves inside.depth
    holds.size_is (omega arith) (rw c.deref.ensures.value holds.empties)
    (rw c.deref-in-loop-level.ensures.value holds.filled)
    (rw c.deref-in-loop-level-2.ensures.value (own.complete level lower))) in
    λ leaves holds own. passed_on _ _ c.from_residual-in_err-node.result c.in_err-node.field-0.0
    c.from_residual-in_err-node.ensures.1 (is leaves holds own)
    (λ refused. beside-refused hash empty leaves c.args.self.now.index level c.args.tree.now.depth
    (digests_of numbers c.loop-level.nodes) _ deep (c.loop-level.invariant.made leaves holds own) refused)

pub returns-clause-nodes : goal.returns-clause-nodes
returns-clause-nodes g c = λ leaves holds own.
    let hash = g.T.LevelHasher.nodes c.args.tree.now.hasher in
    let empty = c.args.tree.now.empty in
    let all : c.args.tree.now.depth ≡ c.loop-level.level = omega (arith, ap (λ t. t.depth) c.tree.view_is) in
    ap (λ n. nodes_beside hash empty leaves n c.args.self.now.index) all ∙ c.loop-level.invariant.made leaves holds own

pub returns-clause-accepted : goal.returns-clause-accepted
returns-clause-accepted g c = λ leaves holds own.
    let numbers = g.D.Numbered.numbers in
    let hash = g.T.LevelHasher.nodes c.args.tree.now.hasher in
    let empty = c.args.tree.now.empty in
    let depth = c.args.tree.now.depth in
    let index = c.args.self.now.index in
    let nodes = digests_of numbers c.loop-level.nodes in
    let all : depth ≡ c.loop-level.level = omega (arith, ap (λ t. t.depth) c.tree.view_is) in
    let is = ap (λ n. nodes_beside hash empty leaves n index) all ∙ c.loop-level.invariant.made leaves holds own in
    let below : index < 2 ^ depth = omega (arith, own.inside, holds.fits) in
    ap (rising_root hash 0 index nodes) (get_or_default leaves index [] empty own.inside)
    ∙ rising-own hash empty leaves depth index nodes is
    ∙ ap (node_at hash empty leaves depth) (div-eq_of_lt below)

pub returns-clause-path : goal.returns-clause-path
returns-clause-path g c = λ h same some leaves holds own.
    let numbers = g.D.Numbered.numbers in
    let own_hash = g.T.LevelHasher.nodes c.args.tree.now.hasher in
    let hash = level_hash h in
    let empty = c.args.tree.now.empty in
    let depth = c.args.tree.now.depth in
    let index = c.args.self.now.index in
    let nodes = digests_of numbers c.loop-level.nodes in
    let all : depth ≡ c.loop-level.level = omega (arith, ap (λ t. t.depth) c.tree.view_is) in
    let made = c.loop-level.invariant.made leaves
    (subst (λ (f : LevelHash). HoldsLeaves f leaves c.args.tree.now) (sym same) holds)
    (subst (λ (f : LevelHash). IsKeptPath f empty leaves depth c.args.self.now) (sym same) own) in
    let is = ap (λ f. nodes_beside f empty leaves depth index) (sym same)
    ∙ ap (λ n. nodes_beside own_hash empty leaves n index) all ∙ made in
    let below : index < 2 ^ depth = omega (arith, own.inside, holds.fits) in
    let long : 0 < length nodes = omega (arith, length-beside hash empty leaves depth index nodes is) in
    sym (way-root h index nodes (get_or leaves index []) long)
    ∙ ap (rising_root hash 0 index nodes) (get_or_default leaves index [] empty own.inside)
    ∙ rising-own hash empty leaves depth index nodes is
    ∙ ap (node_at hash empty leaves depth) (div-eq_of_lt below)
    ∙ tree-root holds some

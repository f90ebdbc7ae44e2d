use Rattle.std.proofs.Common.{◌≡◌, ◌<◌, ◌+◌, ℕ, [], length, map, get_or, arith, ap, sym, ◌∙◌}
use Rattle.std.proofs.lemmas.Grind.{get_or_default_zero}
use Rattle.std.proofs.lemmas.List.{length-map, get_or-map, map_push}
use Rattle.ark_crh.specs.Ahead.{lent_couple}
use Rattle.ark_paths.specs.Bind.{couple}
use Rattle.ark_paths.specs.Index.{bit_at}
use Rattle.ark_paths.specs.Rows.{digests_of}
use Rattle.ark_paths.proofs.NodeSteps.{joined-more, joined-same, inside-push, length-push}
use Rattle.ark_paths.proofs.multi_path.levels.join.Goals.{then-is_with_last+else-prefixes-first+else-not-is_last, else-is_with_last+in_ok-push+in_ok-push-2}
use Rattle.ark_paths.proofs.multi_path.levels.join.Goals as goal

pub nodes-preserved : goal.nodes-preserved
nodes-preserved g c =
    let numbers = g.X.Numbered.numbers in
    let before = c.nodes.invariant in
    let paths = c.args.nodes.now.firsts.items in
    let below : c.nodes.node < length paths = omega (arith, c.nodes-test.true, c.len-node-end.ensures) in
    let own : get_or (digests_of numbers c.args.nodes.now.digests) c.nodes.node [] ≡ numbers c.index.result.now =
    get_or-map numbers c.args.nodes.now.digests.items c.nodes.node c.index.result.now []
    (omega (arith, below, c.requires.digests)) ∙ ap numbers (sym c.index.ensures) in
    let beside : get_or (map (λ x. numbers x.now) c.args.beside.items) c.nodes.node []
    ≡ numbers c.index-in-nodes.result.now.now =
    get_or-map (λ x. numbers x.now) c.args.beside.items c.nodes.node c.index-in-nodes.result.now []
    (omega (arith, below, c.requires.beside)) ∙ ap (λ x. numbers x.now) (sym c.index-in-nodes.ensures) in
    let first = c.index-first.result.now in
    let first_is : first ≡ get_or paths c.nodes.node 0 =
    c.index-first.ensures ∙ get_or_default_zero paths c.nodes.node first below in
    let inside : first < length c.args.indexes.now = rw first_is (c.requires.inside c.nodes.node below) in
    let many = length-map c.nodes.couples.items (lent_couple numbers) in
    let made_is : lent_couple numbers c.in_order-couple.result
    ≡ couple (bit_at (get_or c.args.indexes.now first 0) c.args.level)
    (get_or (digests_of numbers c.args.nodes.now.digests) c.nodes.node [])
    (get_or (map (λ x. numbers x.now) c.args.beside.items) c.nodes.node []) =
    rw (own, beside, ← c.is_bit_set-is_right.ensures) c.in_order-couple.ensures in
    elim c.if-is_with_last.branch [
      | then-is_with_last+else-prefixes-first+else-not-is_last w ↦
          let last = rw c.deref.ensures.value at (c.is_with_last.ensures w.if-is_with_last.true) in
          let same = rw w.deref-else-prefixes-first.ensures.value at (w.is_last.ensures w.if-not-is_last.false) in
          rw (w.firsts-is, w.couples-is) (record {
            many = before.many;
            inside = before.inside;
            joined = λ above apart.
                joined-same above c.args.prefixes.now c.args.indexes.now c.args.level c.args.shared paths _ _ apart
                c.nodes.node c.nodes.firsts.items _ (many ∙ before.many) below (before.joined above apart) first
                first_is _ made_is last.0 (omega (arith, w.if-prefixes-first.false)) last.1 (rw many same);
          })
      | else-is_with_last+in_ok-push+in_ok-push-2 w ↦
          rw (w.firsts-is, w.couples-is, w.in_ok-push.ensures.items, w.in_ok-push-2.ensures.items, map_push)
          (record {
            many = length-push _ _ ∙ ap (λ (n : ℕ). n + 1) before.many ∙ sym (length-push _ _);
            inside = inside-push (length c.args.indexes.now) c.nodes.firsts.items first before.inside inside;
            joined = λ above apart.
                joined-more above c.args.prefixes.now c.args.indexes.now c.args.level c.args.shared paths _ _ apart
                c.nodes.node c.nodes.firsts.items _ (many ∙ before.many) below (before.joined above apart) first
                first_is _ made_is;
          })
    ]

pub returns-clause-joined : goal.returns-clause-joined
returns-clause-joined g c = λ above apart.
    let j = c.nodes.invariant.joined above apart in
    (j.nodes, λ g below. j.joined g (omega (arith, below, c.nodes-test.false, c.len-node-end.ensures)))

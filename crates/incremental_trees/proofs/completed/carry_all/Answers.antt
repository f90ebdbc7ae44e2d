use Rattle.std.proofs.Common.{◌≡◌, ◌≤◌, ◌<◌, ◌+◌, ◌-◌, ◌*◌, ◌/◌, ◌%◌, ◌^◌, ◌++◌, ◌∷◌, [], suc, length, map, get_or, ap, sym, ◌∙◌, arith, inl, inr}
use Rattle.std.proofs.lemmas.List.{length-append, map-append}
use Rattle.std.proofs.lemmas.Result.{err_from_is_err_and}
use Rattle.ark_paths.specs.Rows.{digests_of}
use Rattle.incremental_trees.proofs.Halves.{complete_inside, half-up, level_below}
use Rattle.incremental_trees.proofs.Completing.{all-first, all-next, all-refused, all-carries, all-completed}
use Rattle.incremental_trees.proofs.completed.carry_all.Goals as goal

pub odd-init : goal.odd-init
odd-init g c =
    let numbers = g.D.Numbered.numbers in
    let items = c.in_ok-push.ensures.items ∙ ap (λ l. l ++ (c.args.leaf ∷ [])) c.new-nodes.ensures.items in
    record {
      below = c.requires.some;
      count = ap length items;
      place = omega arith;
      all = all-first _ _ _ _ _ _ (ap (map numbers) items);
    }

pub odd-preserved : goal.odd-preserved
odd-preserved g c =
    let numbers = g.D.Numbered.numbers in
    let hash = g.T.LevelHasher.nodes c.args.hasher.now in
    let level = c.odd.level in
    let size = c.args.size in
    let old = c.odd.nodes.items in
    let left = get_or (map numbers c.args.filled.now) level [] in
    let hashed = ap (λ l. hash level left (get_or (map numbers l) level [])) (sym c.deref.ensures.value)
    ∙ c.in_ok-node.ensures in
    let items : c.push-in-odd.new.self.items ≡ old ++ (c.in_ok-node.node ∷ []) = c.in_ok-push-2.ensures.items in
    let lists : digests_of numbers c.push-in-odd.new.self ≡ map numbers old ++ (numbers c.in_ok-node.node ∷ []) =
    ap (map numbers) items ∙ map-append numbers old (c.in_ok-node.node ∷ []) in
    let one : 1 * 2 ^ level ≤ size = complete_inside level size 1 (omega (arith, c.odd.invariant.place)) in
    let lower : level < length c.args.filled.now - 1 = level_below level (length c.args.filled.now - 1) size one
    c.requires.room in
    let up : suc level ≡ level + 1 = omega arith in
    let odd : size / 2 ^ level % 2 ≡ 1 = ap (λ n. n % 2) (sym c.odd.invariant.place) ∙ c.odd-test.true in
    record {
      below = omega arith;
      count = ap length items ∙ length-append old (c.in_ok-node.node ∷ []) ∙ ap (λ n. n + 1) c.odd.invariant.count;
      place = ap (λ n. n / 2) c.odd.invariant.place ∙ sym (half-up size level) ∙ ap (λ n. size / 2 ^ n) up;
      all = all-next c.odd.invariant.all odd (omega arith) (numbers c.in_ok-node.node) _ hashed lists;
    }

pub returns-in_err-node-clause-refused : goal.returns-in_err-node-clause-refused
returns-in_err-node-clause-refused g c =
    let numbers = g.D.Numbered.numbers in
    let hash = g.T.LevelHasher.nodes c.args.hasher.now in
    let level = c.odd.level in
    let left = get_or (map numbers c.args.filled.now) level [] in
    let lent = ap (λ l. hash level left (get_or (map numbers l) level [])) (sym c.deref.ensures.value) in
    let odd : c.args.size / 2 ^ level % 2 ≡ 1 = ap (λ n. n % 2) (sym c.odd.invariant.place) ∙ c.odd-test.true in
    let result = err_from_is_err_and c.from_residual-in_err-node.result c.from_residual-in_err-node.ensures.1 in
    rw (result.1, result.2) (elim c.in_err-node.ensures [
      | inl memory ↦ inl memory
      | inr refused ↦ inr (all-refused c.odd.invariant.all odd (omega (arith, c.odd.invariant.below)) _
          (lent ∙ refused))
    ])

pub returns-clause-place : goal.returns-clause-place
returns-clause-place g c =
    let even : c.odd.count % 2 ≡ 0 = omega arith in
    all-carries c.odd.invariant.all (ap (λ n. n % 2) (sym c.odd.invariant.place) ∙ even)

pub returns-clause-made : goal.returns-clause-made
returns-clause-made g c =
    let even : c.odd.count % 2 ≡ 0 = omega arith in
    all-completed c.odd.invariant.all (ap (λ n. n % 2) (sym c.odd.invariant.place) ∙ even)

use Rattle.std.proofs.Common.{◌≡◌, sym, ap, ◌∙◌, ◌-◌, ◌∷◌, map, set, replicate, Ok, List, ℕ}
use Rattle.ark_base.specs.Outcome.{Outcome}
use Rattle.poseidon2.proofs.Truncated.{two-before-zeros}
use Rattle.poseidon2.proofs.compression.state_of.Goals as goal

pub returns-clause-numbers : goal.returns-clause-numbers
returns-clause-numbers g c =
    let f = g.F.Valued.value in
    let a = c.args in
    let items = c.in_ok-state.ensures.items_if_clones_equal (λ y k. sym (g.met.F.Field.clones _ _ k)) in
    let make : List ℕ → Outcome (List ℕ) = λ t. Ok t in
    let numbers : map f (set (set c.in_ok-state.state.items 0 a.left) 1 a.right)
    ≡ f a.left ∷ f a.right ∷ replicate (a.width - 2) 0 =
    ap (λ s. map f (set (set s 0 a.left) 1 a.right)) {y = replicate a.width c.zero.result} items
    ∙ two-before-zeros f c.zero.result a.left a.right a.width c.requires c.zero.ensures in
    sym (ap make numbers)

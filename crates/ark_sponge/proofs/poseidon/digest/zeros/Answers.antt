use Rattle.std.proofs.Common.{sym, ap, ◌∙◌, map, Ok, List, ℕ}
use Rattle.ark_base.specs.Outcome.{Outcome}
use Rattle.ark_sponge.proofs.Zeros.{all_zero}
use Rattle.ark_sponge.proofs.poseidon.digest.zeros.Goals as goal

pub returns-clause-numbers : goal.returns-clause-numbers
returns-clause-numbers g c =
    let f = g.F.Valued.value in
    let items = c.in_ok-vec.ensures.items_if_clones_equal (λ y k. sym (g.met.F.Field.clones _ _ k)) in
    let make : List ℕ → Outcome (List ℕ) = λ t. Ok t in
    sym (ap make (ap (map f) items ∙ all_zero f c.args.count c.zero.result c.zero.ensures))

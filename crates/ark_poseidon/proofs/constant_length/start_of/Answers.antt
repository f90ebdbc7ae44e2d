use Rattle.std.proofs.Common.{◌≡◌, ◌∷◌, [], ◌++◌, sym, ap, ◌∙◌, map, replicate, Ok, List, ℕ}
use Rattle.ark_base.specs.Outcome.{Outcome}
use Rattle.ark_poseidon.specs.ConstantLength.{constant_length_start}
use Rattle.ark_poseidon.proofs.ConstantLength.{start-numbers}
use Rattle.ark_poseidon.proofs.constant_length.start_of.Goals as goal

pub returns : goal.returns
returns g c =
    let f = g.F.Valued.value in
    let zeros : c.in_ok-state.state.items ≡ replicate c.args.rate c.zero.result =
    c.in_ok-state.ensures.items_if_clones_equal (λ y k. sym (g.met.F.Field.clones _ _ k)) in
    let make : List ℕ → Outcome (List ℕ) = λ t. Ok t in
    let numbers : map f c.push.new.self.items ≡ constant_length_start g.F.Field.MODULUS c.args.rate c.args.count =
    ap (map f) c.in_ok-push.ensures.items ∙ ap (λ l. map f (l ++ (c.count_mark.result ∷ []))) zeros
    ∙ start-numbers f _ _ c.args.rate _ c.zero.ensures c.count_mark.ensures in
    sym (ap make numbers)

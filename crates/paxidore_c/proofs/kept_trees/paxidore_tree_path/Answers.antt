use Rattle.std.proofs.Common.{◌≡◌, List, ℕ, ℤ, Result, of_z, rules, subst, sym, to_z, w32}
use Rattle.paxidore_calls.specs.Answer.{Hands}
use Rattle.paxidore_c.specs.KeptAnswer.{path_of_digests}
use Rattle.paxidore_calls.specs.declared.refused.Refused.{Refused}
use Rattle.paxidore_c.proofs.Keeping.{path-held}
use Rattle.paxidore_c.proofs.kept_trees.paxidore_tree_path.Goals as goal

pub returns-clause-tree : goal.returns-clause-tree
returns-clause-tree c = λ h leaves holds.
    let Handed : Result (List ℕ) Refused → ℤ → Type 0 = λ outcome code. Hands outcome c.args.path.now
    c.kept_path.new.path c.args.path_len.now c.kept_path.new.path_len code in
    let OfOutcome : Result (List ℕ) Refused → Type 0 = λ outcome. Handed outcome c.kept_path.result in
    let OfCode : ℤ → Type 0 = Handed (path_of_digests h leaves c.args.index) in
    let same : to_z w32 (of_z w32 c.kept_path.result) ≡ c.kept_path.result = search rules in
    subst OfCode (sym same)
    (subst OfOutcome (path-held h c.args.tree.now leaves c.args.index holds) c.kept_path.ensures.handed)

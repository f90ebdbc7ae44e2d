use Rattle.std.proofs.Common.{◌≡◌, List, ℕ, ℤ, Result, of_z, rules, subst, sym, to_z, w32}
use Rattle.paxidore_calls.specs.Answer.{Hands}
use Rattle.paxidore_c.specs.KeptAnswer.{kept_multi_path, multi_path_of_digests}
use Rattle.paxidore_calls.specs.declared.refused.Refused.{Refused}
use Rattle.paxidore_c.proofs.Keeping.{multi-path-held}
use Rattle.paxidore_c.proofs.kept_proofs.paxidore_tree_multi_path.Goals as goal

pub returns-clause-tree : goal.returns-clause-tree
returns-clause-tree c = λ h leaves holds.
    let Handed : Result (List ℕ) Refused → ℤ → Type 0 = λ outcome code. Hands outcome c.args.proof.now
    c.hand_over.new.buffer c.args.proof_len.now c.hand_over.new.count code in
    let OfOutcome : Result (List ℕ) Refused → Type 0 = λ outcome. Handed outcome c.hand_over.result in
    let OfCode : ℤ → Type 0 = Handed (multi_path_of_digests h leaves c.args.indexes.now) in
    let same : to_z w32 (of_z w32 c.hand_over.result) ≡ c.hand_over.result = search rules in
    subst OfCode (sym same)
    (subst OfOutcome (multi-path-held h c.args.tree.now leaves c.args.indexes.now holds)
    (c.hand_over.ensures (kept_multi_path c.args.tree.now c.args.indexes.now) c.kept_multi_path.ensures))

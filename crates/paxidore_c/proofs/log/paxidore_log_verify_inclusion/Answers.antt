use Rattle.std.proofs.Common.{List, ℕ, subst}
use Rattle.ark_trees.specs.Rfc6962.{log_hashes}
use Rattle.merkle_log.specs.Received.{ShowsLogLeaf, inclusion_length}
use Rattle.paxidore_calls.specs.LogProofs.{proof_digests}
use Rattle.paxidore_calls.proofs.Answering.{zero-says}
use Rattle.paxidore_c.proofs.log.paxidore_log_verify_inclusion.Goals as goal

pub returns-clause-shows : goal.returns-clause-shows
returns-clause-shows c =
    let digests = proof_digests (inclusion_length c.args.size c.args.index) c.args.path.now in
    let P : List ℕ → Type 0 =
    λ entry. ShowsLogLeaf (log_hashes (λ bytes. bytes)) c.args.root.now c.args.size c.args.index entry digests in
    λ zero. subst P c.in-Ok.ensures.items (zero-says c.verify_inclusion_bytes.result
    c.verify_inclusion_bytes.ensures.bound c.verdict_code.result c.verdict_code.ensures zero)

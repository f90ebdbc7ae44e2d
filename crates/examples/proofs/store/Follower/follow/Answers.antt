use Rattle.std.proofs.Common.{◌++◌, ℕ, Ok, Vec, Global, ap, ◌∙◌}
use Rattle.sha2.specs.Sha256.{sha256}
use Rattle.ark_base.specs.Outcome.{Outcome}
use Rattle.ark_paths.specs.Pair.{Digest, Hashes, pair_of}
use Rattle.examples.proofs.Changes.{shows-change}
use Rattle.examples.proofs.store.Follower.follow.Goals as goal

-- the hashes of the store's tree
node : Unit {0} → Digest → Digest → Outcome Digest
node none left right = Ok (sha256 (left ++ right))

hashes : Hashes (Vec ℕ Global)
unfolding node
hashes = record { leaf = λ value. Ok (sha256 value.items); pair = pair_of (λ digest. Ok digest) node node tt }

pub returns-clause-others : goal.returns-clause-others
unfolding node hashes
returns-clause-others c = λ done. let client = c.args.self.now in
    shows-change hashes client.root c.args.root.now client.size c.args.index c.args.old.now c.args.new.now _
    (c.in_ok-holds.ensures.answer ∙ ap Ok c.if-not-branch.false)
    (c.in_ok-holds-2.ensures.answer ∙ ap Ok c.if-not-branch-2.false)

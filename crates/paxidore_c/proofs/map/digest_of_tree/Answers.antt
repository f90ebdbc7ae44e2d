use Rattle.std.proofs.Common.{◌≡◌, List, subst}
use Rattle.ark_base.specs.Outcome.{Answers}
use Rattle.merkle_map.specs.Map.{Entry, root_of_map}
use Rattle.merkle_map.specs.Tree.{shape_digest, Shows}
use Rattle.merkle_map.specs.Whole.{IsRootOf}
use Rattle.paxidore_c.proofs.map.digest_of_tree.Goals as goal

pub returns-then-are_many-clause-digest : goal.returns-then-are_many-clause-digest
returns-then-are_many-clause-digest c =
    subst (λ h. Answers (shape_digest h c.args.tree.now) c.root_together.result) c.new-hasher.ensures.hashes
    c.root_together.ensures.digest

pub returns-then-are_many-clause-maps : goal.returns-then-are_many-clause-maps
returns-then-are_many-clause-maps c = subst (λ h. (entries : List Entry) → Shows h 0 c.args.tree.now entries
    → root_of_map h entries ≡ shape_digest h c.args.tree.now) c.new-hasher.ensures.hashes c.root_together.ensures.maps

pub returns-then-are_many-clause-store : goal.returns-then-are_many-clause-store
returns-then-are_many-clause-store c =
    subst (λ h. IsRootOf h c.args.tree.now) c.new-hasher.ensures.hashes c.root_together.ensures.store

pub returns-clause-digest : goal.returns-clause-digest
returns-clause-digest c =
    subst (λ h. Answers (shape_digest h c.args.tree.now) c.root.result) c.new-hasher.ensures.hashes
    c.root.ensures.digest

pub returns-clause-maps : goal.returns-clause-maps
returns-clause-maps c = subst (λ h. (entries : List Entry) → Shows h 0 c.args.tree.now entries
    → root_of_map h entries ≡ shape_digest h c.args.tree.now) c.new-hasher.ensures.hashes c.root.ensures.maps

pub returns-clause-store : goal.returns-clause-store
returns-clause-store c = subst (λ h. IsRootOf h c.args.tree.now) c.new-hasher.ensures.hashes c.root.ensures.store

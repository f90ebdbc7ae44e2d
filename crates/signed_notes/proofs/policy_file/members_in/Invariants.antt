use Rattle.std.proofs.Common.{◌≡◌, [], map, length}
use Rattle.signed_notes.specs.PolicyFiles.{with_members, spaced_words}
use Rattle.signed_notes.specs.PolicyViews.{named_parts}
use Rattle.signed_notes.specs.Views.{verifier_parts}
use Rattle.signed_notes.proofs.policy_file.members_in.Given as goal

abbrev pub invariant-members : goal.invariant-members
invariant-members l =
    with_members (map named_parts l.names) [] (spaced_words l.words)
    ≡ with_members (map named_parts l.names) (map verifier_parts l.keys.items) (spaced_words l.rest)

abbrev pub decreases-members : goal.decreases-members
decreases-members l = length l.rest

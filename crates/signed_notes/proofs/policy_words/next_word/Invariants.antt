use Rattle.std.proofs.Common.{◌≡◌, ◌≤◌, length}
use Rattle.signed_notes.specs.PolicyFiles.{spaced_words}
use Rattle.signed_notes.proofs.policy_words.next_word.Given as goal

abbrev pub invariant-pieces : goal.invariant-pieces
invariant-pieces l = record {
  words : spaced_words l.line ≡ spaced_words l.rest;
  less : length l.rest ≤ length l.line;
}

abbrev pub decreases-pieces : goal.decreases-pieces
decreases-pieces l = length l.rest

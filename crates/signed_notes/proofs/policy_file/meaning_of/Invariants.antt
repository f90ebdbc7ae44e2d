use Rattle.std.proofs.Common.{◌≡◌, map, drop}
use Rattle.signed_notes.specs.PolicyFiles.{meaning_of}
use Rattle.signed_notes.specs.PolicyViews.{named_parts}
use Rattle.signed_notes.proofs.policy_file.meaning_of.Given as goal

abbrev pub invariant-loop-one : goal.invariant-loop-one
invariant-loop-one l =
    meaning_of (map named_parts l.names) l.name ≡ meaning_of (map named_parts (drop l.one-index l.names)) l.name

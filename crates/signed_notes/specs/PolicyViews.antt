-- What of policy files is seen.
use Rattle.std.specs.Prelude.{map, Option, Some, None}
use Rattle.signed_notes.specs.Keys.{KeyParts}
use Rattle.signed_notes.specs.Opening.{Policy}
use Rattle.signed_notes.specs.PolicyFiles.{Meaning, NamedParts, PolicyLines, spaced_words}
use Rattle.signed_notes.specs.PolicyFiles.Meaning.{OneKey, SomeOf}
use Rattle.signed_notes.specs.Views.{verifier_parts}
use Rattle.signed_notes.specs.declared.keys.Verifier.{Verifier}
use Rattle.signed_notes.specs.declared.policy_file.Lines.{Lines}
use Rattle.signed_notes.specs.declared.policy_file.Meant.{Meant}
use Rattle.signed_notes.specs.declared.policy_file.Meant.TheVariants.{Witness, Group}
use Rattle.signed_notes.specs.declared.policy_file.Named.{Named}
use Rattle.signed_notes.specs.declared.policy_file.PolicyFile.{PolicyFile}

-- what a name stands for
abbrev pub meaning_parts : Meant → Meaning
meaning_parts (Witness key) = OneKey (verifier_parts key)
meaning_parts (Group count members) = SomeOf count (spaced_words members.now)

-- a name, and what it stands for
abbrev pub named_parts : Named → NamedParts
named_parts one = record { name = one.name.now; meaning = meaning_parts one.meant }

-- the log, where one is named
abbrev pub log_parts : Option Verifier → Option KeyParts
log_parts None = None
log_parts (Some key) = Some (verifier_parts key)

-- what lines say
abbrev pub lines_parts : Lines → PolicyLines
lines_parts lines = record {
  log = log_parts lines.log;
  names = map named_parts lines.names.items;
  quorum = lines.quorum;
  witnesses = map verifier_parts lines.witnesses.items;
}

-- the policy of a file, which takes signatures of any time
abbrev pub file_parts : PolicyFile → Policy
file_parts file = record {
  log = verifier_parts file.log;
  witnesses = map verifier_parts file.witnesses.items;
  quorum = file.quorum;
  since = 0;
}

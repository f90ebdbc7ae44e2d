-- What of lists of logs is seen.
use Rattle.signed_notes.specs.LogLists.{ListedParts}
use Rattle.signed_notes.specs.Views.{verifier_parts}
use Rattle.signed_notes.specs.declared.log_list.ListedLog.{ListedLog}

-- a log of a list
abbrev pub listed_parts : ListedLog → ListedParts
listed_parts log = record { key = verifier_parts log.key; state = log.state.now; origin = log.origin.now }

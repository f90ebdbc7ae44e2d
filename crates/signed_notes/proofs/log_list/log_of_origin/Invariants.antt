use Rattle.std.proofs.Common.{◌≡◌, map, drop}
use Rattle.signed_notes.specs.LogLists.{log_of_origin}
use Rattle.signed_notes.specs.LogListViews.{listed_parts}
use Rattle.signed_notes.proofs.log_list.log_of_origin.Given as goal

abbrev pub invariant-loop-one : goal.invariant-loop-one
invariant-loop-one l =
    log_of_origin (map listed_parts l.logs) l.origin
    ≡ log_of_origin (map listed_parts (drop l.one-index l.logs)) l.origin

use Rattle.std.proofs.lemmas.List.Elements.{All-contains_itself}
use Rattle.std.specs.Prelude.{Contains}
use Rattle.signed_notes.proofs.Counted.{all-once, has-once, once-apart}
use Rattle.signed_notes.proofs.laws.keys_count_once.Goals as goal

pub returns-clause-apart : goal.returns-clause-apart
returns-clause-apart c = once-apart

pub returns-clause-own : goal.returns-clause-own
returns-clause-own c = λ keys. all-once (Contains keys) keys (All-contains_itself keys)

pub returns-clause-same : goal.returns-clause-same
returns-clause-same c = has-once

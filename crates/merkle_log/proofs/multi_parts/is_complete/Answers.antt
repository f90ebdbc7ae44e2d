use Rattle.std.proofs.Common.{arith}
use Rattle.std.proofs.lemmas.Bool.{ltb-false}
use Rattle.merkle_log.proofs.MultiCounts.{incomplete-by, high-incomplete}
use Rattle.merkle_log.proofs.multi_parts.is_complete.Goals as goal

pub returns-then-level-lt64-clause-other : goal.returns-then-level-lt64-clause-other
returns-then-level-lt64-clause-other c = λ none.
    incomplete-by c.args.size c.args.level c.args.place (ltb-false c.args.place _ none)

pub returns-else-level-lt64-clause-other : goal.returns-else-level-lt64-clause-other
returns-else-level-lt64-clause-other c = λ none.
    high-incomplete c.args.size c.args.level c.args.place (omega arith) (omega arith)

use Rattle.log_file.proofs.Sizes.{size-above, size-inside}
use Rattle.log_store.proofs.log.first_of.Goals as goal

pub returns-then-size-all-clause-refused : goal.returns-then-size-all-clause-refused
returns-then-size-all-clause-refused c = λ file is.
    size-above file c.args.named c.args.all c.unwrap_or-size.result is c.unwrap_or-size.ensures c.if-size-all.true

pub returns-clause-refused : goal.returns-clause-refused
returns-clause-refused c = λ file is.
    size-inside file c.args.named c.args.all c.unwrap_or-size.result is c.unwrap_or-size.ensures c.if-size-all.false

use Rattle.std.proofs.Common.{sym, ◌∙◌}
use Rattle.log_file.proofs.Heads.{head-of}
use Rattle.log_file.proofs.head.head_in.Goals as goal

pub returns : goal.returns
returns c = c.slots_in.ensures
    ∙ sym (head-of c.args.bytes.now c.if-bytes-lt-START.false (sym c.has_title.ensures ∙ c.if-not-has_title.false))

use Rattle.std.proofs.Common.{◌∙◌, ◌+◌, sym, arith}
use Rattle.std.proofs.lemmas.Bool.{le-leb}
use Rattle.ark_paths.proofs.StrictIndexes.{shifted_away, below_any}
use Rattle.ark_paths.proofs.multi_path.strict.is_inside.Goals as goal

pub returns-then-len-ge63 : goal.returns-then-len-ge63
returns-then-len-ge63 c = le-leb 63 c.args.len c.if-len-ge63.true ∙ sym (below_any c.args.index (c.args.len + 1)
    (omega arith) (omega arith))

pub returns-else-len-ge63 : goal.returns-else-len-ge63
returns-else-len-ge63 c = shifted_away c.args.index (c.args.len + 1)

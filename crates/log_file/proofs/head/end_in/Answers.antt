use Rattle.std.proofs.Common.{drop, ◌∙◌, arith}
use Rattle.std.proofs.lemmas.List.{length-drop, take_all}
use Rattle.log_file.proofs.head.end_in.Goals as goal

pub returns : goal.returns
returns c = c.copy_from_slice.ensures.after
    ∙ take_all 12 (drop 20 c.args.bytes.now) (omega (arith, length-drop 20 c.args.bytes.now, c.told-bytes))

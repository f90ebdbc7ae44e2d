use Rattle.std.proofs.Common.{drop, ◌∙◌, arith}
use Rattle.std.proofs.lemmas.List.{length-drop, take_all}
use Rattle.log_store.proofs.sectors.slot_behind_title.Goals as goal

pub returns : goal.returns
returns c = c.copy_from_slice.ensures.after
    ∙ take_all 32 (drop 32 c.args.bytes.now) (omega (arith, length-drop 32 c.args.bytes.now, c.told-bytes))

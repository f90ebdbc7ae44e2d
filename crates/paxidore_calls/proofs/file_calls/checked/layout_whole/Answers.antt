use Rattle.std.proofs.Common.{refl, sym, ◌∙◌, arith}
use Rattle.log_store.proofs.Laying.{part-whole}
use Rattle.paxidore_calls.proofs.file_calls.checked.layout_whole.Goals as goal

pub returns : goal.returns
returns c = c.layout_of_parts.ensures.file c.args.file.now refl
    (c.sector_from-first.ensures ∙ sym (part-whole 0 64 c.args.file.now (omega (arith, c.requires))))
    (c.sector_from-second.ensures ∙ sym (part-whole 4096 64 c.args.file.now (omega (arith, c.requires))))

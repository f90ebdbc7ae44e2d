use Rattle.std.proofs.Common.{replicate, ◌+◌, ◌++◌, ◌∙◌, length, refl, sym}
use Rattle.std.proofs.lemmas.List.{length-append}
use Rattle.sha256_lanes.proofs.LongTextLemmas.{blocks_are}
use Rattle.sha256_lanes.proofs.TextLemmas.{headed}
use Rattle.sha256_lanes.proofs.long_texts.blocks_of.Goals as goal

pub returns : goal.returns
returns c =
    let head = c.args.head.now in
    let tail = c.args.tail.now in
    blocks_are (head ++ tail) _ c.copy_from_slice-3.new.self (length head + length tail) (sym (length-append head tail))
    c.requires.low c.requires.high
    (headed head tail (replicate 128 0) c.copy_from_slice.new.self c.copy_from_slice-2.new.self (length head
    + length tail) refl c.copy_from_slice.ensures.after c.copy_from_slice-2.ensures.after)
    (c.copy_from_slice-3.ensures.after ∙ c.to_be_bytes.ensures)

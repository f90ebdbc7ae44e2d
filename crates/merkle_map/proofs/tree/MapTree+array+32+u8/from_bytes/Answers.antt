use Rattle.merkle_map.specs.Bytes.{itself}
use Rattle.merkle_map.specs.Parts.{shape}
use Rattle.merkle_map.proofs.Reading.{reads-back, bytes-spelled, bytes-stand}
use Rattle.merkle_map.proofs.tree.MapTree+array+32+u8.from_bytes.Goals as goal

pub returns-in_err-part-clause-reads : goal.returns-in_err-part-clause-reads
returns-in_err-part-clause-reads c = reads-back c.args.bytes.now

pub returns-clause-reads : goal.returns-clause-reads
returns-clause-reads c = reads-back c.args.bytes.now

pub invariant_of-result : goal.invariant_of-result
invariant_of-result c = (
  bytes-stand c.args.bytes.now (shape itself c.in_ok-part.part) c.in_ok-part.ensures.sized c.in_ok-part.ensures.answer,
  c.in_ok-part.ensures.digests,
)

pub returns-clause-only : goal.returns-clause-only
returns-clause-only c = bytes-spelled c.args.bytes.now (shape itself c.in_ok-part.part) c.in_ok-part.ensures.answer

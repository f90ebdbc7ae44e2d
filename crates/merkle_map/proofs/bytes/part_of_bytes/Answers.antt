use Rattle.std.proofs.Common.{refl, drop}
use Rattle.merkle_map.specs.Bytes.{itself}
use Rattle.merkle_map.specs.Parts.{shape}
use Rattle.merkle_map.proofs.Reading.{read-fits}
use Rattle.merkle_map.proofs.bytes.part_of_bytes.Goals as goal

pub is_placed-requires : goal.is_placed-requires
is_placed-requires c =
    read-fits 256 0 c.args.bytes.now (shape itself c.in_ok-part.part, drop c.in_ok-part.used c.args.bytes.now) refl
    c.in_ok-part.ensures.answer

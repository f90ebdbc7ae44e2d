use Rattle.std.proofs.Common.{take, length, ap, ◌∙◌}
use Rattle.ark_base.proofs.Numerals.{take-to_le_bytes}
use Rattle.ark_groups.proofs.ff.fp.FpField.write_low_bytes.Goals as goal

pub returns-then-out-le8 : goal.returns-then-out-le8
returns-then-out-le8 g c =
    let len = length c.args.out.now in
    c.copy_from_slice.ensures.after ∙ ap (take len) c.to_le_bytes-bytes.ensures
    ∙ take-to_le_bytes len c.args.self.value c.if-out-le8.true

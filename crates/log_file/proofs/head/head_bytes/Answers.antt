use Rattle.std.proofs.Common.{◌++◌, ap}
use Rattle.std.proofs.lemmas.List.{append-nil}
use Rattle.log_file.specs.LogFile.{slot, title}
use Rattle.log_file.proofs.head.head_bytes.Goals as goal

pub returns : goal.returns
returns c =
    let twice = slot c.args.size c.args.root.now ++ slot c.args.size c.args.root.now in
    rw (
      c.copy_from_slice.ensures.after,
      c.copy_from_slice-2.ensures.after,
      c.twice.ensures,
      c.slot_of.ensures,
    ) (ap (λ l. title ++ l) (append-nil twice))

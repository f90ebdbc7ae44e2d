use Rattle.std.proofs.Common.{◌++◌, ap}
use Rattle.std.proofs.lemmas.List.{append-nil}
use Rattle.log_file.specs.LogFile.{title}
use Rattle.paxidore_calls.proofs.file_calls.checked.head_of_slots.Goals as goal

pub returns : goal.returns
returns c = rw (
  c.copy_from_slice.ensures.after,
  c.copy_from_slice-2.ensures.after,
  c.two_slots.ensures,
) (ap (λ l. title ++ l) (append-nil (c.args.first.now ++ c.args.second.now)))

use Rattle.std.proofs.Common.{◌≡◌, ◌++◌, take}
use Rattle.std.specs.List.{flat_map}
use Rattle.log_checkpoints.specs.Receipts.{digest_line}
use Rattle.log_checkpoints.proofs.receipts.push_path.Given as goal

abbrev pub invariant-digests : goal.invariant-digests
invariant-digests l = l.out.items ≡ l.initial.out.items ++ flat_map digest_line (take l.digest-index l.path)

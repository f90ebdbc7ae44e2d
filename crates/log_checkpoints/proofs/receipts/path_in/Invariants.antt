use Rattle.std.proofs.Common.{◌≡◌, ◌≤◌, ◌-◌, ◌++◌, ℕ, List, length}
use Rattle.std.specs.List.{flat_map, AllByRecursion}
use Rattle.ark_base.specs.Digits.{AreBytes}
use Rattle.ark_paths.specs.Pair.{Digest}
use Rattle.log_checkpoints.specs.Receipts.{digest_line, IsPath}
use Rattle.log_checkpoints.proofs.ReceiptTexts.{lined, IsLeft}
use Rattle.log_checkpoints.proofs.receipts.path_in.Given as goal

abbrev pub invariant-lines : goal.invariant-lines
invariant-lines l = record {
  few : l.count ≤ 65;
  long : length l.path.items ≡ l.count;
  bytes : AllByRecursion (AreBytes 32) l.path.items;
  read : l.fn.bytes ≡ flat_map digest_line l.path.items ++ l.rest;
  left : (path : List Digest) (note : List ℕ) → IsPath path → l.fn.bytes ≡ lined path note
      → IsLeft path note l.rest l.count;
}

abbrev pub decreases-lines : goal.decreases-lines
decreases-lines l = 65 - l.count

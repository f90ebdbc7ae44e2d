use Rattle.std.proofs.Common.{append_assoc}
use Rattle.log_checkpoints.proofs.receipts.write_receipt.Goals as goal

pub returns : goal.returns
returns c =
    let text = c.in_ok-format.ensures.ok in
    let shown = c.as_bytes.ensures.value in
    rw (
      c.in_ok-extend_from_slice-2.ensures.items,
      c.in_ok-push.ensures.items,
      c.in_ok-push_path.ensures,
      c.in_ok-extend_from_slice.ensures.items,
      c.new-out.ensures.items,
      shown,
      text,
    ) (simp append_assoc)

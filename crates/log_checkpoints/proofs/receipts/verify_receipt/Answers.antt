use Rattle.std.proofs.Common.{Ok, ap, option_map, refl, vec_items, ◌∙◌}
use Rattle.log_checkpoints.proofs.OneReading.{shows}
use Rattle.signed_notes.specs.Views.{checkpoint_parts, policy_parts}
use Rattle.log_checkpoints.proofs.receipts.verify_receipt.Goals as goal

pub returns-then-branch-clause-shown : goal.returns-then-branch-clause-shown
returns-then-branch-clause-shown c =
    let read = c.in_ok-index.field-0 in
    let path = c.deref.ensures.value in
    let shown = c.in_ok-is_shown.ensures.shown ∙ ap Ok c.if-branch.true in
    record {
      extra = option_map vec_items read.extra;
      path = read.path.items;
      note = read.note.now;
      stated = checkpoint_parts c.in-Ok.checkpoint;
      read = c.in_ok-index.ensures.read;
      opened = c.in-Ok.ensures.opened;
      size_is = refl;
      root_is = refl;
      accepted = rw path at shown;
    }

pub returns-then-branch-clause-bound : goal.returns-then-branch-clause-bound
returns-then-branch-clause-bound c =
    shows (policy_parts c.args.policy.now) c.args.origin.now c.args.bytes.now c.args.entry.now
    c.in_ok-index.field-0.index c.in-Ok.checkpoint.size c.in-Ok.checkpoint.root
    (returns-then-branch-clause-shown c)

pub returns-clause-none : goal.returns-clause-none
returns-clause-none c none =
    let read = c.in_ok-index.field-0 in
    let path = c.deref.ensures.value in
    let shown = c.in_ok-is_shown.ensures.shown ∙ ap Ok c.if-branch.false in
    record {
      index = read.index;
      extra = option_map vec_items read.extra;
      path = read.path.items;
      note = read.note.now;
      stated = checkpoint_parts c.in-Ok.checkpoint;
      read = c.in_ok-index.ensures.read;
      opened = c.in-Ok.ensures.opened;
      refused = rw path at shown;
    }

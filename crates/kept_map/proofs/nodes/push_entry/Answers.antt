use Rattle.std.proofs.Common.{◌++◌, length, refl, replicate, set, ap, ◌∙◌}
use Rattle.kept_map.proofs.Memory.{halves}
use Rattle.kept_map.proofs.nodes.push_entry.Goals as goal

pub returns-clause-written : goal.returns-clause-written
returns-clause-written c =
    ap (set c.args.entries.now c.args.count.now) (
    halves c.copy_from_slice.new.self (replicate 32 0) c.copy_from_slice-2.new.self c.copy_from_slice.ensures.len refl
    (ap length c.copy_from_slice-2.ensures.after ∙ c.told-value)
    ∙ ap (λ k. k ++ c.copy_from_slice-2.new.self) c.copy_from_slice.ensures.after
    ∙ ap (λ v. c.args.key.now ++ v) c.copy_from_slice-2.ensures.after)

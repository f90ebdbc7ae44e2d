use Rattle.std.proofs.Common.{arith, ap, ◌∙◌}
use Rattle.kept_map.specs.KeptMap.{kept_digest, left_at, right_at}
use Rattle.kept_map.proofs.Memory.{digest-written, numbers-written}
use Rattle.kept_map.proofs.nodes.push_hashed.Goals as goal

pub returns-clause-digest : goal.returns-clause-digest
returns-clause-digest c = ap (λ l. kept_digest l c.args.count.now) c.put_digest.ensures.written
    ∙ digest-written c.push_fork-number.new.forks c.args.count.now c.args.digest.now c.told-digest (omega arith)

pub returns-clause-left : goal.returns-clause-left
returns-clause-left c = ap (λ l. left_at l c.args.count.now) c.put_digest.ensures.written
    ∙ (numbers-written c.push_fork-number.new.forks c.args.count.now c.args.digest.now c.told-digest (omega arith)).0
    ∙ c.push_fork-number.ensures.left

pub returns-clause-right : goal.returns-clause-right
returns-clause-right c = ap (λ l. right_at l c.args.count.now) c.put_digest.ensures.written
    ∙ (numbers-written c.push_fork-number.new.forks c.args.count.now c.args.digest.now c.told-digest (omega arith)).1
    ∙ c.push_fork-number.ensures.right

use Rattle.std.proofs.Common.{◌∙◌, ◌+◌, ◌-◌, length, arith}
use Rattle.std.proofs.lemmas.Slice.{between-put_mid}
use Rattle.paxidore_calls.proofs.file_calls.asked.put_places.Goals as goal

pub returns-clause-put : goal.returns-clause-put
returns-clause-put c =
    between-put_mid c.args.count (c.args.count + length c.args.more.now - c.args.count) c.args.places.now
    c.copy_from_slice.new.self (c.args.count + length c.args.more.now) (omega (arith, c.requires))
    (omega (arith, c.copy_from_slice.ensures.len)) ∙ c.copy_from_slice.ensures.after

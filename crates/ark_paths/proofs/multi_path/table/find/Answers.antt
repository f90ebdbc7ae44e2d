use Rattle.std.proofs.Common.{refl}
use Rattle.ark_paths.proofs.multi_path.table.find.Goals as goal

pub is_same-requires-clause-one : goal.is_same-requires-clause-one
is_same-requires-clause-one g c = c.requires.entries c.args.place c.in_ok-entry.entry.now c.in_ok-entry.ensures

pub returns-then-is_same : goal.returns-then-is_same
returns-then-is_same g c = (c.in_ok-entry.entry.now, c.in_ok-entry.ensures, refl, c.is_same.ensures.0 c.if-is_same.true)

use Rattle.ark_paths.specs.Rows.{digests_of}
use Rattle.ark_merkle.proofs.Puts.{ArePut}
use Rattle.ark_merkle.proofs.tree.update.put_way.Given as goal

abbrev pub invariant-loop-level : goal.invariant-loop-level
invariant-loop-level g l =
    let numbers = g.D.Numbered.numbers in
    ArePut l.initial.rows l.index (digests_of numbers l.initial.way) l.level l.rows (digests_of numbers l.way)

use Rattle.std.proofs.Common.{◌≡◌, ◌+◌, suc, map, Ok, ap, ◌∙◌, arith}
use Rattle.ark_base.specs.declared.error.Error.{Error}
use Rattle.ark_base.specs.Laws.Steps.{done_injective}
use Rattle.ark_paths.specs.Rows.{digests_of}
use Rattle.merkle_log.specs.Stored.{row_at}
use Rattle.merkle_log.proofs.RisenRows.{over-hashed, over-refused}
use Rattle.merkle_log.proofs.rising.row_over.Goals as goal

pub returns-clause-hashed : goal.returns-clause-hashed
returns-clause-hashed g c =
    let rows = row_at c.args.stored.now in
    let e : suc c.args.level ≡ c.args.level + 1 = omega arith in
    over-hashed (g.T.TreeHasher.hashes c.args.hasher.now).pair.upper (digests_of g.D.Numbered.numbers) _
    (rows c.args.level) (rows (c.args.level + 1)) (map g.D.Numbered.numbers c.args.row.now)
    (c.requires.stored.pairs c.args.level ∙ ap (λ l. Ok (rows l)) e)
    (done_injective {E = Error} _ _ (rw (← c.requires.count) c.in_ok-run.ensures))
    c.upper_digests.result (rw (c.deref.ensures.value) at c.upper_digests.ensures)

pub returns-clause-refused : goal.returns-clause-refused
returns-clause-refused g c =
    let rows = row_at c.args.stored.now in
    over-refused (g.T.TreeHasher.hashes c.args.hasher.now).pair.upper (digests_of g.D.Numbered.numbers) _
    (rows c.args.level) (rows (suc c.args.level)) (map g.D.Numbered.numbers c.args.row.now)
    (c.requires.stored.pairs c.args.level)
    (done_injective {E = Error} _ _ (rw (← c.requires.count) c.in_ok-run.ensures))
    c.upper_digests.result (rw (c.deref.ensures.value) at c.upper_digests.ensures)

use Rattle.std.proofs.Common.{◌∙◌, ap, sym, subst}
use Rattle.log_file.specs.LogFile.{IsLogFile}
use Rattle.log_store.specs.Sectors.{layout_in}
use Rattle.paxidore_calls.specs.Plan.{carried}
use Rattle.paxidore_calls.proofs.Layouts.{read-of}
use Rattle.paxidore_calls.proofs.Made.{not-alone}
use Rattle.paxidore_calls.proofs.file_calls.made.is_to_heal.Goals as goal

pub returns-in-Ok-clause-healable : goal.returns-in-Ok-clause-healable
returns-in-Ok-clause-healable g c = λ read size is leaves log told.
    let own = c.args.own.now in
    let seen = read-of own.layout own.disk.steps g.F.Held.file is c.requires.nothing in
    let there = c.in-Ok.ensures.log (read, size) leaves (subst (IsLogFile leaves) (sym seen) log) in
    let clash = sym there ∙ told in absurd cc

pub returns-in-Ok-clause-left : goal.returns-in-Ok-clause-left
returns-in-Ok-clause-left g c = λ read size is told alone.
    let own = c.args.own.now in
    let file = g.F.Held.file in
    let sized = c.in-Ok.ensures.sized (read, size) told in
    not-alone own.layout own.disk.steps file sized.0 is c.requires.nothing
    (c.in-Ok-false.ensures.broken (read, size) (is ∙ ap (λ s. layout_in (carried s file)) (sym c.requires.nothing))
    c.in-Ok-false.field-0-test) sized.1 alone

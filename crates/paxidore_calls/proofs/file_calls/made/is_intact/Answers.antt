use Rattle.std.proofs.Common.{◌≡◌, ◌∙◌, sym}
use Rattle.std.proofs.lemmas.Result.{IfOk-weaker}
use Rattle.log_store.specs.Sectors.{layout_in}
use Rattle.log_store.specs.declared.sectors.Layout.TheVariants.{Apart}
use Rattle.paxidore_calls.proofs.Layouts.{sectored}
use Rattle.paxidore_calls.proofs.Made.{alike-by, alike-intact, intact-alike, unlike-by}
use Rattle.paxidore_calls.proofs.file_calls.made.is_intact.Goals as goal

pub returns-in-Apart-clause-intact : goal.returns-in-Apart-clause-intact
returns-in-Apart-clause-intact g c = λ obeys is.
    let file = g.D.Disk.seen c.args.disk.now in
    let lies : layout_in file ≡ Apart = sym is ∙ c.in-Apart.is in
    IfOk-weaker c.begin_alike.result _ _
    (λ alike said told. alike-intact c.args.layout file c.in-Apart.is (alike-by file alike lies said told))
    (c.begin_alike.ensures obeys (sectored file lies).long)

pub returns-in-Apart-clause-broken : goal.returns-in-Apart-clause-broken
returns-in-Apart-clause-broken g c = λ obeys is.
    let file = g.D.Disk.seen c.args.disk.now in
    let lies : layout_in file ≡ Apart = sym is ∙ c.in-Apart.is in
    IfOk-weaker c.begin_alike.result _ _
    (λ alike said told intact. unlike-by file alike said told (intact-alike c.args.layout file c.in-Apart.is intact))
    (c.begin_alike.ensures obeys (sectored file lies).long)

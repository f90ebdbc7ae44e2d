use Rattle.std.proofs.Common.{◌≡◌, ◌<◌, ◌^◌, true, Ok, ap, sym, subst, ◌∙◌, arith}
use Rattle.ark_base.specs.Laws.Steps.{done_injective}
use Rattle.ark_base.specs.declared.error.Error.{Error}
use Rattle.log_tiles.specs.Audit.{AreTilesOf}
use Rattle.log_tiles.proofs.Audited.{rows-own, roots-own, tiles-found}
use Rattle.log_tiles.proofs.following.audit.Goals as goal

pub returns-then-not-is-clause-honest : goal.returns-then-not-is-clause-honest
returns-then-not-is-clause-honest g c = λ obeys same own _.
    let has = g.T.Tiles.has c.args.disk.now.tiles in
    let here = subst (λ n. AreTilesOf has n c.args.head.now.root) (sym same) own in
    let root : c.args.head.now.root ≡ c.in-Ok.root = done_injective {E = Error} _ _
    (sym here.root_is ∙ c.in-Ok.ensures.root obeys here.leaves (rows-own has c.args.disk.now.size here) here.count) in
    let is = c.is.ensures.1 (omega (arith, c.size.ensures.size), root) in
    let not = c.if-not-is.true in
    cc

pub returns-in-Ok-is_hashed-clause-sound : goal.returns-in-Ok-is_hashed-clause-sound
returns-in-Ok-is_hashed-clause-sound g c = λ obeys is.
    let has = g.T.Tiles.has c.args.disk.now.tiles in
    let size = c.args.disk.now.size in
    let all : c.in-Ok-is_hashed.all ≡ true = cc in
    let same = c.is.ensures.0 c.if-not-is.false in
    let fits : size < 2 ^ 57 = omega (arith, c.size.ensures.size, c.size.ensures.fits) in
    let roots = (c.in-Ok-is_hashed.ensures.roots obeys).0 all in
    let whole = c.in-Ok-is_hashed.ensures.whole obeys (ap Ok all) in
    rw (same.0, same.1, c.size.ensures.size) (tiles-found has size c.in-Ok.root fits roots whole
    (c.in-Ok.ensures.whole obeys) (c.in-Ok.ensures.root obeys))

pub returns-in-Ok-is_hashed-clause-honest : goal.returns-in-Ok-is_hashed-clause-honest
returns-in-Ok-is_hashed-clause-honest g c = λ obeys same own is.
    let has = g.T.Tiles.has c.args.disk.now.tiles in
    let here = subst (λ n. AreTilesOf has n c.args.head.now.root) (sym same) own in
    let all = (c.in-Ok-is_hashed.ensures.roots obeys).1 (λ level _. roots-own has c.args.disk.now.size here level) in
    cc

use Rattle.std.proofs.Common.{◌-◌, ◌<◌, suc, length, map, arith, ◌∙◌, add-one}
use Rattle.std.proofs.lemmas.List.{length-map}
use Rattle.ark_base.proofs.Refusals.{passed_on}
use Rattle.ark_paths.proofs.Climbs.{beside-at, so_far-up, so_far-refused}
use Rattle.ark_paths.proofs.path.climb.Goals as goal

pub returns-in_err-current : goal.returns-in_err-current
returns-in_err-current g c =
    let hash = (g.T.TreeHasher.hashes c.args.hasher.now).pair.upper in
    let ds = map g.D.Numbered.numbers c.args.beside.now in
    let level = c.loop-level.level in
    let lowest = g.D.Numbered.numbers c.args.current in
    let within : level < length ds =
    omega (arith, c.loop-level-test.true, length-map c.args.beside.now g.D.Numbered.numbers) in
    let beside = beside-at g.D.Numbered.numbers c.args.beside.now _ level c.index-beside-beside.result
    c.loop-level-test.true (omega arith) c.index-beside-beside.is in
    let up = so_far-up hash c.args.index ds lowest level _ _ within beside c.loop-level.invariant in
    passed_on _ _ c.from_residual.result c.in_err-current.field-0.0 c.from_residual.ensures.1 c.in_err-current.ensures
    (λ refused. so_far-refused hash c.args.index ds lowest (length ds - suc level) c.in_err-current.field-0.0
    (up ∙ (rw (c.is_bit_set-is_right.ensures, add-one level) at refused)))

pub loop-level-preserved : goal.loop-level-preserved
loop-level-preserved g c =
    let ds = map g.D.Numbered.numbers c.args.beside.now in
    let within : c.loop-level.level < length ds =
    omega (arith, c.loop-level-test.true, length-map c.args.beside.now g.D.Numbered.numbers) in
    let beside = beside-at g.D.Numbered.numbers c.args.beside.now _ c.loop-level.level c.index-beside-beside.result
    c.loop-level-test.true (omega arith) c.index-beside-beside.is in
    rw (add-one c.loop-level.level) (so_far-up (g.T.TreeHasher.hashes c.args.hasher.now).pair.upper c.args.index ds
    (g.D.Numbered.numbers c.args.current) c.loop-level.level _ _ within beside c.loop-level.invariant
    ∙ (rw (c.is_bit_set-is_right.ensures, add-one c.loop-level.level) at c.in_ok-current.ensures))

use Rattle.std.proofs.Common.{append-nil, map, take, refl, sym}
use Rattle.std.proofs.lemmas.List.{take-map}
use Rattle.ark_paths.proofs.Readings.{mapped-more}
use Rattle.ark_paths.proofs.multi_path.places.extend.Goals as goal

pub loop-digest-init : goal.loop-digest-init
loop-digest-init g c = rw (c.truncate.ensures.items, append-nil) (sym (take-map (λ x. g.D.Numbered.numbers x.now)
    c.args.prefix c.args.above.now.items))

pub loop-digest-preserved : goal.loop-digest-preserved
loop-digest-preserved g c =
    let numbers = g.D.Numbered.numbers in
    mapped-more (λ x. numbers x.now) numbers (take c.args.prefix (map (λ x. numbers x.now) c.args.above.now.items))
    c.loop-digest.above.items c.push.new.self.items c.args.suffix.now c.loop-digest.digest-index _
    c.digest-item.result c.loop-digest-test.true c.digest-item.is refl c.in_ok-push.ensures.items
    c.loop-digest.invariant

use Rattle.std.proofs.Common.{◌≡◌, length, subst, arith}
use Rattle.kept_tree.proofs.LevelPlaces.{PlacesUpTo, places-none, places-all}
use Rattle.kept_tree.proofs.many.hash_places.Goals as goal

pub places-init : goal.places-init
places-init g c = places-none g.H.ArrayHash.node_hash c.args.memory.now c.args.places.now

pub returns : goal.returns
returns g c =
    let all : c.places.n ≡ length c.args.places.now = omega (arith, c.places-test.false, c.places.auto.n-end) in
    places-all g.H.ArrayHash.node_hash c.args.memory.now c.args.places.now c.places.memory
    (subst (PlacesUpTo g.H.ArrayHash.node_hash c.args.memory.now c.places.memory c.args.places.now) all
    c.places.invariant) c.requires.apart

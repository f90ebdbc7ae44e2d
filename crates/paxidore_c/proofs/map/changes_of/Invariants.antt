use Rattle.std.proofs.Common.{◌≡◌, ◌++◌, drop, map}
use Rattle.merkle_map.specs.Transition.{change_seen}
use Rattle.paxidore_c.specs.Maps.{changes_of}
use Rattle.paxidore_c.proofs.map.changes_of.Given as goal

abbrev pub invariant-keys : goal.invariant-keys
invariant-keys l = map change_seen l.changes.items ++ changes_of (drop l.i l.keys) (drop l.i l.values)
    ≡ changes_of l.keys l.values

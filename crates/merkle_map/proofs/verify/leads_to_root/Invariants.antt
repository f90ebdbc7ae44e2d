use Rattle.std.proofs.Common.{◌≡◌, ◌≤◌, length, map, take, Ok}
use Rattle.merkle_map.specs.Way.{climb_key}
use Rattle.merkle_map.proofs.verify.leads_to_root.Given as goal

abbrev pub invariant-levels : goal.invariant-levels
invariant-levels g l =
    let h = g.H.MapViews.hashes l.hasher in
    let numbers = g.D.Numbered.numbers in
    record {
      inside : l.level ≤ length l.siblings;
      whole : climb_key h l.key 0 (map numbers l.siblings) (Ok (numbers l.initial.own))
          ≡ climb_key h l.key 0 (map numbers (take l.level l.siblings)) (Ok (numbers l.own));
    }

abbrev pub decreases-levels : goal.decreases-levels
decreases-levels g l = l.level

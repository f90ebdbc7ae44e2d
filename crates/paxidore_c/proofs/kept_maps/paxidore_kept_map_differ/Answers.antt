use Rattle.std.proofs.Common.{MatchOption, refl, subst, sym, ◌∙◌}
use Rattle.merkle_map.specs.Sha256.{sha256_map}
use Rattle.kept_map.specs.Differ.{HaveSameFrom, IsDifference}
use Rattle.paxidore_c.proofs.kept_maps.paxidore_kept_map_differ.Goals as goal

pub returns-in-Ok-Some-clause-found : goal.returns-in-Ok-Some-clause-found
returns-in-Ok-Some-clause-found c = λ xs ys on_old on_new zero.
    let d = subst (λ found. MatchOption found (HaveSameFrom c.args.from.now xs ys) (IsDifference c.args.from.now xs ys))
    c.in-Ok-Some.field-0-is (c.in-Ok-Some.ensures.differ sha256_map xs ys on_old on_new) in
    record {
      first = d.first;
      older = d.older ∙ sym c.put_value.ensures;
      newer = d.newer ∙ sym c.put_value-in-Ok-Some.ensures;
    }

pub returns-in-Ok-None-clause-none : goal.returns-in-Ok-None-clause-none
returns-in-Ok-None-clause-none c = λ xs ys on_old on_new other. (
  refl,
  subst (λ found. MatchOption found (HaveSameFrom c.args.from.now xs ys) (IsDifference c.args.from.now xs ys))
      c.in-Ok-None.field-0-is (c.in-Ok-None.ensures.differ sha256_map xs ys on_old on_new),
)

pub returns-in-Err-clause-none : goal.returns-in-Err-clause-none
returns-in-Err-clause-none c = λ xs ys on_old on_new other.
    let e = c.in-Err.ensures.found sha256_map xs ys on_old on_new in absurd cc

use Rattle.std.proofs.Common.{MatchOption, refl, subst}
use Rattle.merkle_map.specs.Order.{HasNoneFrom, IsNextEntry}
use Rattle.merkle_map.specs.Changes.{entry_of}
use Rattle.merkle_map.specs.Sha256.{sha256_map}
use Rattle.paxidore_c.proofs.kept_maps.paxidore_kept_map_next.Goals as goal

pub returns-in-Ok-Some-clause-found : goal.returns-in-Ok-Some-clause-found
returns-in-Ok-Some-clause-found c = λ xs keeps zero.
    subst (λ found. MatchOption found (HasNoneFrom c.args.from.now xs)
    (λ pair. IsNextEntry c.args.from.now xs (entry_of pair.0 pair.1))) c.in-Ok-Some.field-0-is
    (c.in-Ok-Some.ensures.next sha256_map xs keeps)

pub returns-in-Ok-None-clause-none : goal.returns-in-Ok-None-clause-none
returns-in-Ok-None-clause-none c = λ xs keeps other. (
  refl,
  subst (λ found. MatchOption found (HasNoneFrom c.args.from.now xs)
      (λ pair. IsNextEntry c.args.from.now xs (entry_of pair.0 pair.1))) c.in-Ok-None.field-0-is
      (c.in-Ok-None.ensures.next sha256_map xs keeps),
)

pub returns-in-Err-clause-none : goal.returns-in-Err-clause-none
returns-in-Err-clause-none c = λ xs keeps other.
    let e = c.in-Err.ensures.found sha256_map xs keeps in absurd cc

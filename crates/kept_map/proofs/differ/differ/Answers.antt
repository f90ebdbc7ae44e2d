use Rattle.std.proofs.Common.{◌≡◌, [], true, false, refl, sym, subst}
use Rattle.merkle_map.specs.Map.{value_at}
use Rattle.kept_map.specs.Differ.{IsFirstApart}
use Rattle.kept_map.specs.declared.head.MapFault.{MapFault}
use Rattle.ark_base.specs.Laws.Steps.{done_injective}
use Rattle.kept_map.proofs.Differing.{apart-under, counts-both, same-under, under-both}
use Rattle.kept_map.proofs.differ.differ.Goals as goal

pub returns-in_err-found-clause-found : goal.returns-in_err-found-clause-found
returns-in_err-found-clause-found c = λ h xs ys on_older on_newer.
    let entries = c.args.entries.now in
    let forks = c.args.forks.now in
    let older = c.args.older.now in
    let newer = c.args.newer.now in
    let no : false ≡ true = c.in_err-found.ensures.found h [] on_older.tree on_newer.tree
    (under-both h entries forks older newer xs ys on_older on_newer) refl
    (counts-both h entries forks older newer xs ys on_older on_newer) in
    absurd cc

pub returns-in_err-get-in-Some-clause-found : goal.returns-in_err-get-in-Some-clause-found
returns-in_err-get-in-Some-clause-found c = λ h xs ys on_older on_newer.
    let no = c.in_err-get-in-Some.ensures.found h xs on_older in absurd cc

pub returns-in_err-get-in-Some-2-clause-found : goal.returns-in_err-get-in-Some-2-clause-found
returns-in_err-get-in-Some-2-clause-found c = λ h xs ys on_older on_newer.
    let no = c.in_err-get-in-Some-2.ensures.found h ys on_newer in absurd cc

pub returns-in-None-clause-differ : goal.returns-in-None-clause-differ
returns-in-None-clause-differ c = λ h xs ys on_older on_newer.
    same-under h c.args.entries.now c.args.forks.now c.args.older.now c.args.newer.now xs ys on_older on_newer
    c.args.from.now c.in_ok-found.found (c.in_ok-found.ensures.next refl) c.in-None.is

pub returns-in_ok-get-in-Some-2-clause-differ : goal.returns-in_ok-get-in-Some-2-clause-differ
returns-in_ok-get-in-Some-2-clause-differ c = λ h xs ys on_older on_newer.
    let key = c.key_at-key.result in
    record {
      first = subst (IsFirstApart c.args.from.now xs ys) (sym c.key_at-key.ensures)
          (apart-under h c.args.entries.now c.args.forks.now c.args.older.now c.args.newer.now xs ys on_older on_newer
          c.args.from.now c.in_ok-found.found (c.in_ok-found.ensures.next refl) c.in-Some.place c.in-Some.is);
      older = sym (done_injective {E = MapFault} c.in_ok-get-in-Some.field-0 (value_at key xs)
          (c.in_ok-get-in-Some.ensures.found h xs on_older));
      newer = sym (done_injective {E = MapFault} c.in_ok-get-in-Some-2.field-0 (value_at key ys)
          (c.in_ok-get-in-Some-2.ensures.found h ys on_newer));
    }

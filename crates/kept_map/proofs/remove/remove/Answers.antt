use Rattle.std.proofs.Common.{◌≡◌, List, take, [], refl, arith, sym, ◌∙◌}
use Rattle.merkle_map.specs.Map.{Entry, MapHashes, value_at, without}
use Rattle.kept_map.specs.KeptMap.{KeepsMap, fork_count}
use Rattle.kept_map.specs.Lying.{LiesOn}
use Rattle.kept_map.proofs.Heads.{made-kept, older-kept, top-on}
use Rattle.kept_map.proofs.Stored.{absent-same, removed-has}
use Rattle.kept_map.proofs.remove.remove.Goals.{In_ok-get}
use Rattle.kept_map.proofs.remove.remove.Goals as goal

-- what the map has at the key
has : (c : In_ok-get) (h : MapHashes) (xs : List Entry)
    → KeepsMap h c.args.entries.now c.args.forks.now c.args.head.now xs
    → c.in_ok-get.field-0 ≡ value_at c.args.key.now xs
has c h xs keeps = let found = c.in_ok-get.ensures.found h xs keeps in cc

-- the map's tree
old_on : (c : In_ok-get) (h : MapHashes) (xs : List Entry)
    (keeps : KeepsMap h c.args.entries.now c.args.forks.now c.args.head.now xs)
    → LiesOn h (take c.args.head.now.entries c.args.entries.now) c.args.forks.now c.args.head.now.forks
    c.args.head.now.top 0 c.args.key.now keeps.tree
old_on c h xs keeps = top-on h c.args.entries.now (take c.args.head.now.entries c.args.entries.now) c.args.forks.now
    c.args.head.now xs c.args.key.now keeps (λ bound number tree lies. lies)

pub returns-in_err-get-clause-sound : goal.returns-in_err-get-clause-sound
returns-in_err-get-clause-sound c = λ h xs keeps is.
    let found = c.in_err-get.ensures.found h xs keeps in absurd cc

pub returns-in_err-top-in-Some-clause-sound : goal.returns-in_err-top-in-Some-clause-sound
returns-in_err-top-in-Some-clause-sound c = λ h xs keeps is.
    c.in_err-top-in-Some.ensures.sound h keeps.tree
    (old_on (goal.at.returns-in_err-top-in-Some-clause-sound c).In_ok-get h xs keeps)

pub returns-in_err-top-in-Some-clause-older : goal.returns-in_err-top-in-Some-clause-older
returns-in_err-top-in-Some-clause-older c = λ h xs older before keeps.
    older-kept h c.args.entries.now c.args.entries.now c.args.forks.now c.remove_at.new.forks c.args.head.now refl
    c.remove_at.auto.forks refl c.remove_at.ensures.before older xs before keeps

pub returns-in_ok-top-in-Some-clause-older : goal.returns-in_ok-top-in-Some-clause-older
returns-in_ok-top-in-Some-clause-older c = λ h xs older before keeps.
    older-kept h c.args.entries.now c.args.entries.now c.args.forks.now c.remove_at.new.forks c.args.head.now refl
    c.remove_at.auto.forks refl c.remove_at.ensures.before older xs before keeps

pub returns-in_ok-top-in-Some-clause-absent : goal.returns-in_ok-top-in-Some-clause-absent
returns-in_ok-top-in-Some-clause-absent c = λ h xs keeps none.
    let there = has (goal.at.returns-in_ok-top-in-Some-clause-absent c).In_ok-get h xs keeps in
    let is = c.in-Some.is in absurd cc

pub returns-in-None-clause-removed : goal.returns-in-None-clause-removed
returns-in-None-clause-removed c = λ h xs keeps. record {
  own = xs;
  same = absent-same c.args.key.now xs (sym (has (goal.at.returns-in-None-clause-removed c).In_ok-get h xs keeps)
      ∙ c.in-None.is);
  keeps = keeps;
}

pub returns-in_ok-top-in-Some-clause-removed : goal.returns-in_ok-top-in-Some-clause-removed
returns-in_ok-top-in-Some-clause-removed c = λ h xs keeps.
    let in_c = (goal.at.returns-in_ok-top-in-Some-clause-removed c).In_ok-get in
    let made = c.in_ok-top-in-Some.ensures.made h [] keeps.tree (old_on in_c h xs keeps) in
    let there = sym (has in_c h xs keeps) ∙ c.in-Some.is in
    made-kept h c.args.entries.now c.remove_at.new.forks (record {
      top = c.in_ok-top-in-Some.top;
      entries = c.args.head.now.entries;
      forks = c.remove_at.new.count;
    }) (omega arith) (omega arith) _ c.args.head.now.forks (fork_count keeps.tree) keeps.count
    (without c.args.key.now xs) made
    (removed-has c.args.key.now xs keeps.tree made.tree keeps.is c.in-Some.field-0 there made.is)

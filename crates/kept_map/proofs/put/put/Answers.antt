use Rattle.std.proofs.Common.{◌≡◌, ℕ, ◌+◌, List, ◌++◌, take, arith, ap, sym, ◌∙◌, subst}
use Rattle.std.proofs.lemmas.List.{take-set}
use Rattle.merkle_map.specs.Changes.{entry_of}
use Rattle.merkle_map.specs.Map.{Entry, MapHashes, put as put_in}
use Rattle.merkle_map.specs.Tree.{IsKey}
use Rattle.kept_map.specs.KeptMap.{KeepsMap, LaidAt, entry_in, fork_count}
use Rattle.kept_map.specs.Lying.{LiesOn}
use Rattle.kept_map.proofs.Heads.{entry-written, lies-with_entry, made-kept, older-kept, top-on, with_entry}
use Rattle.kept_map.proofs.Stored.{HasOwn, put-has}
use Rattle.kept_map.proofs.put.put.Goals.{After-push_entry}
use Rattle.kept_map.proofs.put.put.Goals as goal

-- the entries when the new one is written
abbrev now : (c : After-push_entry) → List (List ℕ)
now c = take c.push_entry.new.count c.push_entry.new.entries

is_now : (c : After-push_entry)
    → now c ≡ with_entry c.args.entries.now c.args.head.now.entries c.args.key.now c.args.value.now c.told-key
    (omega arith)
is_now c = ap (λ n. take n c.push_entry.new.entries) c.push_entry.ensures.count
    ∙ ap (take (c.args.head.now.entries + 1)) c.push_entry.ensures.written

own_now : (c : After-push_entry)
    → entry_in (now c) c.args.head.now.entries ≡ entry_of c.args.key.now c.args.value.now
own_now c = ap (λ l. entry_in l c.args.head.now.entries) (is_now c)
    ∙ entry-written c.args.entries.now c.args.head.now.entries c.args.key.now c.args.value.now c.told-key (omega arith)

-- the old tree then
old_now : (c : After-push_entry) (h : MapHashes) (xs : List Entry)
    (keeps : KeepsMap h c.args.entries.now c.args.forks.now c.args.head.now xs)
    → LiesOn h (now c) c.args.forks.now c.args.head.now.forks c.args.head.now.top 0
    (entry_in (now c) c.args.head.now.entries).key keeps.tree
old_now c h xs keeps = top-on h c.args.entries.now (now c) c.args.forks.now c.args.head.now xs
    (entry_in (now c) c.args.head.now.entries).key keeps (λ bound number tree lies.
    subst (λ l. LaidAt h l c.args.forks.now bound number tree) (sym (is_now c))
    (lies-with_entry c.args.entries.now c.args.head.now.entries c.args.key.now c.args.value.now c.told-key (omega arith)
    h c.args.forks.now bound number tree lies))

front_now : (c : After-push_entry)
    → take c.args.head.now.entries c.push_entry.new.entries ≡ take c.args.head.now.entries c.args.entries.now
front_now c = ap (take c.args.head.now.entries) c.push_entry.ensures.written
    ∙ take-set c.args.entries.now c.args.head.now.entries (c.args.key.now ++ c.args.value.now)

pub returns-in_err-top-clause-sound : goal.returns-in_err-top-clause-sound
returns-in_err-top-clause-sound c = λ h xs keeps is.
    c.in_err-top.ensures.sound h keeps.tree
    (old_now (goal.at.returns-in_err-top-clause-sound c).After-push_entry h xs keeps)

pub returns-in_err-top-clause-older : goal.returns-in_err-top-clause-older
returns-in_err-top-clause-older c = λ h xs older before keeps.
    older-kept h c.args.entries.now c.push_entry.new.entries c.args.forks.now c.put_at.new.forks c.args.head.now
    c.push_entry.auto.entries c.put_at.auto.forks
    (front_now (goal.at.returns-in_err-top-clause-older c).After-push_entry) c.put_at.ensures.before older xs before
    keeps

pub returns-clause-older : goal.returns-clause-older
returns-clause-older c = λ h xs older before keeps.
    older-kept h c.args.entries.now c.push_entry.new.entries c.args.forks.now c.put_at.new.forks c.args.head.now
    c.push_entry.auto.entries c.put_at.auto.forks (front_now (goal.at.returns-clause-older c).After-push_entry)
    c.put_at.ensures.before older xs before keeps

pub returns-clause-put : goal.returns-clause-put
returns-clause-put c = λ h xs keeps.
    let in_c = (goal.at.returns-clause-put c).After-push_entry in
    let made = c.in_ok-top.ensures.made h keeps.tree (old_now in_c h xs keeps) in
    let own_key : IsKey c.args.key.now = (c.told-key, c.fits-key) in
    let own = entry_in (now in_c) c.args.head.now.entries in
    let has = put-has own (subst (λ e. IsKey e.key) (sym (own_now in_c)) own_key) xs keeps.tree made.tree keeps.is
    made.is in
    made-kept h c.push_entry.new.entries c.put_at.new.forks (record {
      top = c.in_ok-top.top;
      entries = c.push_entry.new.count;
      forks = c.put_at.new.count;
    }) (omega arith) (omega arith) _ c.args.head.now.forks (fork_count keeps.tree) keeps.count
    (put_in c.args.key.now c.args.value.now xs) made
    (subst (λ e. HasOwn (put_in e.key e.value xs) made.tree) (own_now in_c) has)

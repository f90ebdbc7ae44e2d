use Rattle.std.proofs.Common.{◌≤◌, ◌∙◌, ⊎_elim, length, take, ap, sym, subst, arith}
use Rattle.std.proofs.lemmas.Result.{IfOk-weaker}
use Rattle.log_file.specs.LogFile.{IsLogFile}
use Rattle.log_store.specs.Healing.{IsNotOlder}
use Rattle.log_store.specs.Sectors.{IsSpread}
use Rattle.paxidore_calls.specs.Layouts.{SettlesApart}
use Rattle.paxidore_calls.specs.Plan.{carried}
use Rattle.paxidore_calls.proofs.Layouts.{read-of}
use Rattle.paxidore_calls.proofs.Made.{apart-start, healed-settles, healed-stopped, reads-itself, spread-long}
use Rattle.paxidore_calls.proofs.file_calls.made.healed_of.Goals as goal

-- ---- the first sector has the log

pub returns-then-len-eq1-clause-healed : goal.returns-then-len-eq1-clause-healed
returns-then-len-eq1-clause-healed g c = λ read size is leaves log newer.
    let file = g.F.Held.file in
    let own = c.args.own in
    let none = c.requires.nothing in
    let seen = read-of own.layout own.disk.steps file is none in
    let spread = subst IsSpread is c.requires.spread in
    let older = subst IsNotOlder (sym (ap (λ s. carried s file) none)) newer in
    let there = subst (IsLogFile leaves) (sym seen) log in
    let settles = healed-settles leaves c.heal.new.own.disk.steps c.into_steps-plan.result.items file spread
    c.into_steps-plan.ensures (c.in-Ok.ensures.healed (read, size) leaves c.requires.spread older there) in
    let long = spread-long file spread in
    let whole : 8192 ≤ length (carried own.disk.steps file) =
    subst (λ s. 8192 ≤ length (carried s file)) (sym none) long in
    let start = c.in_default.ensures (read, size) (omega (arith, whole)) ∙ ap (λ s. take 64 (carried s file)) none in
    IfOk-weaker c.with_start.result _ _
    (λ steps same. subst (SettlesApart leaves) (sym (same file (omega (arith, long)) start)) settles)
    c.with_start.ensures.same

pub returns-then-len-eq1-clause-stopped : goal.returns-then-len-eq1-clause-stopped
returns-then-len-eq1-clause-stopped g c = λ read size is leaves log newer.
    let file = g.F.Held.file in
    let own = c.args.own in
    let none = c.requires.nothing in
    let seen = read-of own.layout own.disk.steps file is none in
    let spread = subst IsSpread is c.requires.spread in
    let older = subst IsNotOlder (sym (ap (λ s. carried s file) none)) newer in
    let there = subst (IsLogFile leaves) (sym seen) log in
    let long = spread-long file spread in
    let whole : 8192 ≤ length (carried own.disk.steps file) =
    subst (λ s. 8192 ≤ length (carried s file)) (sym none) long in
    let start = c.in_default.ensures (read, size) (omega (arith, whole)) ∙ ap (λ s. take 64 (carried s file)) none in
    let run = c.heal.ensures.any_moment (read, size) leaves c.requires.spread older there
    (apart-start own.disk.steps own.disk.done file (length leaves) none) in
    IfOk-weaker c.with_start.result _ _
    (λ steps within left stopped. ⊎_elim (λ same. reads-itself leaves file left same log)
    (λ rest. healed-stopped leaves own.disk.steps c.heal.new.own.disk.steps
    c.into_steps-plan.result.items own.disk.done file left none c.requires.start c.into_steps-plan.ensures log run.each
    rest)
    (within file left (omega (arith, long)) start stopped))
    c.with_start.ensures.stopped

-- ---- both are written

pub returns-else-len-eq1-clause-healed : goal.returns-else-len-eq1-clause-healed
returns-else-len-eq1-clause-healed g c = λ read size is leaves log newer.
    let file = g.F.Held.file in
    let own = c.args.own in
    let none = c.requires.nothing in
    let seen = read-of own.layout own.disk.steps file is none in
    let spread = subst IsSpread is c.requires.spread in
    let older = subst IsNotOlder (sym (ap (λ s. carried s file) none)) newer in
    let there = subst (IsLogFile leaves) (sym seen) log in
    let settles = healed-settles leaves c.heal.new.own.disk.steps c.into_steps-plan.result.items file spread
    c.into_steps-plan.ensures (c.in-Ok.ensures.healed (read, size) leaves c.requires.spread older there) in
    IfOk-weaker c.with_sync.result _ _ (λ steps same. subst (SettlesApart leaves) (sym (same file)) settles)
    c.with_sync.ensures.same

pub returns-else-len-eq1-clause-stopped : goal.returns-else-len-eq1-clause-stopped
returns-else-len-eq1-clause-stopped g c = λ read size is leaves log newer.
    let file = g.F.Held.file in
    let own = c.args.own in
    let none = c.requires.nothing in
    let seen = read-of own.layout own.disk.steps file is none in
    let spread = subst IsSpread is c.requires.spread in
    let older = subst IsNotOlder (sym (ap (λ s. carried s file) none)) newer in
    let there = subst (IsLogFile leaves) (sym seen) log in
    let run = c.heal.ensures.any_moment (read, size) leaves c.requires.spread older there
    (apart-start own.disk.steps own.disk.done file (length leaves) none) in
    IfOk-weaker c.with_sync.result _ _
    (λ steps within left stopped. healed-stopped leaves own.disk.steps c.heal.new.own.disk.steps
    c.into_steps-plan.result.items own.disk.done file left none c.requires.start c.into_steps-plan.ensures log run.each
    (within file left stopped))
    c.with_sync.ensures.stopped

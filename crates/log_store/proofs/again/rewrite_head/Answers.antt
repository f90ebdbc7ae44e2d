use Rattle.std.proofs.Common.{◌≡◌, ◌≤◌, ◌*◌, ℕ, List, length, take, inl, refl, ap, sym, ◌∙◌, subst, arith}
use Rattle.std.proofs.lemmas.List.{length-take-le}
use Rattle.merkle_log.specs.Stored.{stored_count}
use Rattle.merkle_log.proofs.Givens.{known_if_ok}
use Rattle.log_file.specs.LogFile.{file_end, written}
use Rattle.log_file.proofs.Files.{known}
use Rattle.log_file.proofs.Pieces.{behind-written, piece-written}
use Rattle.log_store.specs.Disk.{After, LeavesMore, LeavesOnly, Torn}
use Rattle.log_store.specs.Store.{BeginsAs, HasDigestsOf, TornInTurn}
use Rattle.log_store.proofs.Mixing.{digests-cut, digests-then}
use Rattle.log_store.proofs.Runs.{at_end, begun, goes_on, weaker}
use Rattle.log_store.proofs.Stages.{begins-of}
use Rattle.log_store.proofs.Writes.{long-as, piece-of, torn-itself, torn-not}
use Rattle.log_store.proofs.again.rewrite_head.Goals.{Start}
use Rattle.log_store.proofs.again.rewrite_head.Goals as goal

-- the head
part-long : (file part : List ℕ) → 96 ≤ length file → part ≡ take 96 file → length part ≡ 96
part-long file part long is = ap length is ∙ length-take-le 96 file long

-- What is left once the head was written is the log.
written-begins : (size : ℕ) (file part before left : List ℕ) → 96 ≤ length file → part ≡ take 96 file
    → HasDigestsOf size file before → left ≡ written before 0 part → BeginsAs size file left
written-begins size file part before left long is digests left-is =
    let count = part-long file part long is in
    subst (BeginsAs size file) (sym left-is) (begins-of size file (written before 0 part)
    (piece-written before part 0 96 count (omega arith) ∙ is)
    (ap (take (32 * stored_count size)) (behind-written before part 0 96 (omega (arith, count)) (omega arith))
    ∙ digests))

-- A head that is mixed with itself is the same.
unmoved : (size : ℕ) (file before left : List ℕ) → 96 ≤ length file → BeginsAs size file before
    → Torn 0 (take 96 file) before left → BeginsAs size file left
unmoved size file before left long begins torn =
    let part = take 96 file in
    let count = part-long file part long refl in
    let own : part ≡ take 96 before = sym (piece-of (file_end size) 0 96 before file (omega arith) begins) in
    let inside : 96 ≤ length before = long-as 96 file before long (sym own) in
    subst (BeginsAs size file) (sym (torn-itself 0 96 part before left (omega (arith, inside)) count own torn)) begins

-- Before the first call, and behind one that changes nothing.
abbrev Mixes : (g : _) → Start g → List ℕ → Type 0
Mixes g a left =
    After (Torn 0 (take 96 (g.D.Disk.seen a.args.disk.now))) (g.D.Disk.may_leave a.args.disk.now) left

still : (g : _) (a : Start g)
    → LeavesOnly g.D.Disk.moment g.D.Disk.left_since a.args.disk.now a.args.disk.now (Mixes g a)
still g a =
    let part = take 96 (g.D.Disk.seen a.args.disk.now) in
    begun g.D.Disk a.args.disk.now (Mixes g a)
    (λ left since. (left, g.met.D.Disk.only_now a.args.disk.now left since, torn-not 0 part left left refl))

pub returns-in_err-count-clause-any_moment : goal.returns-in_err-count-clause-any_moment
returns-in_err-count-clause-any_moment g c = λ obeys. still g (goal.at.returns-in_err-count-clause-any_moment g c).Start

pub returns-in_err-read_at-clause-any_moment : goal.returns-in_err-read_at-clause-any_moment
returns-in_err-read_at-clause-any_moment g c = λ obeys. still g (goal.at.returns-in_err-read_at-clause-any_moment g
    c).Start

pub returns-then-count-lt-START-clause-any_moment : goal.returns-then-count-lt-START-clause-any_moment
returns-then-count-lt-START-clause-any_moment g c = λ obeys.
    let part = take 96 (g.D.Disk.seen c.args.disk.now) in
    goes_on g.D.Disk c.args.disk.now c.args.disk.now c.sync.new.self (Mixes g
    (goal.at.returns-then-count-lt-START-clause-any_moment g c).Start) (still g
    (goal.at.returns-then-count-lt-START-clause-any_moment g c).Start)
    (c.sync.ensures.time obeys) (λ left now. (
      left,
      c.sync.ensures.crash obeys left now,
      torn-not 0 part left left
          refl,
    ))

pub returns-clause-any_moment : goal.returns-clause-any_moment
returns-clause-any_moment g c = λ obeys.
    let early = c.write_head.ensures.obeys obeys in
    let file = g.D.Disk.seen c.args.disk.now in
    let long : 96 ≤ length file = omega (arith, c.in_ok-count.ensures early, c.if-count-lt-START.false) in
    let is = c.in_ok-read_at.ensures early (omega (arith, long)) in
    subst (λ part. LeavesOnly g.D.Disk.moment g.D.Disk.left_since c.args.disk.now c.write_head.new.disk
    (After (Torn 0 part) (g.D.Disk.may_leave c.args.disk.now))) is
    (c.write_head.ensures.any_moment obeys)

-- The same, one slot after the other.
abbrev Turns : (g : _) → Start g → List ℕ → Type 0
Turns g a left =
    After (TornInTurn (take 96 (g.D.Disk.seen a.args.disk.now))) (g.D.Disk.may_leave a.args.disk.now) left

still-turn : (g : _) (a : Start g)
    → LeavesOnly g.D.Disk.moment g.D.Disk.left_since a.args.disk.now a.args.disk.now (Turns g a)
still-turn g a =
    let part = take 64 (take 96 (g.D.Disk.seen a.args.disk.now)) in
    begun g.D.Disk a.args.disk.now (Turns g a)
    (λ left since. (left, g.met.D.Disk.only_now a.args.disk.now left since, inl (torn-not 0 part left left refl)))

pub returns-in_err-count-clause-in_turn : goal.returns-in_err-count-clause-in_turn
returns-in_err-count-clause-in_turn g c = λ obeys. still-turn g (goal.at.returns-in_err-count-clause-in_turn g c).Start

pub returns-in_err-read_at-clause-in_turn : goal.returns-in_err-read_at-clause-in_turn
returns-in_err-read_at-clause-in_turn g c = λ obeys. still-turn g (goal.at.returns-in_err-read_at-clause-in_turn g
    c).Start

pub returns-then-count-lt-START-clause-in_turn : goal.returns-then-count-lt-START-clause-in_turn
returns-then-count-lt-START-clause-in_turn g c = λ obeys.
    let a = (goal.at.returns-then-count-lt-START-clause-in_turn g c).Start in
    let part = take 64 (take 96 (g.D.Disk.seen c.args.disk.now)) in
    goes_on g.D.Disk c.args.disk.now c.args.disk.now c.sync.new.self (Turns g a) (still-turn g a)
    (c.sync.ensures.time obeys)
    (λ left now. (left, c.sync.ensures.crash obeys left now, inl (torn-not 0 part left left refl)))

pub returns-clause-in_turn : goal.returns-clause-in_turn
returns-clause-in_turn g c = λ obeys.
    let early = c.write_head.ensures.obeys obeys in
    let file = g.D.Disk.seen c.args.disk.now in
    let long : 96 ≤ length file = omega (arith, c.in_ok-count.ensures early, c.if-count-lt-START.false) in
    let is = c.in_ok-read_at.ensures early (omega (arith, long)) in
    subst (λ part. LeavesOnly g.D.Disk.moment g.D.Disk.left_since c.args.disk.now c.write_head.new.disk
    (After (TornInTurn part) (g.D.Disk.may_leave c.args.disk.now))) is (c.write_head.ensures.in_turn obeys)

pub returns-clause-same : goal.returns-clause-same
returns-clause-same g c = λ obeys.
    let early = c.write_head.ensures.obeys obeys in
    let file = g.D.Disk.seen c.args.disk.now in
    let long : 96 ≤ length file = omega (arith, c.in_ok-count.ensures early, c.if-count-lt-START.false) in
    let is = c.in_ok-read_at.ensures early (omega (arith, long)) in
    torn-itself 0 96 c.read_at.new.into file (g.D.Disk.seen c.write_head.new.disk) (omega (arith, long))
    (part-long file c.read_at.new.into long is) is (c.write_head.ensures.torn obeys)

pub returns-then-count-lt-START-clause-durable : goal.returns-then-count-lt-START-clause-durable
returns-then-count-lt-START-clause-durable g c = λ obeys leaves log kept.
    let long = (known leaves (g.D.Disk.seen c.args.disk.now) log).head.long in
    absurd (omega (arith, c.in_ok-count.ensures (c.sync.ensures.obeys obeys), c.if-count-lt-START.true, long))

pub returns-clause-durable : goal.returns-clause-durable
returns-clause-durable g c = λ obeys leaves log kept.
    let early = c.write_head.ensures.obeys obeys in
    let file = g.D.Disk.seen c.args.disk.now in
    let part = c.read_at.new.into in
    let long = (known leaves file log).head.long in
    let is = c.in_ok-read_at.ensures early (omega (arith, long)) in
    known_if_ok c.write_head.result (λ (follows : LeavesMore (λ before left. left ≡ written before 0 part)
    (g.D.Disk.may_leave c.args.disk.now) (g.D.Disk.may_leave c.write_head.new.disk)). λ left now.
    let from = follows left now in
    subst (λ f. BeginsAs (length leaves) f left) (sym (returns-clause-same g c obeys))
    (written-begins (length leaves) file part from.0 left long is (kept from.0 from.1) from.2))
    (c.write_head.ensures.durable obeys)

-- what a crash leaves of the digests
digests-mixed : (size : ℕ) (file before left : List ℕ) → 96 ≤ length file → HasDigestsOf size file before
    → Torn 0 (take 96 file) before left → HasDigestsOf size file left
digests-mixed size file before left long digests torn =
    let part = take 96 file in
    digests-then size file before left digests (digests-cut size 0 (length part) before left
    (omega (arith, part-long file part long refl)) torn.cut)

pub returns-then-count-lt-START-clause-kept : goal.returns-then-count-lt-START-clause-kept
returns-then-count-lt-START-clause-kept g c = λ obeys size kept left now.
    subst (λ f. HasDigestsOf size f left) (sym (c.sync.ensures.same obeys))
    (kept left (c.sync.ensures.crash obeys left now))

pub returns-clause-kept : goal.returns-clause-kept
returns-clause-kept g c = λ obeys size kept left now.
    let early = c.write_head.ensures.obeys obeys in
    let file = g.D.Disk.seen c.args.disk.now in
    let long : 96 ≤ length file = omega (arith, c.in_ok-count.ensures early, c.if-count-lt-START.false) in
    let from = at_end g.D.Disk c.args.disk.now c.write_head.new.disk
    (Mixes g (goal.at.returns-clause-kept g c).Start)
    (returns-clause-any_moment g c obeys) (g.met.D.Disk.counts_now c.write_head.new.disk) left now in
    subst (λ f. HasDigestsOf size f left) (sym (returns-clause-same g c obeys))
    (digests-mixed size file from.0 left long (kept from.0 from.1) from.2)

-- where the log is durable
harmless : (g : _) (a : Start g) (new : _) (size : ℕ) → 96 ≤ length (g.D.Disk.seen a.args.disk.now)
    → ((left : List ℕ) → g.D.Disk.may_leave a.args.disk.now left → BeginsAs size (g.D.Disk.seen a.args.disk.now) left)
    → LeavesOnly g.D.Disk.moment g.D.Disk.left_since a.args.disk.now new (Mixes g a)
    → LeavesOnly g.D.Disk.moment g.D.Disk.left_since a.args.disk.now new (BeginsAs size (g.D.Disk.seen a.args.disk.now))
harmless g a new size long begins run =
    let file = g.D.Disk.seen a.args.disk.now in
    weaker g.D.Disk a.args.disk.now new (BeginsAs size file) (Mixes g a) run
    (λ left from. unmoved size file from.0 left long (begins from.0 from.1) from.2)

pub returns-in_err-count-clause-harmless : goal.returns-in_err-count-clause-harmless
returns-in_err-count-clause-harmless g c = λ obeys leaves log begins.
    harmless g (goal.at.returns-in_err-count-clause-harmless g c).Start c.args.disk.now (length leaves)
    (known leaves (g.D.Disk.seen c.args.disk.now) log).head.long begins
    (returns-in_err-count-clause-any_moment g c obeys)

pub returns-in_err-read_at-clause-harmless : goal.returns-in_err-read_at-clause-harmless
returns-in_err-read_at-clause-harmless g c = λ obeys leaves log begins.
    harmless g (goal.at.returns-in_err-read_at-clause-harmless g c).Start c.args.disk.now (length leaves)
    (known leaves (g.D.Disk.seen c.args.disk.now) log).head.long begins
    (returns-in_err-read_at-clause-any_moment g c obeys)

pub returns-then-count-lt-START-clause-harmless : goal.returns-then-count-lt-START-clause-harmless
returns-then-count-lt-START-clause-harmless g c = λ obeys leaves log begins.
    harmless g (goal.at.returns-then-count-lt-START-clause-harmless g c).Start c.sync.new.self (length leaves)
    (known leaves (g.D.Disk.seen c.args.disk.now) log).head.long begins
    (returns-then-count-lt-START-clause-any_moment g c obeys)

pub returns-clause-harmless : goal.returns-clause-harmless
returns-clause-harmless g c = λ obeys leaves log begins.
    harmless g (goal.at.returns-clause-harmless g c).Start c.write_head.new.disk (length leaves)
    (known leaves (g.D.Disk.seen c.args.disk.now) log).head.long begins (returns-clause-any_moment g c obeys)

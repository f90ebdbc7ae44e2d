use Rattle.std.proofs.Common.{◌≡◌, ◌-◌, ◌/◌, true, false, Some, None, Err, inl, inr, ap, sym, ◌∙◌, arith}
use Rattle.merkle_log.specs.Kept.{has_front}
use Rattle.log_file.specs.LogFile.{digest_count, file_head}
use Rattle.log_store.proofs.Reading.{head-read, none-read, size-none, size-of, size-short}
use Rattle.log_store.proofs.head.read_head.Goals as goal

pub returns-then-count-lt-START-clause-refused : goal.returns-then-count-lt-START-clause-refused
returns-then-count-lt-START-clause-refused g c = λ obeys. inr (inl (size-short (g.D.Disk.seen c.args.disk.now)
    (omega (arith, c.in-Ok.ensures obeys, c.if-count-lt-START.true))))

pub returns-in_default-head_in-clause-refused : goal.returns-in_default-head_in-clause-refused
returns-in_default-head_in-clause-refused g c = λ obeys.
    let seen = g.D.Disk.seen c.args.disk.now in
    let long = c.in-Ok.ensures obeys in
    let read = c.in_default.ensures obeys (omega (arith, long, c.if-count-lt-START.false)) in
    let none : file_head seen ≡ None = sym (head-read seen c.read_at.new.into read
    (omega (arith, long, c.if-count-lt-START.false))) ∙ sym c.in_default-head_in.ensures in
    inr (inl (size-none seen none ∙ ap Err (sym (c.fault_without_head.ensures
    ∙ none-read seen c.read_at.new.into read (omega (arith, long, c.if-count-lt-START.false))))))

pub returns-then-not-has_front-clause-refused : goal.returns-then-not-has_front-clause-refused
returns-then-not-has_front-clause-refused g c = λ obeys.
    let seen = g.D.Disk.seen c.args.disk.now in
    let size = c.in-Some.head.size in
    let long = c.in-Ok.ensures obeys in
    let head : file_head seen ≡ Some (size, c.in-Some.head.is_second_next) =
    sym (head-read seen c.read_at.new.into (c.in_default.ensures obeys (omega (
      arith,
      long,
      c.if-count-lt-START.false,
    ))) (omega (arith, long, c.if-count-lt-START.false))) ∙ sym c.in-Some.ensures in
    let front : has_front size (digest_count seen) ≡ false =
    ap (λ n. has_front size ((n - 96) / 32)) (sym (c.in-Ok-length_again.ensures.length obeys long))
    ∙ sym c.has_front.ensures.test ∙ c.if-not-has_front.true in
    inr (inl (size-of seen size c.in-Some.head.is_second_next false head front))

pub returns-clause-bytes : goal.returns-clause-bytes
returns-clause-bytes g c = λ obeys.
    c.in_default.ensures obeys (omega (arith, c.in-Ok.ensures obeys, c.if-count-lt-START.false))

pub returns-clause-head : goal.returns-clause-head
returns-clause-head g c = λ obeys.
    let seen = g.D.Disk.seen c.args.disk.now in
    let long = c.in-Ok.ensures obeys in
    sym (head-read seen c.read_at.new.into (c.in_default.ensures obeys (omega (
      arith,
      long,
      c.if-count-lt-START.false,
    ))) (omega (arith, long, c.if-count-lt-START.false))) ∙ sym c.in-Some.ensures

pub returns-clause-size : goal.returns-clause-size
returns-clause-size g c = λ obeys.
    let seen = g.D.Disk.seen c.args.disk.now in
    let size = c.in-Some.head.size in
    let front : has_front size (digest_count seen) ≡ true = ap (λ n. has_front size ((n - 96) / 32))
    (sym (c.in-Ok-length_again.ensures.length obeys (c.in-Ok.ensures obeys))) ∙ sym c.has_front.ensures.test
    ∙ c.if-not-has_front.false in
    size-of seen size c.in-Some.head.is_second_next true (returns-clause-head g c obeys) front

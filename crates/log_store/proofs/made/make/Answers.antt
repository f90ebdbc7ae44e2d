use Rattle.std.proofs.Common.{◌≡◌, ℕ, List, ◌++◌, [], length, take, refl, sym, ◌∙◌, subst, inl, inr, ap}
use Rattle.sha2.specs.Sha256.{sha256}
use Rattle.ark_paths.specs.Pair.{Digest}
use Rattle.log_file.specs.LogFile.{file_end, slot, title, written, IsLogFile}
use Rattle.log_store.specs.Disk.{After, LeavesOnly, Torn}
use Rattle.log_store.specs.Store.{new_head, IsPartOf, IsSettled, TornInTurn}
use Rattle.log_store.proofs.Recovering.{new-settled}
use Rattle.log_store.proofs.Runs.{begun, weaker}
use Rattle.log_store.proofs.Sectoring.{part-none, part-torn}
use Rattle.log_store.proofs.Writes.{torn-not}
use Rattle.log_store.proofs.made.make.Goals as goal
use Rattle.log_store.proofs.made.make.Goals.{After-write_head}

-- a head of no entries
head-is : {head top seed : List ℕ} → head ≡ title ++ (slot 0 top ++ slot 0 top) → top ≡ sha256 seed → seed ≡ []
    → head ≡ new_head
head-is is top none = is ∙ ap (λ r. title ++ (slot 0 r ++ slot 0 r)) (top ∙ ap sha256 none)

-- What is begun is the file of no log.
no_log : (g : _) (c : After-write_head g) → g.D.Disk.Obeys c.write_head.new.disk → (leaves : List Digest)
    → IsLogFile leaves (g.D.Disk.seen c.args.disk.now) → ⊥
no_log g c obeys leaves log =
    let begun = c.in_ok-is_begun.ensures.log (c.write_head.ensures.obeys obeys) leaves log in
    let clash = sym c.if-branch.true ∙ begun in
    cc

-- the head that is written
head-of : (g : _) (c : After-write_head g) → c.head_bytes-head.result ≡ new_head
head-of g c = head-is c.head_bytes-head.ensures c.digest.ensures c.as_slice.ensures

pub returns-in-Ok-clause-made : goal.returns-in-Ok-clause-made
returns-in-Ok-clause-made g c = λ obeys none.
    subst (IsSettled []) (sym (c.in-Ok.ensures.written obeys))
    (new-settled c.head_bytes-head.result (g.D.Disk.seen c.args.disk.now)
    (head-of g (goal.at.returns-in-Ok-clause-made g c).After-write_head) none)

pub returns-in-Ok-clause-new_durable : goal.returns-in-Ok-clause-new_durable
returns-in-Ok-clause-new_durable g c = λ obeys none empty left now.
    let from = c.in-Ok.ensures.durable obeys left now in
    let file = g.D.Disk.seen c.args.disk.now in
    let same : left ≡ g.D.Disk.seen c.write_head.new.disk =
    from.2 ∙ ap (λ f. written f 0 c.head_bytes-head.result) (empty from.0 from.1 ∙ sym none)
    ∙ sym (c.in-Ok.ensures.written obeys) in
    (ap (take (file_end 0)) same, subst (IsSettled []) (sym same) (returns-in-Ok-clause-made g c obeys none))

-- What is begun is a part of that head, and a crash leaves one.
part-of : (g : _) (c : After-write_head g) → g.D.Disk.Obeys c.write_head.new.disk
    → IsPartOf new_head (g.D.Disk.seen c.args.disk.now)
part-of g c obeys = subst (λ h. IsPartOf h (g.D.Disk.seen c.args.disk.now)) (head-of g c)
    (c.in_ok-is_begun.ensures.part (c.write_head.ensures.obeys obeys) c.if-branch.true)

parts-left : (g : _) (c : After-write_head g) → g.D.Disk.Obeys c.write_head.new.disk
    → ((left : List ℕ) → g.D.Disk.may_leave c.args.disk.now left → IsPartOf new_head left)
    → LeavesOnly g.D.Disk.moment g.D.Disk.left_since c.args.disk.now c.write_head.new.disk (IsPartOf new_head)
parts-left g c obeys parts =
    weaker g.D.Disk c.args.disk.now c.write_head.new.disk (IsPartOf new_head) _
    (c.write_head.ensures.any_moment obeys)
    (λ left torn. part-torn new_head torn.0 left (parts torn.0 torn.1)
    (subst (λ h. Torn 0 h torn.0 left) (head-of g c) torn.2))

pub returns-in_err-is_begun-clause-any_moment : goal.returns-in_err-is_begun-clause-any_moment
returns-in_err-is_begun-clause-any_moment g c = λ obeys leaves log.
    let part = take 96 (g.D.Disk.seen c.args.disk.now) in
    begun g.D.Disk c.args.disk.now (After (Torn 0 part) (g.D.Disk.may_leave c.args.disk.now))
    (λ left since. (left, g.met.D.Disk.only_now c.args.disk.now left since, torn-not 0 part left left refl))

pub returns-in_err-is_begun-clause-in_turn : goal.returns-in_err-is_begun-clause-in_turn
returns-in_err-is_begun-clause-in_turn g c = λ obeys leaves log.
    let part = take 96 (g.D.Disk.seen c.args.disk.now) in
    begun g.D.Disk c.args.disk.now (After (TornInTurn part) (g.D.Disk.may_leave c.args.disk.now)) (λ left since. (
      left,
      g.met.D.Disk.only_now c.args.disk.now left since,
      inl (torn-not 0 (take 64 part) left left refl),
    ))

pub returns-in-Ok-clause-in_turn : goal.returns-in-Ok-clause-in_turn
returns-in-Ok-clause-in_turn g c = λ obeys leaves log.
    absurd (no_log g (goal.at.returns-in-Ok-clause-in_turn g c).After-write_head obeys leaves log)

pub returns-in-Err-clause-in_turn : goal.returns-in-Err-clause-in_turn
returns-in-Err-clause-in_turn g c = λ obeys leaves log.
    absurd (no_log g (goal.at.returns-in-Err-clause-in_turn g c).After-write_head obeys leaves log)

pub returns-in_err-is_begun-clause-begun : goal.returns-in_err-is_begun-clause-begun
returns-in_err-is_begun-clause-begun g c = λ obeys none parts.
    begun g.D.Disk c.args.disk.now (IsPartOf new_head)
    (λ left since. parts left (g.met.D.Disk.only_now c.args.disk.now left since))

pub returns-in-Ok-clause-others : goal.returns-in-Ok-clause-others
returns-in-Ok-clause-others g c = λ obeys.
    inl (part-of g (goal.at.returns-in-Ok-clause-others g c).After-write_head obeys)

pub returns-in-Ok-clause-begun : goal.returns-in-Ok-clause-begun
returns-in-Ok-clause-begun g c = λ obeys none parts.
    parts-left g (goal.at.returns-in-Ok-clause-begun g c).After-write_head obeys parts

pub returns-in-Ok-clause-kept : goal.returns-in-Ok-clause-kept
returns-in-Ok-clause-kept g c = λ obeys leaves log.
    absurd (no_log g (goal.at.returns-in-Ok-clause-kept g c).After-write_head obeys leaves log)

pub returns-in-Ok-clause-any_moment : goal.returns-in-Ok-clause-any_moment
returns-in-Ok-clause-any_moment g c = λ obeys leaves log.
    absurd (no_log g (goal.at.returns-in-Ok-clause-any_moment g c).After-write_head obeys leaves log)

pub returns-in-Ok-clause-kept_behind : goal.returns-in-Ok-clause-kept_behind
returns-in-Ok-clause-kept_behind g c = λ obeys leaves log kept.
    absurd (no_log g (goal.at.returns-in-Ok-clause-kept_behind g c).After-write_head obeys leaves log)

pub returns-in-Err-clause-others : goal.returns-in-Err-clause-others
returns-in-Err-clause-others g c = λ obeys.
    inl (part-of g (goal.at.returns-in-Err-clause-others g c).After-write_head obeys)

pub returns-in-Err-clause-begun : goal.returns-in-Err-clause-begun
returns-in-Err-clause-begun g c = λ obeys none parts.
    parts-left g (goal.at.returns-in-Err-clause-begun g c).After-write_head obeys parts

pub returns-in-Err-clause-kept : goal.returns-in-Err-clause-kept
returns-in-Err-clause-kept g c = λ obeys leaves log.
    absurd (no_log g (goal.at.returns-in-Err-clause-kept g c).After-write_head obeys leaves log)

pub returns-in-Err-clause-any_moment : goal.returns-in-Err-clause-any_moment
returns-in-Err-clause-any_moment g c = λ obeys leaves log.
    absurd (no_log g (goal.at.returns-in-Err-clause-any_moment g c).After-write_head obeys leaves log)

pub returns-in-Err-clause-kept_behind : goal.returns-in-Err-clause-kept_behind
returns-in-Err-clause-kept_behind g c = λ obeys leaves log kept.
    absurd (no_log g (goal.at.returns-in-Err-clause-kept_behind g c).After-write_head obeys leaves log)

pub returns-in-Ok-clause-durable : goal.returns-in-Ok-clause-durable
returns-in-Ok-clause-durable g c = λ obeys leaves log kept.
    absurd (no_log g (goal.at.returns-in-Ok-clause-durable g c).After-write_head obeys leaves log)

pub returns-in-Ok-rewrite_head-clause-kept_behind : goal.returns-in-Ok-rewrite_head-clause-kept_behind
returns-in-Ok-rewrite_head-clause-kept_behind g c = λ obeys leaves log kept.
    c.rewrite_head.ensures.kept obeys (length leaves) kept

pub returns-in-Err-rewrite_head-clause-kept_behind : goal.returns-in-Err-rewrite_head-clause-kept_behind
returns-in-Err-rewrite_head-clause-kept_behind g c = λ obeys leaves log kept.
    c.rewrite_head.ensures.kept obeys (length leaves) kept

pub returns-in_err-is_begun-clause-others_moment : goal.returns-in_err-is_begun-clause-others_moment
returns-in_err-is_begun-clause-others_moment g c = λ obeys.
    let part = take 96 (g.D.Disk.seen c.args.disk.now) in
    inr (begun g.D.Disk c.args.disk.now (After (Torn 0 part) (g.D.Disk.may_leave c.args.disk.now))
    (λ left since. (left, g.met.D.Disk.only_now c.args.disk.now left since, torn-not 0 part left left refl)))

pub returns-in_err-is_begun-clause-left : goal.returns-in_err-is_begun-clause-left
returns-in_err-is_begun-clause-left g c = λ obeys none. part-none new_head (g.D.Disk.seen c.args.disk.now) none

pub returns-in-Ok-clause-others_moment : goal.returns-in-Ok-clause-others_moment
returns-in-Ok-clause-others_moment g c = λ obeys.
    inl (part-of g (goal.at.returns-in-Ok-clause-others_moment g c).After-write_head obeys)

pub returns-in-Ok-clause-left : goal.returns-in-Ok-clause-left
returns-in-Ok-clause-left g c = λ obeys none.
    part-torn new_head (g.D.Disk.seen c.args.disk.now) (g.D.Disk.seen c.write_head.new.disk)
    (part-none new_head (g.D.Disk.seen c.args.disk.now) none)
    (subst (λ h. Torn 0 h (g.D.Disk.seen c.args.disk.now) (g.D.Disk.seen c.write_head.new.disk))
    (head-of g (goal.at.returns-in-Ok-clause-left g c).After-write_head)
    (c.write_head.ensures.torn obeys))

pub returns-in-Err-clause-others_moment : goal.returns-in-Err-clause-others_moment
returns-in-Err-clause-others_moment g c = λ obeys.
    inl (part-of g (goal.at.returns-in-Err-clause-others_moment g c).After-write_head obeys)

pub returns-in-Err-clause-left : goal.returns-in-Err-clause-left
returns-in-Err-clause-left g c = λ obeys none.
    part-torn new_head (g.D.Disk.seen c.args.disk.now) (g.D.Disk.seen c.write_head.new.disk)
    (part-none new_head (g.D.Disk.seen c.args.disk.now) none)
    (subst (λ h. Torn 0 h (g.D.Disk.seen c.args.disk.now) (g.D.Disk.seen c.write_head.new.disk))
    (head-of g (goal.at.returns-in-Err-clause-left g c).After-write_head)
    (c.write_head.ensures.torn obeys))

pub returns-in-Ok-rewrite_head-clause-others_moment : goal.returns-in-Ok-rewrite_head-clause-others_moment
returns-in-Ok-rewrite_head-clause-others_moment g c = λ obeys. inr (c.rewrite_head.ensures.any_moment obeys)

pub returns-in-Ok-rewrite_head-clause-left : goal.returns-in-Ok-rewrite_head-clause-left
returns-in-Ok-rewrite_head-clause-left g c = λ obeys none.
    part-none new_head (g.D.Disk.seen c.rewrite_head.new.disk) (c.rewrite_head.ensures.same obeys ∙ none)

pub returns-in-Err-rewrite_head-clause-others_moment : goal.returns-in-Err-rewrite_head-clause-others_moment
returns-in-Err-rewrite_head-clause-others_moment g c = λ obeys. inr (c.rewrite_head.ensures.any_moment obeys)

pub returns-in-Err-rewrite_head-clause-left : goal.returns-in-Err-rewrite_head-clause-left
returns-in-Err-rewrite_head-clause-left g c = λ obeys none.
    part-none new_head (g.D.Disk.seen c.rewrite_head.new.disk) (c.rewrite_head.ensures.same obeys ∙ none)

use Rattle.std.proofs.Common.{◌≡◌, ◌-◌, length, ap, sym, ◌∙◌}
use Rattle.std.proofs.Math.Logic.{⊎_map}
use Rattle.std.proofs.lemmas.Result.{err_from_is_err_and}
use Rattle.merkle_log.specs.Append.{counted_after, pair_count}
use Rattle.merkle_log.proofs.Carried.{carried-refused}
use Rattle.merkle_log.proofs.Counted.{counted-growth}
use Rattle.merkle_log.proofs.Growing.{IsKept, appends-kept}
use Rattle.merkle_log.proofs.Positions.{length-row_of}
use Rattle.merkle_log.proofs.log.Log.append_digest_counting.Goals as goal

pub invariant_of-self-2 : goal.invariant_of-self-2
invariant_of-self-2 g c =
    let hash = (g.T.TreeHasher.hashes c.self.inside.hasher).pair.upper in
    let old = c.self.inside.stored in
    let kept : IsKept hash old = record { whole = c.self.invariant.whole; stored_is = c.self.invariant.stored } in
    let new = appends-kept hash old c.append.new.self (g.D.Numbered.numbers c.args.digest) c.append.result kept
    (rw (c.new-hasher.ensures.hasher) at c.append.ensures.appended) c.append.ensures.kept in
    record { whole = new.whole; stored = new.stored_is }

pub returns-in_err-append-clause-refused : goal.returns-in_err-append-clause-refused
returns-in_err-append-clause-refused g c =
    let result = err_from_is_err_and c.from_residual.result c.from_residual.ensures.1 in
    rw (result.1, result.2, ← c.self.view_is) (⊎_map (λ memory. memory)
    (λ carry. carried-refused _ _ _ _ c.self.invariant.stored carry)
    (rw (c.new-hasher.ensures.hasher) at c.in_err-append.ensures.refused))

pub returns-clause-count : goal.returns-clause-count
returns-clause-count g c =
    let old = c.self.inside.stored in
    let new = c.append.new.self in
    let before : length c.args.self.now.digests ≡ old.size =
    sym (ap (λ log. length log.digests) c.self.view_is) ∙ length-row_of old 0 in
    let none = ap (λ n. counted_after n (pair_count new.size - pair_count old.size)) c.new-hasher.ensures.none in
    rw (before, length-row_of new 0) (counted-growth c.calls.result _ old.size new.size
    c.in_ok-append.ensures.appended.extends.size c.in_ok-append.ensures.fits c.calls.ensures
    (c.in_ok-append.ensures.counts ∙ none))

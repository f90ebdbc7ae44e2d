use Rattle.std.proofs.Common.{◌≡◌, ◌/◌, length, map, refl, ap, sym, ◌∙◌, inl, inr, arith}
use Rattle.std.proofs.lemmas.List.{length-append, length-map, map_push}
use Rattle.std.proofs.lemmas.Result.{err_from_is_err_and}
use Rattle.std.specs.Vec.Iter.{into_iter_items}
use Rattle.merkle_log.proofs.KeptRows.{length-up}
use Rattle.merkle_log.proofs.Positions.{length-row_of}
use Rattle.merkle_log.proofs.RisenRows.{over-fewer, rising-first, rising-next, rising-refused, risen-stored}
use Rattle.merkle_log.proofs.rising.rows_over.Goals as goal

pub levels-init : goal.levels-init
levels-init g c =
    rw (c.new-rows.ensures.items) (record {
      at = rising-first c.args.leaves.items refl;
      count = c.size-count.ensures ∙ sym (length-row_of c.args.stored.now 0);
    })

pub levels-smaller : goal.levels-smaller
levels-smaller g c =
    let numbers = g.D.Numbered.numbers in
    let level : c.len-in-levels.result ≡ length c.levels.rows.items =
    omega (arith, c.len-in-levels.ensures, c.levels.rows.ok.0) in
    let hashed = rw (level, c.deref.ensures.value) at c.in_ok-above.ensures.hashed in
    let fewer = over-fewer (g.T.TreeHasher.hashes c.args.hasher.now).pair.upper c.args.stored.now
    (length c.levels.rows.items) c.levels.count (map numbers c.levels.row.items)
    (map numbers c.in_ok-above.above.items) c.levels.invariant.count
    (omega (arith, length-map c.levels.row.items numbers, c.levels-test.true, c.len.ensures, c.levels.row.ok.0))
    hashed in
    omega (arith, fewer, length-map c.levels.row.items numbers, length-map c.in_ok-above.above.items numbers)

pub levels-preserved : goal.levels-preserved
levels-preserved g c =
    let lists = map into_iter_items c.levels.rows.items in
    let level : c.len-in-levels.result ≡ length lists =
    omega (arith, c.len-in-levels.ensures, c.levels.rows.ok.0, length-map c.levels.rows.items into_iter_items) in
    let hashed = rw (level, c.deref.ensures.value) at c.in_ok-above.ensures.hashed in
    rw (c.in_ok-push.ensures.items) (record {
      at = rw (map_push, c.into_iter.ensures.rest) (rising-next c.levels.invariant.at c.in_ok-above.above.items hashed);
      count = rw (length-append) (ap (λ n. n / 2) c.levels.invariant.count
          ∙ sym (length-up c.args.stored.now (length c.levels.rows.items)));
    })

pub returns-in_err-above-clause-refused : goal.returns-in_err-above-clause-refused
returns-in_err-above-clause-refused g c =
    let level : c.len-in-levels.result ≡ length (map into_iter_items c.levels.rows.items) =
    omega (arith, c.len-in-levels.ensures, c.levels.rows.ok.0, length-map c.levels.rows.items into_iter_items) in
    let result = err_from_is_err_and c.from_residual.result c.from_residual.ensures.1 in
    rw (result.1, result.2) (elim (rw (level, c.deref.ensures.value) at c.in_err-above.ensures.refused) [
      | inl memory ↦ inl memory
      | inr refused ↦ inr (rising-refused c.levels.invariant.at _ refused)
    ])

pub returns-clause-hashed : goal.returns-clause-hashed
returns-clause-hashed g c =
    risen-stored c.levels.invariant.at (omega (arith, c.levels-test.false, c.len.ensures, c.levels.row.ok.0)) c.requires

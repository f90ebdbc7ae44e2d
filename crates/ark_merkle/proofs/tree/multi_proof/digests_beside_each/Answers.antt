use Rattle.std.proofs.Common.{◌≡◌, ◌-◌, length, get_or, Ok, ap, sym, arith}
use Rattle.std.proofs.lemmas.List.{map_push, take_all}
use Rattle.ark_base.proofs.Refusals.{passed_on}
use Rattle.ark_base.specs.Laws.Steps.{done_injective}
use Rattle.ark_paths.proofs.OwnPaths.{drop-beside_in}
use Rattle.ark_merkle.proofs.tree.multi_proof.digests_beside_each.Goals as goal

pub digests_beside-requires : goal.digests_beside-requires
digests_beside-requires g c =
    record { holds = c.requires _ 0 c.loop-place-test.true; count = omega (arith, c.len.ensures.count) }

pub loop-place-preserved : goal.loop-place-preserved
loop-place-preserved g c =
    let rows = c.args.rows.now in
    let prefix = c.prefix_at-prefix.result in
    let level : length rows - prefix - 1 ≡ length rows - 1 - prefix = omega arith in
    let below = done_injective _ _ (rw (c.len.ensures.count, level) at c.in_ok-digests_beside.ensures) in
    let rest = drop-beside_in rows prefix (length rows - 1) (get_or c.args.indexes.now c.loop-place.place 0)
    c.prefix_at-prefix.ensures.within in
    record {
      prefixes = rw (c.in_ok-push.ensures.items, c.loop-place.invariant.prefixes)
          (sym c.prefix_at-prefix.ensures.prefix);
      suffixes = rw (c.in_ok-push-2.ensures.items, map_push, c.loop-place.invariant.suffixes)
          (sym (rw (rest, below) at c.prefix_at-prefix.ensures.suffix));
    }

pub prefix_at-prefix-requires-clause-held : goal.prefix_at-prefix-requires-clause-held
prefix_at-prefix-requires-clause-held g c = c.requires

pub returns-in_err-digests_beside-clause-prefixes : goal.returns-in_err-digests_beside-clause-prefixes
returns-in_err-digests_beside-clause-prefixes g c =
    passed_on _ _ c.from_residual-in_err-digests_beside.result _ c.from_residual-in_err-digests_beside.ensures.1
    c.in_err-digests_beside.ensures (λ refused. absurd cc)

pub returns-in_err-digests_beside-clause-suffixes : goal.returns-in_err-digests_beside-clause-suffixes
returns-in_err-digests_beside-clause-suffixes g c =
    passed_on _ _ c.from_residual-in_err-digests_beside.result _ c.from_residual-in_err-digests_beside.ensures.1
    c.in_err-digests_beside.ensures (λ refused. absurd cc)

pub returns-clause-prefixes : goal.returns-clause-prefixes
returns-clause-prefixes g c =
    let whole = take_all c.loop-place.place c.args.indexes.now c.loop-place-test.false in
    ap Ok (sym (rw whole at c.loop-place.invariant.prefixes))

pub returns-clause-suffixes : goal.returns-clause-suffixes
returns-clause-suffixes g c =
    let all = take_all c.loop-place.place c.args.indexes.now c.loop-place-test.false in
    ap Ok (sym (rw all at c.loop-place.invariant.suffixes))

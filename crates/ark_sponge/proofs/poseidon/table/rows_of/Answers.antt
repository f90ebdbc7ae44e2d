use Rattle.std.proofs.Common.{◌≡◌, suc, ◌+◌, ◌-◌, ◌++◌, [], ◌∷◌, length, map, vec_len, sym, ap, ◌∙◌, arith}
use Rattle.std.proofs.lemmas.List.{map-append, take-map, drop-map}
use Rattle.std.proofs.lemmas.List.Elements.{All-push, All-same}
use Rattle.ark_sponge.specs.Table.{rows_of}
use Rattle.ark_sponge.proofs.TableRows.{rows_of-all, row_taken}
use Rattle.ark_sponge.proofs.poseidon.table.rows_of.Goals as goal

pub split_at-requires : goal.split_at-requires
split_at-requires g c =
    omega (arith, c.loop.invariant.room (suc (c.args.count - (c.loop.counter + 1))) (omega arith))

pub loop-preserved : goal.loop-preserved
loop-preserved g c =
    let f = g.F.Valued.value in
    let w = c.args.width in
    let rest = c.loop.rest.now in
    let behind = c.split_at.result.1.now in
    let row = c.in_ok-from_slice.field-0 in
    let front = ap (map f) (c.in_ok-from_slice.ensures.items ∙ c.split_at.ensures.front) ∙ sym (take-map f w rest) in
    let back = ap (map f) c.split_at.ensures.back ∙ sym (drop-map f w rest) in
    record {
      same = λ k e. ap (λ t. map (λ row. map f row.items) t ++ rows_of w k (map f behind)) c.in_ok-push.ensures.items
          ∙ ap (λ t. t ++ rows_of w k (map f behind)) (map-append (λ row. map f row.items) c.loop.rows.items (row ∷ []))
          ∙ row_taken w k _ _ (map f rest) (map f row.items) (map f behind)
          (c.loop.invariant.same (suc k) (omega (arith, e))) front back;
      room = λ k e. omega (arith, e, c.loop.invariant.room (suc k) (omega (arith, e)), c.split_at.ensures.back_len);
      widths = All-same (λ row. vec_len row ≡ w) _ _ c.in_ok-push.ensures.items
          (All-push (λ row. vec_len row ≡ w) c.loop.rows.items row c.loop.invariant.widths
          (c.in_ok-from_slice.ensures.len ∙ c.split_at.ensures.front_len));
      count = omega (
        arith,
        ap length c.in_ok-push.ensures.items,
        c.in_ok-push.ensures.len,
        c.loop.invariant.count,
        c.push.new.self.ok.0,
        c.loop.rows.ok.0,
      );
    }

pub returns-clause-rows : goal.returns-clause-rows
returns-clause-rows g c =
    let f = g.F.Valued.value in
    rows_of-all c.args.width (map (λ row. map f row.items) c.loop.rows.items) _ (map f c.loop.rest.now)
    (c.loop.invariant.same 0 (omega arith))

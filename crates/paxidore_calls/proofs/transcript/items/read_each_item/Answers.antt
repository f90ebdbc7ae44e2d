use Rattle.std.proofs.Common.{◌≡◌, ◌+◌, ◌++◌, ◌∷◌, [], map, drop, arith}
use Rattle.std.proofs.lemmas.Result.{IfOk-from_err}
use Rattle.std.proofs.lemmas.List.{map_push, drop-drop, length-drop}
use Rattle.ark_base.specs.Spelling.{items_at}
use Rattle.ark_base.proofs.Refusals.{passed_on}
use Rattle.ark_base.proofs.Items.{goes_on, ends, is_done}
use Rattle.paxidore_calls.proofs.transcript.items.read_each_item.Goals as goal

pub returns-in_err-item : goal.returns-in_err-item
returns-in_err-item g c =
    let t = g.R.ReadsItem in
    let refused = rw c.rest_of.ensures at c.in_err-item.ensures in
    let e = c.in_err-item.field-0.0 in
    let result = c.from_residual-in_err-item.result in
    record {
      answer = passed_on _ _ result e c.from_residual-in_err-item.ensures.1 refused.answer (λ fault. ends t.reads e
          (map t.view c.loop.items.items) c.args.count c.loop.counter (drop c.loop.used c.args.bytes.now)
          (items_at t.reads c.args.count c.args.bytes.now) c.loop-test.true fault c.loop.invariant.so_far);
      within = IfOk-from_err result _ c.from_residual-in_err-item.ensures.0;
    }

pub loop-preserved : goal.loop-preserved
loop-preserved g c =
    let t = g.R.ReadsItem in
    let bytes = c.args.bytes.now in
    let used = c.loop.used in
    let more = c.in_ok-item.more in
    let front = map t.view c.loop.items.items in
    let read = rw c.rest_of.ensures at c.in_ok-item.ensures in
    let pushed : map t.view c.push.new.self.items ≡ front ++ t.view c.in_ok-item.item ∷ [] =
    rw c.in_ok-push.ensures.items (map_push t.view c.loop.items.items c.in_ok-item.item) in
    let behind : drop more (drop used bytes) ≡ drop (used + more) bytes = drop-drop more used bytes in
    record {
      within = omega (arith, read.within, length-drop used bytes, c.loop.invariant.within);
      so_far = rw (pushed, ← behind) (goes_on t.reads front c.args.count c.loop.counter (drop used bytes)
          (drop more (drop used bytes)) (t.view c.in_ok-item.item) (items_at t.reads c.args.count bytes)
          c.loop-test.true
          read.answer c.loop.invariant.so_far);
    }

pub returns : goal.returns
returns g c =
    let t = g.R.ReadsItem in
    record {
      answer = rw (is_done t.reads (map t.view c.loop.items.items) c.args.count c.loop.counter
          (drop c.loop.used c.args.bytes.now) (items_at t.reads c.args.count c.args.bytes.now) c.loop-test.false
          c.loop.invariant.so_far);
      within = c.loop.invariant.within;
    }

use Rattle.std.proofs.Common.{◌≡◌, ◌<◌, ◌∙◌, List, [], length, get_or, set, ap, arith}
use Rattle.std.proofs.lemmas.List.{length-set, set-set, get_or-set_same}
use Rattle.ark_paths.specs.Pair.{Digest}
use Rattle.ark_merkle.proofs.Batches.{put_so_far-more, put_so_far-inside}
use Rattle.ark_merkle.proofs.tree.changes.put_in_row.Goals as goal

pub exchange-requires-clause-place : goal.exchange-requires-clause-place
exchange-requires-clause-place g c =
    let so = c.loop-n.invariant.0 in
    put_so_far-inside g.D.Numbered.numbers c.args.changes.items (get_or c.args.rows.now c.args.row []) c.loop-n.n
    (get_or c.loop-n.rows c.args.row []) c.loop-n.changes.items so c.index_mut.result.now
    (omega (arith, so.count, c.args.changes.ok.0)) c.index_mut.ensures.value c.requires.changes

pub loop-n-preserved : goal.loop-n-preserved
loop-n-preserved g c =
    let numbers = g.D.Numbered.numbers in
    let so = c.loop-n.invariant.0 in
    let initial = c.args.rows.now in
    let row = c.args.row in
    let rows = c.loop-n.rows in
    let change = c.index_mut.result.now in
    let new = set (get_or rows row []) change.0 (numbers change.1) in
    let same = ap length c.loop-n.invariant.1 in
    let inside : row < length rows = omega (arith, length-set initial row (get_or rows row []), c.requires.row) in
    let is : get_or c.exchange.new.self row [] ≡ new = ap (λ (rs : List (List Digest)). get_or rs row [])
    c.exchange.ensures ∙ get_or-set_same rows row new [] inside in
    rw is (
      put_so_far-more numbers c.args.changes.items (get_or initial row []) c.loop-n.n (get_or rows row [])
          c.loop-n.changes.items so change (omega (arith, so.count, c.args.changes.ok.0)) c.index_mut.ensures.value _,
      c.exchange.ensures ∙ ap (λ (rs : List (List Digest)). set rs row new) c.loop-n.invariant.1 ∙ set-set initial row
          (get_or rows row []) new,
    )

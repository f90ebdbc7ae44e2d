use Rattle.std.proofs.Common.{◌≡◌, ◌+◌, ◌-◌, [], ◌++◌, length, map, take, drop, IfSome, Some, refl, subst, sym, ap, ◌∙◌, arith}
use Rattle.std.proofs.lemmas.List.{length-append, length-drop, length-take-le, take_all}
use Rattle.std.proofs.Math.Seq.{take-append_seam}
use Rattle.std.specs.List.{zip}
use Rattle.ark_merkle.specs.Batch.{puts}
use Rattle.paxidore_calls.proofs.Drawing.{drawn-none}
use Rattle.paxidore_calls.specs.Cut.{parts_by}
use Rattle.paxidore_c.proofs.Putting.{PutUpTo, all-put, put-run, puts-none}
use Rattle.paxidore_c.proofs.kept_changes.put_leaf_digests.Goals as goal

pub runs-init : goal.runs-init
runs-init g c = record {
  inside = omega arith;
  room = refl;
  long = refl;
  put = record {
    front = [];
    count = refl;
    drawn = drawn-none g.H.ArrayHash.leaf_hash c.args.lengths.now 0 c.args.bytes.now;
    put = sym (puts-none c.args.digests.now c.args.indexes.now);
  };
}

pub runs-preserved : goal.runs-preserved
runs-preserved g c =
    let made = g.H.ArrayHash.leaf_hash in
    let lengths = c.args.lengths.now in
    let indexes = c.args.indexes.now in
    let place = c.runs.place in
    let count = c.min-count.result in
    let own = c.write_digests_from-rest.new.digests in
    let behind = drop count c.runs.run in
    let next = c.write_digests_from-rest.result.now in
    let cut = parts_by c.runs.rest.now (drop place lengths) in
    let part : length (take count c.runs.run) ≡ count =
    length-take-le count c.runs.run (omega (arith, c.min-count.ensures, c.runs.invariant.room)) in
    let long : length own ≡ count = c.write_digests_from-rest.ensures.long ∙ part in
    let front : take count (own ++ behind) ≡ own =
    ap (λ n. take n (own ++ behind)) (sym long) ∙ take-append_seam own behind in
    let others : take (length indexes - place) (drop place indexes) ≡ drop place indexes =
    take_all (length indexes - place) (drop place indexes) (omega (arith, length-drop place indexes)) in
    let own_of = subst (λ n. IfSome cut (λ ys. own ≡ map made (take n ys))) part
    c.write_digests_from-rest.ensures.digests in
    let next_is = subst (λ n. IfSome cut (λ ys. parts_by next (drop (place + n) lengths) ≡ Some (drop n ys))) part
    c.write_digests_from-rest.ensures.rest in
    record {
      inside = omega (arith, c.min-count.ensures, c.runs.invariant.inside);
      room = omega (
        arith,
        length-append own behind,
        long,
        length-drop count c.runs.run,
        c.runs.invariant.room,
        c.min-count.ensures,
      );
      long = c.put_digests.ensures.long ∙ c.runs.invariant.long;
      put = subst (λ now. PutUpTo made lengths indexes c.args.digests.now (parts_by c.args.bytes.now lengths) now
          (place + count) next)
          (ap (λ run. puts c.runs.digests (zip (drop place indexes) run)) (sym front)
          ∙ ap (λ some. puts c.runs.digests (zip some (take count (own ++ behind)))) (sym others)
          ∙ sym c.put_digests.ensures.put)
          (put-run made lengths indexes c.args.digests.now (parts_by c.args.bytes.now lengths) c.runs.digests own place
          count c.runs.rest.now next c.runs.invariant.put long own_of next_is);
    }

pub returns : goal.returns
returns g c = all-put g.H.ArrayHash.leaf_hash c.args.lengths.now c.args.indexes.now c.args.digests.now
    (parts_by c.args.bytes.now c.args.lengths.now) c.runs.digests c.runs.place c.runs.rest.now
    (omega (arith, c.runs-test.false)) c.runs.invariant.put

use Rattle.std.proofs.Common.{◌≡◌, List, map, Some, true, rules}
use Rattle.ark_base.proofs.Refusals.{passed_on}
use Rattle.ark_base.specs.Laws.Steps.{done_injective}
use Rattle.ark_paths.specs.MultiPath.{MultiWay, decoded_path}
use Rattle.ark_paths.specs.Pair.{Digest, pair_of}
use Rattle.ark_paths.specs.Path.{Way}
use Rattle.ark_paths.specs.Rows.{digests_of, rows_seen}
use Rattle.test_support.proofs.PlainMulti.{decoded_path-alike, place-refused, place-accepted}
use Rattle.test_support.proofs.trees.multi.+verdict_from.Goals as goal

pub returns-in_err-verify : goal.returns-in_err-verify
returns-in_err-verify g t c =
    let inner = g.P.InnerDigest.Numbered.numbers in
    let leaf_numbers = g.P.LeafDigest.Numbered.numbers in
    let two = g.P.TwoToOneHash.TwoToOneCRHScheme in
    let h = pair_of g.P.LeafInnerDigestConverter.DigestConverter.conversion two.evaluated two.compressed
    c.args.pair_parameters.now in
    let proof = c.args.proof.now in
    let m : MultiWay = record {
      siblings = digests_of leaf_numbers proof.leaf_siblings_hashes;
      prefixes = proof.auth_paths_prefix_lenghts.items;
      suffixes = rows_seen inner proof.auth_paths_suffixes;
      indexes = proof.leaf_indexes.items;
    } in
    let index = c.in-Some.index.now in
    let above = c.in_ok-extended.field-0.items in
    let way : Way = record {
      sibling = leaf_numbers c.in_ok-duplicate.field-0;
      above = map inner above;
      index = index;
    } in
    let sibling = (g.met.P.LeafDigest.DigestItem.seen_alike _ _).0 (done_injective _ _ c.in_ok-duplicate.ensures) in
    let digests = done_injective {A = List Digest} _ _ c.in_ok-extended.ensures in
    let decodes : decoded_path m c.args.place (map inner c.args.before.now) index ≡ Some way = decoded_path-alike m
    c.args.place (map inner c.args.before.now) index (c.in-Some-part_of.ensures (map inner c.args.before.now) index)
    sibling digests in
    let hashed = g.P.LeafHash.CRHScheme.meaning c.args.leaf_parameters.now in
    rw (c.in-Some.ensures.cases.0, c.in-Some-split_first.ensures.cases.0)
    (passed_on _ _ c.from_residual-in_err-verify.result c.in_err-verify.field-0.0
    c.from_residual-in_err-verify.ensures.1 c.in_err-verify.ensures.answer
    (λ refused. place-refused h (inner c.args.root.now) m c.args.place (map inner c.args.before.now) index way decodes
    (hashed c.in-Some-split_first.leaf.now) c.in-Some.indexes.now (map hashed c.in-Some-split_first.leaves.now)
    c.in_err-verify.field-0.0 refused))

pub returns : goal.returns
returns g t c =
    let inner = g.P.InnerDigest.Numbered.numbers in
    let leaf_numbers = g.P.LeafDigest.Numbered.numbers in
    let two = g.P.TwoToOneHash.TwoToOneCRHScheme in
    let h = pair_of g.P.LeafInnerDigestConverter.DigestConverter.conversion two.evaluated two.compressed
    c.args.pair_parameters.now in
    let proof = c.args.proof.now in
    let m : MultiWay = record {
      siblings = digests_of leaf_numbers proof.leaf_siblings_hashes;
      prefixes = proof.auth_paths_prefix_lenghts.items;
      suffixes = rows_seen inner proof.auth_paths_suffixes;
      indexes = proof.leaf_indexes.items;
    } in
    let index = c.in-Some.index.now in
    let above = c.in_ok-extended.field-0.items in
    let way : Way = record {
      sibling = leaf_numbers c.in_ok-duplicate.field-0;
      above = map inner above;
      index = index;
    } in
    let sibling = (g.met.P.LeafDigest.DigestItem.seen_alike _ _).0 (done_injective _ _ c.in_ok-duplicate.ensures) in
    let digests = done_injective {A = List Digest} _ _ c.in_ok-extended.ensures in
    let decodes : decoded_path m c.args.place (map inner c.args.before.now) index ≡ Some way = decoded_path-alike m
    c.args.place (map inner c.args.before.now) index (c.in-Some-part_of.ensures (map inner c.args.before.now) index)
    sibling digests in
    let hashed = g.P.LeafHash.CRHScheme.meaning c.args.leaf_parameters.now in
    let yes : c.in_ok-verify.field-0 ≡ true = search rules in
    rw (
      c.in-Some.ensures.cases.0,
      c.in-Some-split_first.ensures.cases.0,
      place-accepted h (inner c.args.root.now) m c.args.place (map inner c.args.before.now) index way decodes
          (hashed c.in-Some-split_first.leaf.now) c.in-Some.indexes.now (map hashed c.in-Some-split_first.leaves.now)
          (rw (yes) at c.in_ok-verify.ensures.answer),
      ← c.deref.ensures.value,
    )
    c.verdict_from.ensures

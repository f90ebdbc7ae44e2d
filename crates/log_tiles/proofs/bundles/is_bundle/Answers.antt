use Rattle.std.proofs.Common.{◌+◌, ◌≤◌, ◌∷◌, ◌++◌, [], length, get_or, drop, refl, ap, sym, ◌∙◌}
use Rattle.std.specs.List.{flat_map}
use Rattle.std.proofs.lemmas.List.Elements.{All-push}
use Rattle.ark_trees.specs.Rfc6962.{entry_hash}
use Rattle.log_tiles.specs.Bundles.{entry_bytes}
use Rattle.log_tiles.proofs.Bundled.{bundled-more, entry-same, hashed-more, next-own}
use Rattle.log_tiles.proofs.bundles.is_bundle.Goals as goal

pub digests-preserved : goal.digests-preserved
digests-preserved c =
    let old = c.digests.invariant.read in
    let entry = c.in-Some.entry.now in
    let front = c.in-Some.ensures.front in
    let same = sym c.digest_of_entry.ensures ∙ c.are_same.ensures.0 c.if-not-are_same.false in
    record {
      read = (
        old.0 ++ (entry ∷ []),
        bundled-more old.0 entry c.args.bytes.now c.digests.rest.now c.in-Some.behind.now old.1 front.1,
        hashed-more old.0 entry c.args.digests.now c.digests.digest-index old.2 c.digests-test.true same,
        All-push (λ e. length e ≤ 65535) old.0 entry old.3 front.0,
      );
      own = λ bundle.
          let known = next-own c.args.digests.now c.args.bytes.now bundle c.digests.rest.now c.digests.digest-index
          (c.digests.invariant.own bundle) c.digests-test.true in
          (entry-same entry (get_or bundle.entries c.digests.digest-index []) c.in-Some.behind.now
          (flat_map entry_bytes (drop (c.digests.digest-index + 1) bundle.entries)) front.0 known.0
          (sym front.1 ∙ known.1)).1;
    }

pub returns-in_default : goal.returns-in_default
returns-in_default c = (
  λ e. absurd cc,
  λ bundle.
      let known = next-own c.args.digests.now c.args.bytes.now bundle c.digests.rest.now c.digests.digest-index
      (c.digests.invariant.own bundle) c.digests-test.true in
      absurd (c.in_default.ensures.none refl _ _ known.0 known.1),
)

pub returns-then-not-are_same : goal.returns-then-not-are_same
returns-then-not-are_same c = (
  λ e. absurd cc,
  λ bundle.
      let known = next-own c.args.digests.now c.args.bytes.now bundle c.digests.rest.now c.digests.digest-index
      (c.digests.invariant.own bundle) c.digests-test.true in
      let front = c.in-Some.ensures.front in
      let same = entry-same _ _ _ _ front.0 known.0 (sym front.1 ∙ known.1) in
      let yes = c.are_same.ensures.1 (c.digest_of_entry.ensures ∙ ap entry_hash same.0 ∙ known.2) in
      let not = c.if-not-are_same.true in
      cc,
)

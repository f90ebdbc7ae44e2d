use Rattle.std.proofs.Common.{◌≡◌, ◌∙◌, ◌++◌, ℕ, List, [], ◌∷◌, length, drop, get_or, sym, ap, arith}
use Rattle.std.proofs.lemmas.List.{map_push}
use Rattle.ark_base.specs.Laws.Steps.{done_injective}
use Rattle.ark_paths.specs.Pair.{Digest}
use Rattle.kept_tree.proofs.Besides.{levels-above}
use Rattle.kept_tree.proofs.MultiPaths.{drop-above}
use Rattle.kept_tree.specs.KeptTree.{digests_above}
use Rattle.kept_tree.proofs.multi_path.above_each.Goals as goal

pub places-preserved : goal.places-preserved
places-preserved c =
    let prefix = c.shared_levels-prefix.result in
    let made = c.in_ok-above_from.field-0 in
    let index = get_or c.args.indexes.now c.places.place 0 in
    let levels = levels-above (length c.args.memory.now) _ c.levels_of-levels.ensures in
    let rest : drop prefix (digests_above c.args.memory.now index) ≡ made.items =
    rw levels (drop-above c.args.memory.now index prefix c.levels_of-levels.result
    (omega (arith, levels, c.shared_levels-prefix.ensures.within)))
    ∙ done_injective _ _ c.in_ok-above_from.ensures in
    record {
      prefixes = c.in_ok-push.ensures.items ∙ ap (λ (ns : List ℕ). ns ++ prefix ∷ []) c.places.invariant.prefixes
          ∙ sym c.shared_levels-prefix.ensures.prefix;
      suffixes = rw (c.in_ok-push-2.ensures.items, map_push) (ap (λ (ds : List (List Digest)). ds ++ made.items ∷ [])
          c.places.invariant.suffixes ∙ sym (rw rest at c.shared_levels-prefix.ensures.suffix));
    }

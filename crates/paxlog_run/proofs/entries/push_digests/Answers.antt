use Rattle.std.proofs.Common.{◌≡◌, ◌∙◌, ◌++◌, length, ap, sym, Bor}
use Rattle.std.proofs.lemmas.List.{length-map, take_at}
use Rattle.std.proofs.lemmas.Simd.{map-map}
use Rattle.ark_trees.specs.Rfc6962.{entry_hash}
use Rattle.paxlog_run.proofs.entries.push_digests.Goals as goal

pub returns-clause-pushed : goal.returns-clause-pushed
returns-clause-pushed c =
    let long : length c.leaves.new.digests ≡ length c.args.lines.now =
    ap length c.leaves.ensures ∙ length-map c.args.lines.now (λ (line : Bor _). entry_hash line.now) in
    c.in_ok-extend_from_slice.ensures.items
    ∙ ap (λ ds. c.args.digests.now.items ++ ds) (take_at c.leaves.new.digests _ _ long ∙ c.leaves.ensures
    ∙ sym (map-map entry_hash (λ (line : Bor _). line.now) c.args.lines.now))

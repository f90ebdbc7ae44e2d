use Rattle.std.proofs.Common.{subst}
use Rattle.std.proofs.lemmas.List.{map-id}
use Rattle.ark_trees.specs.Rfc6962.{node_of}
use Rattle.merkle_log.specs.Bind.{BindsFront}
use Rattle.paxidore_page.proofs.Shown.{zero-shows}
use Rattle.paxidore_page.proofs.paxidore_page_consistency.Goals as goal

pub returns-clause-shows : goal.returns-clause-shows
returns-clause-shows c zero =
    subst (BindsFront node_of c.args.old_size c.args.old_root.now c.args.new_size c.args.new_root.now)
    (map-id c.args.proof.now)
    (zero-shows c.verify_consistency.result c.answer_number.result c.answer_number.ensures
    c.verify_consistency.ensures.bound
    zero)

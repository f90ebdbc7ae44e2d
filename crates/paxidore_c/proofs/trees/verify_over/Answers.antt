use Rattle.std.proofs.Common.{sym, ◌∙◌, refl}
use Rattle.std.proofs.lemmas.Bool.{lt-ltb}
use Rattle.paxidore_calls.specs.Hashing.{hashing_by}
use Rattle.paxidore_c.proofs.Codes.{shown-gives, shows-zero}
use Rattle.paxidore_c.proofs.trees.verify_over.Goals as goal

pub returns-clause-answer : goal.returns-clause-answer
returns-clause-answer g c = shown-gives (hashing_by g.H.ArrayHash.leaf_hash g.H.ArrayHash.node_hash)
    (λ leaf. leaf.items) _ refl
    c.args.root.now c.args.size c.args.index c.args.path.now c.in-Ok.leaf c.args.leaf.now c.in-Ok.ensures.items
    (sym c.is_tree_size.ensures.test ∙ c.if-not-is_tree_size.false)
    (lt-ltb c.args.index c.args.size c.if-index-size.false) c.verify_bytes.result c.verify_bytes.ensures.answer
    c.verdict_code.result c.verdict_code.ensures

pub returns-clause-shows : goal.returns-clause-shows
returns-clause-shows g c = shows-zero (hashing_by g.H.ArrayHash.leaf_hash g.H.ArrayHash.node_hash)
    (λ leaf. leaf.items) _ refl
    c.args.root.now c.args.size c.args.index c.args.path.now c.in-Ok.leaf c.args.leaf.now c.in-Ok.ensures.items
    c.verify_bytes.result c.verify_bytes.ensures.bound c.verdict_code.result c.verdict_code.ensures

use Rattle.std.specs.Prelude.{Ok}
use Rattle.ark_base.specs.Digits.{bytes_for, bytes_of_number}
use Rattle.ark_pedersen.specs.Pedersen.{generators_in}
use Rattle.ark_crypto_primitives.specs.Conflicts.{shown_leaf}
use Rattle.ark_crypto_primitives.specs.TreeRelations.{digest_view, pedersen_tree}
use Rattle.ark_crypto_primitives.proofs.Verdicts.{bytes-within, verdict-gives}
use Rattle.ark_crypto_primitives.proofs.conflicts.is_conflict.Goals as goal

pub returns-clause-relation : goal.returns-clause-relation
returns-clause-relation g c =
    let base = g.C.BaseField in
    let image = λ (x : _). Ok (bytes_of_number (bytes_for base.Field.MODULUS_BIT_SIZE) (g.C.TECoordinates.x x)) in
    let view = digest_view base.Numbered.numbers base.DigestItem.numbers_of base.DigestItem.bytes_of in
    let leaf = generators_in c.args.leaf_parameters.now in
    let pair = generators_in c.args.pair_parameters.now in
    let root = base.Numbered.numbers c.args.root.now in
    let path = c.args.left_path.now in
    let other = c.args.right_path.now in
    let a = shown_leaf c.args.left.now.items path.leaf_sibling_hash path.auth_path.items path.leaf_index in
    let b = shown_leaf c.args.right.now.items other.leaf_sibling_hash other.auth_path.items other.leaf_index in
    verdict-gives (pedersen_tree g.C.AdditiveGroup.group g.W.Window g.V.Window image view leaf pair) root a b _
    c.verdict_of.result (bytes-within c.args.left.now.items c.type_inv.left)
    (bytes-within c.args.right.now.items c.type_inv.right) (c.pedersen_trees_bind.ensures leaf pair root a b)
    c.verdict_of.ensures

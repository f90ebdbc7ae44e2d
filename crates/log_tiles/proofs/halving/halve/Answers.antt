use Rattle.std.proofs.Common.{suc, ◌≡◌, ◌+◌, ◌*◌, List, ℕ, Bor, [], ◌∷◌, ◌++◌, length, map, take, get_or, ap, sym, ◌∙◌, arith}
use Rattle.std.proofs.lemmas.List.{length-map, length-set, length-take-le, map-append, take-append-le, take_all, take_more_set}
use Rattle.ark_trees.specs.Rfc6962.{node_hash}
use Rattle.merkle_log.specs.Frontier.{complete_pairs}
use Rattle.log_tiles.proofs.Trees.{pairs-more}
use Rattle.log_tiles.proofs.halving.halve.Goals as goal

-- the hash of a pair of references
abbrev hash : Bor (List ℕ) × Bor (List ℕ) → List ℕ
hash c = node_hash c.0.now c.1.now

pub pairs-preserved : goal.pairs-preserved
pairs-preserved c =
    let p = c.pairs.pair in
    let below = c.args.below.now in
    let at = c.pairs.invariant in
    let two : suc (suc (2 * p)) ≡ 2 * (p + 1) = omega arith in
    let one : 2 * p + 1 ≡ suc (2 * p) = omega arith in
    let own = node_hash (get_or below (2 * p) []) (get_or below (2 * p + 1) []) in
    record {
      long = length-set c.pairs.couples p _ ∙ at.long;
      made = ap (map hash) (take_more_set c.pairs.couples p _ (omega (arith, at.long)))
          ∙ map-append hash (take p c.pairs.couples) (_ ∷ []) ∙ ap (λ l. l ++ (own ∷ [])) at.made
          ∙ ap (λ n. complete_pairs node_hash (take (2 * p) below)
          ++ (node_hash (get_or below (2 * p) []) (get_or below n []) ∷ [])) one
          ∙ sym (pairs-more node_hash [] p (2 * p) below (omega arith) (omega arith))
          ∙ ap (λ n. complete_pairs node_hash (take n below)) two;
    }

pub returns : goal.returns
returns c =
    let count = c.args.count in
    let run = take count c.pairs.couples in
    let made = c.nodes.new.digests in
    let long : length made ≡ count = ap length c.nodes.ensures ∙ length-map run hash
    ∙ length-take-le count c.pairs.couples (omega (arith, c.pairs.invariant.long)) in
    let all : c.pairs.pair ≡ count = omega arith in
    take-append-le count made _ (omega (arith, long)) ∙ take_all count made (omega (arith, long)) ∙ c.nodes.ensures
    ∙ ap (λ n. map hash (take n c.pairs.couples)) (sym all) ∙ c.pairs.invariant.made
    ∙ ap (λ n. complete_pairs node_hash (take (2 * n) c.args.below.now)) all

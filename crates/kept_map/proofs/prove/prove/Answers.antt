use Rattle.std.proofs.Common.{ℕ, List, [], length, sym, subst}
use Rattle.std.proofs.lemmas.List.{map-id}
use Rattle.merkle_map.specs.Tree.{StandsAt, way}
use Rattle.merkle_map.specs.KeyProof.{end_seen, proof_seen, seen_with}
use Rattle.ark_base.specs.Digits.{itself}
use Rattle.kept_map.specs.Digests.{IsProofAt}
use Rattle.kept_map.specs.declared.prove.ProveFault.TheVariants.{OutOfMemory}
use Rattle.kept_map.specs.KeptMap.{kept_hashes}
use Rattle.kept_map.proofs.Climbing.{answer-under, as-before, shown-under}
use Rattle.kept_map.proofs.UnderHeads.{lies-under}
use Rattle.kept_map.proofs.prove.prove.Goals as goal

pub returns-in_err-end-clause-found : goal.returns-in_err-end-clause-found
returns-in_err-end-clause-found g c = λ xs keeps.
    let h = kept_hashes g.H.ArrayHash.leaf_hash g.H.ArrayHash.node_hash g.H.KeptHash.nothing_hash in
    let is = c.in_err-end.ensures.found c.args.head.now.entries keeps.tree
    (lies-under h c.args.entries.now c.args.forks.now c.args.head.now xs keeps)
    (subst (λ (l : List (List ℕ)). StandsAt (way (length l) c.args.key.now) keeps.tree) (sym
    c.new-siblings.ensures.items) keeps.is.stands)
    keeps.count in
    as-before c.from_residual.result c.in_err-end.field-0.0 OutOfMemory c.from_residual.ensures.1 is

pub returns-clause-answer : goal.returns-clause-answer
returns-clause-answer g c =
    let entries = c.args.entries.now in
    let forks = c.args.forks.now in
    let h = kept_hashes g.H.ArrayHash.leaf_hash g.H.ArrayHash.node_hash g.H.KeptHash.nothing_hash in
    let items = c.climb_down.new.siblings.items in
    answer-under h entries forks c.args.head.now c.args.key.now
    (proof_seen itself (record { end = c.in_ok-end.end; siblings = c.climb_down.new.siblings }))
    (subst (λ l. IsProofAt h entries forks c.args.head.now.top c.args.key.now []
    (record { end = end_seen c.in_ok-end.end; siblings = l })) (sym (map-id items))
    (subst (λ l. IsProofAt h entries forks c.args.head.now.top c.args.key.now l
    (seen_with items c.in_ok-end.end)) c.new-siblings.ensures.items c.in_ok-end.ensures.proof))

pub returns-clause-accepted : goal.returns-clause-accepted
returns-clause-accepted g c =
    let entries = c.args.entries.now in
    let forks = c.args.forks.now in
    let h = kept_hashes g.H.ArrayHash.leaf_hash g.H.ArrayHash.node_hash g.H.KeptHash.nothing_hash in
    let items = c.climb_down.new.siblings.items in
    shown-under h entries forks c.args.head.now c.args.key.now
    (proof_seen itself (record { end = c.in_ok-end.end; siblings = c.climb_down.new.siblings }))
    (subst (λ l. IsProofAt h entries forks c.args.head.now.top c.args.key.now []
    (record { end = end_seen c.in_ok-end.end; siblings = l })) (sym (map-id items))
    (subst (λ l. IsProofAt h entries forks c.args.head.now.top c.args.key.now l
    (seen_with items c.in_ok-end.end)) c.new-siblings.ensures.items c.in_ok-end.ensures.proof))

use Rattle.std.proofs.Common.{sym, ◌∙◌}
use Rattle.std.proofs.lemmas.Slice.Eq.{bytes_eq-Decides}
use Rattle.kept_map.proofs.Rising.{no-keys}
use Rattle.kept_map.proofs.many.digest_to_hide.Goals as goal

pub returns-clause-hidden : goal.returns-clause-hidden
returns-clause-hidden g c = (
  no-keys c.args.keys.now (sym c.is_empty.ensures ∙ c.if-not-is_empty.false),
  c.in_ok-digest.ensures.digest,
  λ same.
      let yes = (bytes_eq-Decides c.in_ok-digest.digest c.nothing.result).1 (same ∙ sym c.nothing.ensures) in
      let no = sym c.are_same_digests.ensures ∙ c.if-are_same_digests.false in
      absurd cc,
)

pub returns-then-are_same_digests-clause-hidden : goal.returns-then-are_same_digests-clause-hidden
returns-then-are_same_digests-clause-hidden g c = λ none. (
  c.in_ok-digest.digest,
  c.in_ok-digest.ensures.digest,
  (bytes_eq-Decides c.in_ok-digest.digest c.nothing.result).0
      (sym c.are_same_digests.ensures ∙ c.if-are_same_digests.true) ∙ c.nothing.ensures,
)

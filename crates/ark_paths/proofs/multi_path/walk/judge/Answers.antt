use Rattle.std.proofs.Common.{◌≡◌, [], map, get_or, ap, sym, subst, ◌∙◌, rules, Bor}
use Rattle.std.proofs.lemmas.List.{get_or-map}
use Rattle.ark_base.proofs.Refusals.{passed_on}
use Rattle.ark_base.specs.Outcome.{Outcome}
use Rattle.ark_paths.specs.Pair.{Digest, digest_eq}
use Rattle.ark_paths.specs.PathBytes.{way_of}
use Rattle.ark_paths.specs.Table.{IsWalked, walk_of}
use Rattle.ark_paths.proofs.TableWalks.{verdict-by, verdict-refused}
use Rattle.ark_paths.proofs.multi_path.walk.judge.Goals as goal

pub returns-in_err-top-clause-answer : goal.returns-in_err-top-clause-answer
returns-in_err-top-clause-answer g c =
    let refusal = c.in_err-top.field-0.0 in
    passed_on (λ accepted. accepted) _ c.from_residual-in_err-top.result refusal c.from_residual-in_err-top.ensures.1
    c.in_err-top.ensures.answer
    (verdict-refused (g.T.PairHasher.pair c.args.hasher.now) _ (way_of g.H.Output.Numbered.numbers
    (λ (x : Bor _). g.D.Numbered.numbers x.now) (c.args.sibling.now, (c.args.above.now, c.args.index)))
    (g.D.Numbered.numbers c.args.root.now) (g.H.Output.Numbered.numbers c.in_ok-digest.digest) refusal
    c.in_ok-digest.ensures)

pub returns-clause-answer : goal.returns-clause-answer
returns-clause-answer g c =
    let inner = g.D.Numbered.numbers in
    let made = c.top_of.new.table.made.items in
    let top = c.index.result.now in
    let root = c.args.root.now in
    let at : get_or (map inner made) c.in_ok-top.top [] ≡ inner top =
    get_or-map inner made c.in_ok-top.top top [] c.in_ok-top.ensures.walked.0 ∙ ap inner (sym c.index.ensures) in
    let same : digest_eq (inner top) (inner root) ≡ c.eq.result = search rules in
    verdict-by (g.T.PairHasher.pair c.args.hasher.now) _ (way_of g.H.Output.Numbered.numbers
    (λ (x : Bor _). inner x.now) (c.args.sibling.now, (c.args.above.now, c.args.index))) (inner root)
    (g.H.Output.Numbered.numbers c.in_ok-digest.digest) (inner top) c.eq.result c.in_ok-digest.ensures
    (rw at at c.in_ok-top.ensures.answer) same

pub returns-clause-walked : goal.returns-clause-walked
returns-clause-walked g c =
    let way = way_of g.H.Output.Numbered.numbers (λ (x : Bor _). g.D.Numbered.numbers x.now)
    (c.args.sibling.now, (c.args.above.now, c.args.index)) in
    subst (λ (hashed : Outcome Digest). IsWalked g.H.Output.Numbered.numbers g.D.Numbered.numbers
    (g.T.PairHasher.pair c.args.hasher.now) way hashed
    (walk_of c.args.table.now (g.T.PairHasher.counted c.args.hasher.now))
    (walk_of c.top_of.new.table (g.T.PairHasher.counted c.top_of.new.hasher))) (sym c.in_ok-digest.ensures)
    c.in_ok-top.ensures.walked.1

use Rattle.std.proofs.Common.{◌≡◌, ◌+◌, ◌-◌, ◌/◌, ℕ, List, [], length, map, take, drop, set, get_or, arith, refl, ap, sym, subst, ◌∙◌}
use Rattle.std.proofs.lemmas.List.{drop_all, length-map, length-set}
use Rattle.std.specs.Prelude.{count_ones}
use Rattle.ark_paths.specs.Pair.{Digest}
use Rattle.ark_base.specs.declared.error.Error.{Error}
use Rattle.ark_base.specs.Laws.Steps.{done_injective}
use Rattle.merkle_log.specs.Frontier.{IsFrontier}
use Rattle.merkle_log.specs.Stored.{row_at}
use Rattle.merkle_log.proofs.Asking.{peak-here-at}
use Rattle.merkle_log.proofs.InsertionMaking.{Peaking, peaking-even, peaking-first, peaking-last, peaking-odd, peak-put}
use Rattle.merkle_log.proofs.KeptRows.{length-up}
use Rattle.merkle_log.proofs.Positions.{half_ones, up-more}
use Rattle.merkle_log.proofs.Subtrees.{no-ones}
use Rattle.merkle_log.proofs.insertion_making.insertion_proof_of.Goals as goal
use Rattle.merkle_log.proofs.insertion_making.insertion_proof_of.Goals.{then-left-eq1+in_ok-proof, else-left-eq1}

pub levels-init : goal.levels-init
levels-init g c = record {
  at = c.requires.room;
  long = c.requires.room;
  within = omega arith;
  up = refl;
  inside = c.requires.within;
  fits = omega arith;
  peaks = λ hash stored.
      let rows = row_at (g.R.Rows.stored c.args.rows.now) in
      let P : List Digest → Type 0 = λ l. Peaking hash rows c.args.size 0 c.args.size l in
      subst P (sym (drop_all (length c.args.proof.now) (map g.D.Numbered.numbers c.args.proof.now) (omega
      (arith, length-map c.args.proof.now g.D.Numbered.numbers)))) (peaking-first hash rows c.args.size
      c.requires.within);
}

pub overflow_sub-at : goal.overflow_sub-at
overflow_sub-at g c = omega (arith, c.levels.invariant.at, half_ones c.levels.left)

pub at-requires-clause-held : goal.at-requires-clause-held
at-requires-clause-held g c =
    peak-here-at (g.R.Rows.Holds c.args.rows.now) c.args.size c.levels.level (c.levels.left - 1) c.requires.held
    (omega (arith, c.levels.invariant.up, c.if-left-eq1.true))
    (omega (arith, c.levels.invariant.up, c.levels-test.true))

pub bounds-proof-at : goal.bounds-proof-at
bounds-proof-at g c = omega (arith, c.levels.invariant.within, c.levels.invariant.at, half_ones c.levels.left)

pub levels-preserved : goal.levels-preserved
levels-preserved g c =
    let rows = row_at (g.R.Rows.stored c.args.rows.now) in
    let half = half_ones c.levels.left in
    let long = length-up (g.R.Rows.stored c.args.rows.now) c.levels.level in
    let up = up-more c.levels.level c.args.size in
    elim c.if-left-eq1.branch [
      | then-left-eq1+in_ok-proof w ↦ record {
        at = omega (arith, w.at-is, c.levels.invariant.at, half, w.if-left-eq1.true);
        long = ap length w.proof-is ∙ length-set c.levels.proof (c.levels.at - 1) w.in_ok-proof.field-0
            ∙ c.levels.invariant.long;
        within = omega (
          arith,
          w.at-is,
          c.levels.invariant.within,
          ap length w.proof-is,
          length-set c.levels.proof (c.levels.at - 1) w.in_ok-proof.field-0,
        );
        up = omega (arith, up, c.levels.invariant.up);
        inside = omega (arith, long, c.levels.invariant.inside);
        fits = omega (arith, c.levels.invariant.fits, c.levels-test.true);
        peaks = λ hash stored.
            let P : List Digest → Type 0 = λ l. Peaking hash rows c.args.size (c.levels.level + 1) (c.levels.left / 2)
            l in
            subst P (peak-put g.D.Numbered.numbers c.levels.proof c.levels.at (c.levels.at - 1) w.in_ok-proof.field-0
            (get_or (rows c.levels.level) (c.levels.left - 1) []) (omega
            (arith, c.levels.invariant.at, half, w.if-left-eq1.true)) c.levels.invariant.within
            (sym w.at.ensures ∙ done_injective {E = Error} _ _ w.in_ok-proof.ensures)
            ∙ sym (ap (λ l. drop c.if-left-eq1.at (map g.D.Numbered.numbers l)) w.proof-is ∙ ap (λ n. drop n
            (map g.D.Numbered.numbers (set c.levels.proof (c.levels.at - 1) w.in_ok-proof.field-0))) w.at-is))
            (peaking-odd (c.levels.invariant.peaks hash stored) stored c.levels.invariant.inside w.if-left-eq1.true);
      }
      | else-left-eq1 w ↦ record {
        at = omega (arith, w.at-is, c.levels.invariant.at, half, w.if-left-eq1.false);
        long = ap length w.proof-is ∙ c.levels.invariant.long;
        within = omega (arith, w.at-is, c.levels.invariant.within, ap length w.proof-is);
        up = omega (arith, up, c.levels.invariant.up);
        inside = omega (arith, long, c.levels.invariant.inside);
        fits = omega (arith, c.levels.invariant.fits, c.levels-test.true);
        peaks = λ hash stored.
            let P : List Digest → Type 0 = λ l. Peaking hash rows c.args.size (c.levels.level + 1) (c.levels.left / 2)
            l in
            subst P (sym (ap (λ l. drop c.if-left-eq1.at (map g.D.Numbered.numbers l)) w.proof-is ∙ ap (λ n. drop n
            (map g.D.Numbered.numbers c.levels.proof)) w.at-is))
            (peaking-even (c.levels.invariant.peaks hash stored) stored c.levels.invariant.inside (omega
            (arith, w.if-left-eq1.false)));
      }
    ]

pub returns-clause-frontier : goal.returns-clause-frontier
returns-clause-frontier g c = λ hash stored.
    let none : c.levels.left ≡ 0 = omega (arith, c.levels-test.false) in
    let first : c.levels.at ≡ 0 = c.levels.invariant.at ∙ ap count_ones none ∙ no-ones in
    let rows = row_at (g.R.Rows.stored c.args.rows.now) in
    let P : ℕ → Type 0 = λ n. IsFrontier hash (take c.args.size (rows 0)) c.args.size (drop n
    (map g.D.Numbered.numbers c.levels.proof)) in
    subst P first (peaking-last (c.levels.invariant.peaks hash stored) none c.requires.within)

use Rattle.std.proofs.Common.{◌≡◌, ◌-◌, [], map, get_or, refl, ap, sym, ◌∙◌, arith}
use Rattle.ark_base.specs.declared.error.Error.{Error}
use Rattle.ark_base.specs.Laws.Steps.{done_injective}
use Rattle.merkle_log.specs.Binding.{edge_of, found_at, is_other_pair}
use Rattle.merkle_log.specs.Edge.{last_seen}
use Rattle.merkle_log.specs.Stored.{row_at}
use Rattle.merkle_log.proofs.Completing.{digest-read}
use Rattle.merkle_log.proofs.Climbing.{climbing-first, climbing-next, climbing-alone, climbing-inside, climbing-read, climbing-hashed, climbing-raised, climbing-end, memory_only}
use Rattle.merkle_log.proofs.bind.highest_other.Goals as goal
use Rattle.merkle_log.proofs.bind.highest_other.Goals.{then-has_beside+in_ok-own-2, else-has_beside}

pub levels-init : goal.levels-init
levels-init g c =
    let rows = row_at c.args.rows.now in
    let inside = c.requires.inside in
    let within = c.requires.within in
    let reaches = c.requires.reaches in
    record {
      count = omega arith;
      used = omega arith;
      has = omega arith;
      root = reaches.root;
      at = λ empty. climbing-first c.requires.stored c.args.size c.args.start _ _ _ (get_or (rows 0) (c.args.size - 1)
          []) c.requires.inside c.requires.within refl (reaches.hashed empty) reaches.walked
          (done_injective {E = Error} _ _ c.in_ok-own.ensures);
    }

pub is_other-differs-requires-clause-inside : goal.is_other-differs-requires-clause-inside
is_other-differs-requires-clause-inside g c = (c.levels.invariant.at []).along.inside

pub is_other-differs-requires-clause-within : goal.is_other-differs-requires-clause-within
is_other-differs-requires-clause-within g c = (c.levels.invariant.at []).last_at.inside

pub is_other-differs-requires-clause-last : goal.is_other-differs-requires-clause-last
is_other-differs-requires-clause-last g c = c.levels.invariant.has

pub is_other-differs-requires-clause-used : goal.is_other-differs-requires-clause-used
is_other-differs-requires-clause-used g c = λ beside.
    climbing-inside c.requires.stored (c.levels.invariant.at []) g.D.Numbered.numbers c.args.path.now c.levels.used refl
    c.levels-test.true beside

pub raise-requires-clause-last : goal.raise-requires-clause-last
raise-requires-clause-last g c = c.levels.invariant.has

pub returns-in_err-last-clause-refused : goal.returns-in_err-last-clause-refused
returns-in_err-last-clause-refused g c =
    memory_only c.from_residual-in_err-last.result c.in_err-last.field-0.0 c.from_residual-in_err-last.ensures.1
    (rw (c.new.ensures.hasher) at (c.in_err-last.ensures.raised (rw (c.new.ensures.hasher) c.requires.stored)))
    (λ refused. climbing-raised c.requires.stored (c.levels.invariant.at []) c.levels-test.true refused)

pub bounds-path-used : goal.bounds-path-used
bounds-path-used g c =
    climbing-inside c.requires.stored (c.levels.invariant.at []) g.D.Numbered.numbers c.args.path.now c.levels.used refl
    c.levels-test.true (sym c.has_beside.ensures ∙ c.if-has_beside.true)

pub returns-in_err-own-2-clause-refused : goal.returns-in_err-own-2-clause-refused
returns-in_err-own-2-clause-refused g c =
    memory_only c.from_residual-in_err-own-2.result c.in_err-own-2.field-0.0 c.from_residual-in_err-own-2.ensures.1
    c.in_err-own-2.ensures
    (λ refused. climbing-hashed c.requires.stored (c.levels.invariant.at []) c.levels-test.true
    (sym c.has_beside.ensures ∙ c.if-has_beside.true) (climbing-read c.requires.stored (c.levels.invariant.at [])
    g.D.Numbered.numbers c.args.path.now c.levels.used refl c.levels-test.true
    (sym c.has_beside.ensures ∙ c.if-has_beside.true) c.index-path-used.result c.index-path-used.is) refused)

pub overflow_add-used : goal.overflow_add-used
overflow_add-used g c =
    let below = climbing-inside c.requires.stored (c.levels.invariant.at []) g.D.Numbered.numbers c.args.path.now
    c.levels.used refl c.levels-test.true (sym c.has_beside.ensures ∙ c.if-has_beside.true) in
    omega (arith, c.well_formed)

pub overflow_add-level : goal.overflow_add-level
overflow_add-level g c =
    omega (arith, c.levels.invariant.count)

pub levels-preserved : goal.levels-preserved
levels-preserved g c =
    let numbers = g.D.Numbered.numbers in
    let row = row_at c.args.rows.now c.levels.level in
    let edge = edge_of row c.levels.last_index (last_seen numbers row c.levels.last_index c.levels.last) in
    let next_own = get_or (map numbers c.args.path.now) c.levels.used [] in
    let raised = rw (c.new.ensures.hasher) at (c.in_ok-last.ensures.raised (rw (c.new.ensures.hasher)
    c.requires.stored)) in
    let here = c.found_here-found.ensures ∙ ap (λ b. found_at b c.levels.level c.levels.found)
    c.is_other-differs.ensures in
    elim c.if-has_beside.branch [
      | then-has_beside+in_ok-own-2 w ↦
          let beside = sym c.has_beside.ensures ∙ w.if-has_beside.true in
          let below = climbing-inside c.requires.stored (c.levels.invariant.at []) numbers c.args.path.now c.levels.used
          refl c.levels-test.true beside in
          let read : numbers w.index-path-used.result ≡ next_own =
          digest-read numbers c.args.path.now c.levels.used w.index-path-used.result below w.index-path-used.is in
          record {
            count = omega (arith, c.levels.invariant.count);
            used = omega arith;
            has = c.in_ok-last.ensures.has;
            root = c.levels.invariant.root;
            at = λ empty. rw (w.own-is, w.used-is) (climbing-next c.requires.stored (c.levels.invariant.at empty)
                c.levels-test.true beside c.found_here-found.result (climbing-read c.requires.stored
                (c.levels.invariant.at empty) numbers c.args.path.now c.levels.used refl c.levels-test.true beside
                w.index-path-used.result w.index-path-used.is) w.in_ok-own-2.ensures raised
                (here ∙ ap (λ d. found_at (is_other_pair edge c.levels.index c.levels.last_index
                (numbers c.levels.own) d) c.levels.level c.levels.found) (sym read)));
          }
      | else-has_beside w ↦
          record {
            count = omega (arith, c.levels.invariant.count);
            used = omega (arith, c.levels.invariant.used);
            has = c.in_ok-last.ensures.has;
            root = c.levels.invariant.root;
            at = λ empty. rw (w.own-is, w.used-is) (climbing-alone c.requires.stored (c.levels.invariant.at empty)
                c.levels-test.true (sym c.has_beside.ensures ∙ w.if-has_beside.false) next_own
                c.found_here-found.result raised here);
          }
    ]

pub returns-clause-highest : goal.returns-clause-highest
returns-clause-highest g c = λ empty. climbing-end c.requires.stored (c.levels.invariant.at empty) (omega arith)

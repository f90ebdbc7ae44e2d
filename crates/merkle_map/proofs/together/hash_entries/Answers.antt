use Rattle.std.proofs.Common.{ap, sym, ◌∙◌}
use Rattle.ark_base.specs.Digits.{itself}
use Rattle.ark_base.specs.Laws.Steps.{done_injective}
use Rattle.ark_crh.specs.Ahead.{couples_seen, lent_couples, of_couple}
use Rattle.merkle_map.proofs.Ahead.{first-hashed}
use Rattle.merkle_map.proofs.together.hash_entries.Goals as goal

pub returns : goal.returns
returns g c =
    first-hashed g.D.Numbered.numbers (of_couple (g.H.MapViews.hashes c.args.hasher.now).leaf)
    (lent_couples itself c.deref-2.result.now) (couples_seen itself c.args.work.now.entries.items) c.leaves_ahead.result
    (ap (lent_couples itself) c.deref-2.ensures.value ∙ sym (done_injective _ _ c.in_ok-run.ensures)
    ∙ ap (couples_seen itself) c.deref.ensures.value) c.leaves_ahead.ensures

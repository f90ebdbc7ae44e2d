use Rattle.jubjub.specs.Jubjub.{d}
use Rattle.jubjub.specs.Laws.Completeness.{jubjub_is_complete}
use Rattle.jubjub.proofs.extended.plus_crossed.Goals as goal

pub returns : goal.returns
returns c = λ s on on_t stands.
    c.plus_products.ensures d jubjub_is_complete s _ on on_t stands
    (record { less_is = c.sub.ensures; more_is = c.add.ensures; cross_is = c.requires })

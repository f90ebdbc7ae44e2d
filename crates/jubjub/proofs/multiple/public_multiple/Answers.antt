use Rattle.std.proofs.Common.{subst}
use Rattle.ark_groups.specs.Group.{times}
use Rattle.jubjub.specs.Jubjub.{curve, d}
use Rattle.jubjub.specs.Extended.{Stands}
use Rattle.jubjub.specs.Laws.Completeness.{jubjub_is_complete}
use Rattle.jubjub.proofs.multiple.public_multiple.Goals as goal

pub returns-in-Some : goal.returns-in-Some
returns-in-Some c s on of_a =
    subst (λ n. Stands c.by_bits.result (times curve n s)) c.in-Some.ensures.some (c.by_bits.ensures s on of_a)

pub returns-in-None : goal.returns-in-None
returns-in-None c = c.multiple_public.ensures d jubjub_is_complete c.twice_coefficient.ensures
